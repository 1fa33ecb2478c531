-- Serving lets no session begin to listen to a target, or end it. And one without a target isn't raised.
use Rattle.std.proofs.Common.{◌≡◌, ℕ, ℤ, Bool, true, false, cond, List, [], ◌∷◌, map, Option, Some, None, refl, sym, ap, ◌∙◌, arith}
use Rattle.std.specs.Prelude.{◌==◌, ◌||◌, length, not}
use Rattle.std.specs.FinMap.{entries, entries-insert, find, get, get-entries, len-empty, len-entries, put}
use Rattle.std.specs.FinMap.Entries.{by_order}
use Rattle.std.specs.List.{flat_map, list_any}
use Rattle.std.specs.Ordering.{nat_cmp}
use Rattle.std.specs.declared.cmp.Ordering.{Ordering}
use Rattle.std.specs.declared.cmp.Ordering.TheVariants.{Less, Equal, Greater}
use Rattle.std.proofs.lemmas.Cmp.{nat_cmp_total}
use Rattle.fs_listen.specs.Cuts.{cut_behind, first_loading, is_ready, is_ready_at, least, positions_of}
use Rattle.fs_listen.specs.Listening.{Listened, Listening, each, loaded as loaded_in, loaded_at, loaded_one, none_listened, raised_to}
use Rattle.fs_machine.specs.Compact.{earlier}
use Rattle.fs_machine.specs.Listen.{listening_of}
use Rattle.fs_machine.specs.Listeners.{Listener, listening_in, with_listening}
use Rattle.fs_machine.specs.Match.{matched_to}
use Rattle.fs_machine.specs.Raise.{cut_of, raised, raised_at}
use Rattle.fs_machine.specs.Refusing.{outbox_is_full}
use Rattle.fs_machine.specs.State.{Machine}
use Rattle.fs_replay.specs.Lines.{is_any, nobody_listens}
use Rattle.fs_replay.specs.Settling.{serves}
use Rattle.fs_replay.specs.declared.state.State.{State}
use Rattle.fs_replay.proofs.Changed.{changed_all, entries_each, moves, renews}
use Rattle.fs_replay.proofs.Doing.{KeepsListening, loaded_holds, raised_holds}
use Rattle.fs_replay.proofs.Kept.{KeepsServing, keeps_serves, serves_kept}

-- ---- whether a session has targets stays as it is

abbrev pub listens : Listening → Bool
listens l = is_any (entries l.targets)

any_changed : (change : Listened → Listened) (es : List (ℕ × Listened)) → is_any (changed_all change es) ≡ is_any es
any_changed change [] = refl
any_changed change (e ∷ es) = refl

each_listens : (change : Listened → Listened) (s : Listening) → listens (each change s) ≡ listens s
each_listens change s = ap is_any (entries_each change s) ∙ any_changed change (entries s.targets)

placed_any : (o : Ordering) (id : ℕ) (l : Listened) (e : ℕ × Listened) (es rest : List (ℕ × Listened)) → is_any (by_order o ((id, l) ∷ e ∷ es) ((e.0, l) ∷ es) (e ∷ rest)) ≡ true
placed_any Less id l e es rest = refl
placed_any Equal id l e es rest = refl
placed_any Greater id l e es rest = refl

put_any : (id : ℕ) (l : Listened) (es : List (ℕ × Listened)) → is_any (put nat_cmp id l es) ≡ true
put_any id l [] = refl
put_any id l (e ∷ es) = placed_any (nat_cmp id e.0) id l e es (put nat_cmp id l es)

found_any : (id : ℕ) (l : Listened) (es : List (ℕ × Listened)) → find nat_cmp id es ≡ Some l → is_any es ≡ true
found_any id l [] found = absurd (cc)
found_any id l (e ∷ es) found = refl

loaded_at_listens : (shards : ℕ) (time : ℤ) (reset : Bool) (target : ℕ) (found : Option Listened) (s : Listening) → get s.targets target ≡ found → listens (loaded_at shards time reset target found s) ≡ listens s
loaded_at_listens shards time reset target None s is = refl
loaded_at_listens shards time reset target (Some l) s is =
    let k = loaded_one shards time reset l in
    let es = entries s.targets in
    ap is_any (entries-insert nat_cmp_total s.targets target k) ∙ put_any target k es ∙ sym (found_any target l es (sym (get-entries s.targets target) ∙ is))

loaded_listens : (shards target : ℕ) (time : ℤ) (reset : Bool) (s : Listening) → listens (loaded_in shards target time reset s) ≡ listens s
loaded_listens shards target time reset s = loaded_at_listens shards time reset target (get s.targets target) s refl

-- so one without targets stays without them
pub none_listening : KeepsListening (λ l. listens l ≡ false)
none_listening = record {
  by_load = λ shards id time reset l none. loaded_listens shards id time reset l ∙ none;
  by_match = λ shard to l none. each_listens (moves shard to) l ∙ none;
  by_raise = λ time l none. each_listens renews l ∙ none;
}

-- ---- of all of them

abbrev pub some_listen : List Listener → Bool
some_listen ls = list_any (λ (l : Listener). listens l.listening) ls

with_next : (change : Listening → Listening) (l : Listener) (ls rest : List Listener) (b : Bool) → listens (change l.listening) ≡ listens l.listening → some_listen rest ≡ some_listen ls
    → some_listen (cond b (record l { listening = change l.listening } ∷ ls) (l ∷ rest)) ≡ some_listen (l ∷ ls)
with_next change l ls rest true same more = ap (λ c. c || some_listen ls) same
with_next change l ls rest false same more = ap (λ c. listens l.listening || c) more

with_listens : (change : Listening → Listening) → ((s : Listening) → listens (change s) ≡ listens s) → (session : ℕ) (ls : List Listener) → some_listen (with_listening session change ls) ≡ some_listen ls
with_listens change same session [] = refl
with_listens change same session (l ∷ ls) =
    with_next change l ls (with_listening session change ls) (l.session == session) (same l.listening) (with_listens change same session ls)

matched_listens : (shard : ℕ) (to : ℤ) (ls : List Listener) → some_listen (map (matched_to shard to) ls) ≡ some_listen ls
matched_listens shard to [] = refl
matched_listens shard to (l ∷ ls) = λ i. each_listens (moves shard to) l.listening i || matched_listens shard to ls i

-- as many listen
abbrev AsMany : Machine → Machine → Type 0
AsMany m n = some_listen n.listeners ≡ some_listen m.listeners

listens_serving : (m : Machine) → KeepsServing (λ s. AsMany m s.server)
listens_serving m = record {
  by_taking = λ s number is. is;
  by_loading = λ s number target at is.
      let shards = s.server.config.shards in
      loaded_holds (AsMany m) s.server number is target at (λ time reset. with_listens (loaded_in shards target time reset) (loaded_listens shards target time reset) number s.server.listeners ∙ is);
  by_matching = λ s shard to is. matched_listens shard (earlier to s.server.past.released) s.server.listeners ∙ is;
  by_raising = λ s number is. raised_holds (AsMany m) s.server number is (λ time at. with_listens (raised_to time) (each_listens renews) number s.server.listeners ∙ is);
}

pub serves_listens : (s : State) → nobody_listens (serves s).state.server ≡ nobody_listens s.server
serves_listens s = ap not (serves_kept (λ t. AsMany s.server t.server) (keeps_serves (λ t. AsMany s.server t.server) (listens_serving s.server)) s refl)

-- ---- where nobody listens

never : {A : Type 0} → true ≡ false → A
never e = absurd (cc)

pub no_entries : (es : List (ℕ × Listened)) → is_any es ≡ false → es ≡ []
no_entries [] none = refl
no_entries (e ∷ es) none = never none

len_none : (es : List (ℕ × Listened)) → length es ≡ 0 → is_any es ≡ false
len_none [] none = refl
len_none (e ∷ es) none = absurd (omega (arith, none))

pub no_targets : listens none_listened ≡ false
no_targets = len_none (entries none_listened.targets) (sym (len-entries none_listened.targets) ∙ len-empty nat_cmp Listened)

pub of_first : (b c : Bool) → (b || c) ≡ false → b ≡ false
of_first true c none = never none
of_first false c none = refl

pub of_others : (b c : Bool) → (b || c) ≡ false → c ≡ false
of_others true c none = never none
of_others false c none = none

pub none_any : (b : Bool) → not b ≡ true → b ≡ false
none_any true is = never (sym is)
none_any false is = refl

-- none of the sessions has a target
none_in : (session : ℕ) (ls : List Listener) → some_listen ls ≡ false → listens (listening_in session ls) ≡ false
none_in session [] none = no_targets
none_in session (l ∷ ls) none = by_test (none_in session ls (of_others (listens l.listening) (some_listen ls) none)) (l.session == session) where
  by_test : listens (listening_in session ls) ≡ false → (here : Bool) → listens (cond here l.listening (listening_in session ls)) ≡ false
  by_test rest true = of_first (listens l.listening) (some_listen ls) none
  by_test rest false = rest

pub none_of : (m : Machine) (session : ℕ) → nobody_listens m ≡ true → listens (listening_of m session) ≡ false
none_of m session nobody = none_in session m.listeners (none_any (some_listen m.listeners) nobody)

-- one without a target isn't ready
pub none_ready : (l : Listening) → listens l ≡ false → is_ready l ≡ false
none_ready l none =
    ap (λ (es : List (ℕ × Listened)). is_ready_at l (cut_behind (first_loading es) (least (flat_map (λ (k : Listened). positions_of k.loaded) (map (λ e. e.1) es)))))
    (no_entries (entries l.targets) none)

isnt_raised : (m : Machine) (session : ℕ) (full : Bool) → is_ready (listening_of m session) ≡ false → cond full m (cond (is_ready (listening_of m session)) (raised_at m session (cut_of m session)) m) ≡ m
isnt_raised m session true none = refl
isnt_raised m session false none = ap (λ b. cond b (raised_at m session (cut_of m session)) m) none

-- and isn't raised
pub stays_raised : (m : Machine) (session : ℕ) → is_ready (listening_of m session) ≡ false → raised m session ≡ m
stays_raised m session none = isnt_raised m session (outbox_is_full m session) none
