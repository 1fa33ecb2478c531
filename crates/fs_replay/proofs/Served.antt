-- Where sessions were served, each was told all.
use Rattle.std.proofs.Common.{◌≡◌, ◌⊎◌, inl, inr, ℕ, ℤ, ◌+◌, ◌≤◌, ◌<◌, suc, zero, Bool, true, false, cond, List, [], ◌∷◌, length, map, Option, Some, None, refl, sym, ap, ◌∙◌, subst, arith, below_more}
use Rattle.std.specs.Prelude.{◌==◌, ◌||◌, nat_le, not}
use Rattle.std.specs.FinMap.{entries, get}
use Rattle.std.specs.List.{AllByRecursion, count_by, list_any}
use Rattle.std.proofs.lemmas.Bool.{eqb-true}
use Rattle.std.proofs.lemmas.List.Sums.{sum_by-cons}
use Rattle.fs_request.specs.declared.message.Message.{Message}
use Rattle.fs_listen.specs.Cuts.{cut, first_loading, is_loaded, is_ready, is_ready_at}
use Rattle.fs_listen.specs.Listening.{Listened, Listening, each, made_current, moved, none_listened, raised_to}
use Rattle.fs_listen.specs.declared.cut.Cut.{Cut}
use Rattle.fs_listen.specs.declared.cut.Cut.TheVariants.{At, Loading, NoTarget}
use Rattle.fs_machine.specs.Compact.{earlier}
use Rattle.fs_machine.specs.Listen.{listening_of}
use Rattle.fs_machine.specs.Listeners.{Listener, listening_in, with_listening}
use Rattle.fs_machine.specs.Match.{matched, matched_to}
use Rattle.fs_machine.specs.Raise.{cut_of, raised, raised_at}
use Rattle.fs_machine.specs.Refusing.{outbox_is_full}
use Rattle.fs_machine.specs.State.{Machine}
use Rattle.fs_machine.proofs.Listening.{raised_rest}
use Rattle.fs_replay.specs.BetweenLines.{IsServed, numbers_in}
use Rattle.fs_replay.specs.Settling.{loads_each, loads_from, loads_next, loads_of, loads_one, matches_all, matches_from, raises_each, serves, unloaded_count}
use Rattle.fs_replay.specs.declared.directory.Named.{Named}
use Rattle.fs_replay.specs.declared.state.State.{State}
use Rattle.fs_replay.proofs.Beside.{Empty, IsBeside, beside_serving, empty_serving, serves_beside}
use Rattle.fs_replay.proofs.Changed.{IsAt, all_changed, changed_all, each_changed, each_same, entries_each, first_changed, is_at, loaded_first, moves, never_ready, renewed_at, renews, stays_at}
use Rattle.fs_replay.proofs.Doing.{HoldsOf, KeepsListening, keeps_listening, raised_holds, with_other}
use Rattle.fs_replay.proofs.Kept.{Serves, all_loaded_kept, all_raised_kept, keeps_serves, loads_kept, matches_kept, raises_one, serves_kept, with_server}
use Rattle.fs_replay.proofs.Known.{has_number, known_by_number}
use Rattle.fs_replay.proofs.Loading.{first_loads}
use Rattle.fs_replay.proofs.Nobody.{listens, no_entries, no_targets, none_listening, none_ready, of_first, of_others, stays_raised}
use Rattle.fs_replay.proofs.Standing.{Stands}
use Rattle.fs_replay.proofs.Waiting.{nothing_in}

-- ---- each target is loaded

abbrev pub AllLoaded : Listening → Type 0
AllLoaded l = first_loading (entries l.targets) ≡ None

loaded_listening : KeepsListening AllLoaded
loaded_listening = record {
  by_load = λ shards id time reset l all. loaded_first shards time reset id (get l.targets id) l all;
  by_match = λ shard to l all. ap first_loading (entries_each (moves shard to) l) ∙ first_changed (moved shard to) (entries l.targets) ∙ all;
  by_raise = λ time l all. ap first_loading (entries_each renews l) ∙ first_changed made_current (entries l.targets) ∙ all;
}

loaded_serving : (k : ℕ) → Serves (HoldsOf AllLoaded k)
loaded_serving k = keeps_serves (HoldsOf AllLoaded k) (keeps_listening AllLoaded k loaded_listening)

-- those of entries that aren't
abbrev left_among : List (ℕ × Listened) → ℕ
left_among es = count_by (λ (e : ℕ × Listened). not (is_loaded e.1.loaded)) es

none_left : (es : List (ℕ × Listened)) → left_among es ≡ 0 → first_loading es ≡ None
none_left [] none = refl
none_left (e ∷ es) none = by_test (none_left es) (is_loaded e.1.loaded) (sum_by-cons (λ (d : ℕ × Listened). cond (not (is_loaded d.1.loaded)) 1 0) e es) where
  by_test : (left_among es ≡ 0 → first_loading es ≡ None) → (there : Bool) → left_among (e ∷ es) ≡ cond (not there) 1 0 + left_among es → cond there (first_loading es) (Some e.0) ≡ None
  by_test more true counted = more (omega (arith, none, counted))
  by_test more false counted = absurd (omega (arith, none, counted))

loads_end : (k : ℕ) (n : Named) (s : State) → unloaded_count s.server n.number ≤ k → AllLoaded (listening_of (loads_from k n s).state.server n.number)
loads_end zero n s within = none_left (entries (listening_of s.server n.number).targets) (omega (arith, within))
loads_end (suc k) n s within = by_first (loads_end k n) (first_loading (entries (listening_of s.server n.number).targets)) refl where
  by_first : ((t : State) → unloaded_count t.server n.number ≤ k → AllLoaded (listening_of (loads_from k n t).state.server n.number)) → (first : Option ℕ) → first_loading (entries (listening_of s.server n.number).targets) ≡ first → AllLoaded (listening_of (loads_next n s (loads_from k n) first).state.server n.number)
  by_first more None is = is
  by_first more (Some id) is =
      let t = (loads_one n id s).state in
      let one : unloaded_count t.server n.number + 1 ≡ unloaded_count s.server n.number = first_loads s.server n.number id is in
      more t (omega (arith, one, within))

each_end : (ns : List Named) (s : State) (k : ℕ) → (has_number k ns ≡ true) ⊎ AllLoaded (listening_of s.server k) → AllLoaded (listening_of (loads_each ns s).state.server k)
each_end [] s k (inl known) = absurd (cc)
each_end [] s k (inr all) = all
each_end (n ∷ ns) s k (inr all) =
    each_end ns (loads_of n s).state k (inr (loads_kept (HoldsOf AllLoaded k) (loaded_serving k).by_loading (unloaded_count s.server n.number) n s all))
each_end (n ∷ ns) s k (inl known) = by_test (each_end ns (loads_of n s).state k) (n.number == k) refl known where
  by_test : ((has_number k ns ≡ true) ⊎ AllLoaded (listening_of (loads_of n s).state.server k) → AllLoaded (listening_of (loads_each ns (loads_of n s).state).state.server k))
      → (here : Bool) → (n.number == k) ≡ here → (here || has_number k ns) ≡ true → AllLoaded (listening_of (loads_each ns (loads_of n s).state).state.server k)
  by_test more true is known =
      let t = (loads_of n s).state in
      more (inr (subst (λ j. AllLoaded (listening_of t.server j)) (eqb-true n.number k is) (loads_end (unloaded_count s.server n.number) n s (omega arith))))
  by_test more false is known = more (inl known)

-- ---- each shard is matched

abbrev pub AllAt : ℕ → ℤ → List Listener → Type 0
AllAt shard to ls = AllByRecursion (λ (l : Listener). AllByRecursion (λ (e : ℕ × Listened). IsAt shard to e.1) (entries l.listening.targets)) ls

each_at : (shard : ℕ) (to : ℤ) (change : Listened → Listened) (l : Listening) → AllByRecursion (λ (e : ℕ × Listened). IsAt shard to e.1) (changed_all change (entries l.targets))
    → AllByRecursion (λ (e : ℕ × Listened). IsAt shard to e.1) (entries (each change l).targets)
each_at shard to change l all = subst (AllByRecursion (λ (e : ℕ × Listened). IsAt shard to e.1)) (sym (entries_each change l)) all

matched_at : (shard : ℕ) (to : ℤ) (ls : List Listener) → AllAt shard to (map (matched_to shard to) ls)
matched_at shard to [] = tt
matched_at shard to (l ∷ ls) =
    (each_at shard to (moves shard to) l.listening (each_changed (IsAt shard to) (moves shard to) (is_at shard to) (entries l.listening.targets)), matched_at shard to ls)

still_at : (shard other : ℕ) (to : ℤ) (ls : List Listener) → AllAt shard to ls → AllAt shard to (map (matched_to other to) ls)
still_at shard other to [] all = tt
still_at shard other to (l ∷ ls) all =
    (each_at shard to (moves other to) l.listening (all_changed (IsAt shard to) (moves other to) (stays_at shard other to) (entries l.listening.targets) all.0), still_at shard other to ls all.1)

told_at : (shard : ℕ) (to time : ℤ) (session : ℕ) (ls : List Listener) → AllAt shard to ls → AllAt shard to (with_listening session (raised_to time) ls)
told_at shard to time session [] all = tt
told_at shard to time session (l ∷ ls) all = by_test (told_at shard to time session ls all.1) (l.session == session) where
  by_test : AllAt shard to (with_listening session (raised_to time) ls) → (here : Bool)
      → AllAt shard to (cond here (record l { listening = raised_to time l.listening } ∷ ls) (l ∷ with_listening session (raised_to time) ls))
  by_test more true = (each_at shard to renews l.listening (all_changed (IsAt shard to) renews (renewed_at shard to) (entries l.listening.targets) all.0), all.1)
  by_test more false = (all.0, more)

pub matched_same : (shard : ℕ) (to : ℤ) (ls : List Listener) → AllAt shard to ls → map (matched_to shard to) ls ≡ ls
matched_same shard to [] all = refl
matched_same shard to (l ∷ ls) all = λ i. record l { listening = each_same (moves shard to) l.listening all.0 i } ∷ matched_same shard to ls all.1 i

matches_end : (to : ℤ) (k shard : ℕ) (s : State) → earlier s.server.past.released s.server.past.released ≡ to → ((i : ℕ) → i < shard → AllAt i to s.server.listeners)
    → (i : ℕ) → i < shard + k → AllAt i to (matches_from k shard s).state.server.listeners
matches_end to zero shard s is all i within = all i (omega (arith, within))
matches_end to (suc k) shard s is all i within =
    let ls = s.server.listeners in
    let t = with_server s (matched s.server shard s.server.past.released) in
    let stays : (j : ℕ) → j < shard → AllAt j to t.server.listeners = λ j below. subst (λ time. AllAt j to (map (matched_to shard time) ls)) (sym is) (still_at j shard to ls (all j below)) in
    let here : AllAt shard to t.server.listeners = subst (λ time. AllAt shard to (map (matched_to shard time) ls)) (sym is) (matched_at shard to ls) in
    matches_end to k (shard + 1) t is (below_more (λ j. AllAt j to t.server.listeners) shard stays here) i (omega (arith, within))

-- ---- each session is raised

abbrev NotReady : Listening → Type 0
NotReady l = is_ready l ≡ false

raised_in : (session : ℕ) (time : ℤ) (ls : List Listener) → cut (listening_in session ls) ≡ At time → NotReady (listening_in session (with_listening session (raised_to time) ls))
raised_in session time [] is = none_ready none_listened no_targets
raised_in session time (l ∷ ls) is = by_test (raised_in session time ls) (l.session == session) refl is where
  by_test : (cut (listening_in session ls) ≡ At time → NotReady (listening_in session (with_listening session (raised_to time) ls))) → (here : Bool) → (l.session == session) ≡ here → cut (cond here l.listening (listening_in session ls)) ≡ At time
      → NotReady (listening_in session (cond here (record l { listening = raised_to time l.listening } ∷ ls) (l ∷ with_listening session (raised_to time) ls)))
  by_test more true here is = subst (λ b. NotReady (cond b (raised_to time l.listening) (listening_in session ls))) (sym here) (never_ready l.listening time is)
  by_test more false here is = subst (λ b. NotReady (cond b l.listening (listening_in session (with_listening session (raised_to time) ls)))) (sym here) (more is)

module _ (m : Machine) (session : ℕ) where
  raise_to : (to : Cut) → cut_of m session ≡ to → NotReady (listening_of (raised_at m session to) session)
  raise_to (At time) is = raised_in session time m.listeners is
  raise_to (Loading id) is = ap (is_ready_at (listening_of m session)) is
  raise_to NoTarget is = ap (is_ready_at (listening_of m session)) is

  raise_if : (full ready : Bool) → full ≡ false → is_ready (listening_of m session) ≡ ready → NotReady (listening_of (cond full m (cond ready (raised_at m session (cut_of m session)) m)) session)
  raise_if true ready room is = absurd (cc)
  raise_if false true room is = raise_to (cut_of m session) refl
  raise_if false false room is = is

  raise_ends : outbox_is_full m session ≡ false → NotReady (listening_of (raised m session) session)
  raise_ends room = raise_if (outbox_is_full m session) (is_ready (listening_of m session)) room refl

  -- and if not, it stays so
  raise_stays : (of : ℕ) → NotReady (listening_of m of) → NotReady (listening_of (raised m session) of)
  raise_stays of none = by_test (of == session) refl where
    by_test : (here : Bool) → (of == session) ≡ here → NotReady (listening_of (raised m session) of)
    by_test true is =
        let one = eqb-true of session is in
        subst (λ (n : Machine). NotReady (listening_of n of)) (sym (stays_raised m session (subst (λ j. NotReady (listening_of m j)) one none))) none
    by_test false is = raised_holds (λ n. NotReady (listening_of n of)) m session none (λ time at. subst NotReady (sym (with_other (raised_to time) m.listeners session of is)) none)

-- there is no room for any message
abbrev NoRoom : State → Bool
NoRoom s = nat_le s.server.limits.outbox 0

full_by : (s : State) (session : ℕ) → Empty s → outbox_is_full s.server session ≡ NoRoom s
full_by s session empty = ap (λ (ms : List Message). nat_le s.server.limits.outbox (length ms)) (nothing_in s.server.sessions session empty)

-- one of these sessions, or one that isn't ready anyway
abbrev OneOf : List Named → State → ℕ → Type 0
OneOf ns s k = (has_number k ns ≡ true) ⊎ NotReady (listening_of s.server k)

-- isn't ready once they are raised
abbrev EndsRaised : List Named → State → ℕ → Type 0
EndsRaised ns s k = NotReady (listening_of (raises_each ns s).state.server k)

raise_first : (n : Named) (ns : List Named) (s : State) (k : ℕ) → Empty s → NoRoom s ≡ false → (OneOf ns (raises_one n s).state k → EndsRaised ns (raises_one n s).state k) → OneOf (n ∷ ns) s k
    → EndsRaised ns (raises_one n s).state k
raise_first n ns s k empty room more (inr none) = more (inr (raise_stays s.server n.number k none))
raise_first n ns s k empty room more (inl known) = by_test (n.number == k) refl known where
  by_test : (here : Bool) → (n.number == k) ≡ here → (here || has_number k ns) ≡ true → EndsRaised ns (raises_one n s).state k
  by_test true is known =
      more (inr (subst (λ j. NotReady (listening_of (raised s.server n.number) j)) (eqb-true n.number k is) (raise_ends s.server n.number (full_by s n.number empty ∙ room))))
  by_test false is known = more (inl known)

raises_end : (ns : List Named) (s : State) (k : ℕ) → Empty s → NoRoom s ≡ false → OneOf ns s k → EndsRaised ns s k
raises_end [] s k empty room (inl known) = absurd (cc)
raises_end [] s k empty room (inr none) = none
raises_end (n ∷ ns) s k empty room one =
    let t = (raises_one n s).state in
    let same = ap (λ (m : Machine). nat_le m.limits.outbox 0) (raised_rest s.server n.number) in
    raise_first n ns s k empty room (raises_end ns t k (empty_serving.by_raising s n empty) (same ∙ room)) one

all_raised_by : (s : State) (session : ℕ) (full : Bool) → NoRoom s ≡ full → Empty s → (NoRoom s ≡ false → NotReady (listening_of s.server session)) → raised s.server session ≡ s.server
all_raised_by s session true is empty none =
    ap (λ full. cond full s.server (cond (is_ready (listening_of s.server session)) (raised_at s.server session (cut_of s.server session)) s.server)) (full_by s session empty ∙ is)
all_raised_by s session false is empty none = stays_raised s.server session (none is)

-- ---- sessions that the script doesn't know

unlisted : (ls : List Listener) (k : ℕ) → list_any (λ j. j == k) (map (λ (l : Listener). l.session) ls) ≡ false → listening_in k ls ≡ none_listened
unlisted [] k none = refl
unlisted (l ∷ ls) k none =
    let rest = list_any (λ j. j == k) (map (λ (x : Listener). x.session) ls) in
    ap (λ b. cond b l.listening (listening_in k ls)) (of_first (l.session == k) rest none) ∙ unlisted ls k (of_others (l.session == k) rest none)

unknown : (s : State) (k : ℕ) → Stands s → has_number k s.directory ≡ false → listening_of s.server k ≡ none_listened
unknown s k stands none =
    let same : map (λ (l : Listener). l.session) s.server.listeners ≡ numbers_in s.directory = stands.facts.listeners.listed ∙ sym stands.fits.known in
    unlisted s.server.listeners k (ap (list_any (λ j. j == k)) same ∙ sym (known_by_number s.directory k) ∙ none)

unknown_none : (s : State) (k : ℕ) → Stands s → has_number k s.directory ≡ false → listens (listening_of s.server k) ≡ false
unknown_none s k stands none = ap listens (unknown s k stands none) ∙ no_targets

none_serving : (k : ℕ) → Serves (HoldsOf (λ l. listens l ≡ false) k)
none_serving k = keeps_serves (HoldsOf (λ l. listens l ≡ false) k) (keeps_listening (λ l. listens l ≡ false) k none_listening)

known_or : (b : Bool) → (b ≡ true) ⊎ (b ≡ false)
known_or true = inl refl
known_or false = inr refl

-- ---- all of it

module _ (s : State) (stands : Stands s) (empty : Empty s) where
  -- with each target loaded, and then with each shard matched
  abbrev loaded_all : State
  loaded_all = (loads_each s.directory s).state

  abbrev matched_up : State
  matched_up = (matches_all loaded_all).state

  abbrev served : State
  served = (serves s).state

  abbrev shards : ℕ
  shards = loaded_all.server.config.shards

  loaded_beside : IsBeside s loaded_all
  loaded_beside = all_loaded_kept (IsBeside s) (keeps_serves (IsBeside s) (beside_serving s)).by_loading s.directory s refl

  matched_beside : IsBeside s matched_up
  matched_beside = matches_kept (IsBeside s) (beside_serving s).by_matching shards 0 loaded_all loaded_beside

  all_loaded_then : (k : ℕ) → AllLoaded (listening_of loaded_all.server k)
  all_loaded_then k = each_end s.directory s k (by_known (known_or (has_number k s.directory))) where
    by_known : (has_number k s.directory ≡ true) ⊎ (has_number k s.directory ≡ false) → (has_number k s.directory ≡ true) ⊎ AllLoaded (listening_of s.server k)
    by_known (inl known) = inl known
    by_known (inr none) = inr (ap first_loading (no_entries (entries (listening_of s.server k).targets) (unknown_none s k stands none)))

  loaded_then : (k : ℕ) → AllLoaded (listening_of served.server k)
  loaded_then k =
      all_raised_kept (HoldsOf AllLoaded k) (loaded_serving k).by_raising matched_up.directory matched_up
      (matches_kept (HoldsOf AllLoaded k) (loaded_serving k).by_matching shards 0 loaded_all (all_loaded_then k))

  -- the time up to which shards are matched
  abbrev time : ℤ
  time = earlier s.server.past.released s.server.past.released

  at_time : (t : State) → IsBeside s t → earlier t.server.past.released t.server.past.released ≡ time
  at_time t is = ap (λ (u : State). earlier u.server.past.released u.server.past.released) is

  all_at_then : (i : ℕ) → i < shards → AllAt i time served.server.listeners
  all_at_then i within =
      all_raised_kept (λ t. AllAt i time t.server.listeners)
      (λ t n all. raised_holds (λ m. AllAt i time m.listeners) t.server n.number all (λ to at. told_at i time to n.number t.server.listeners all)) matched_up.directory matched_up
      (matches_end time shards 0 loaded_all (at_time loaded_all loaded_beside) (λ j below. absurd (omega (arith, below))) i (omega (arith, within)))

  matched_then : (i : ℕ) → i < served.server.config.shards → matched served.server i served.server.past.released ≡ served.server
  matched_then i within =
      let same : served.server.config.shards ≡ shards = ap (λ (t : State). t.server.config.shards) (serves_beside s) ∙ sym (ap (λ (t : State). t.server.config.shards) loaded_beside) in
      let all = all_at_then i (omega (arith, within, same)) in
      ap (λ (ls : List Listener). record served.server { listeners = ls })
      (ap (λ to. map (matched_to i to) served.server.listeners) (at_time served (serves_beside s)) ∙ matched_same i time served.server.listeners all)

  not_ready_then : (k : ℕ) → NoRoom served ≡ false → NotReady (listening_of served.server k)
  not_ready_then k room =
      let matched_empty = matches_kept Empty empty_serving.by_matching shards 0 loaded_all (all_loaded_kept Empty empty_serving.by_loading s.directory s empty) in
      let limits : NoRoom matched_up ≡ NoRoom served = ap NoRoom matched_beside ∙ sym (ap NoRoom (serves_beside s)) in
      raises_end matched_up.directory matched_up k matched_empty (limits ∙ room) (by_known (known_or (has_number k s.directory)))
    where
      by_known : (has_number k s.directory ≡ true) ⊎ (has_number k s.directory ≡ false) → OneOf matched_up.directory matched_up k
      by_known (inl known) = inl (ap (λ (t : State). has_number k t.directory) matched_beside ∙ known)
      by_known (inr none) =
          inr (none_ready (listening_of matched_up.server k)
          (matches_kept (HoldsOf (λ l. listens l ≡ false) k) (none_serving k).by_matching shards 0 loaded_all
          (all_loaded_kept (HoldsOf (λ l. listens l ≡ false) k) (none_serving k).by_loading s.directory s (unknown_none s k stands none))))

  pub serves_all : IsServed served.server
  serves_all = record {
    all_loaded = loaded_then;
    all_matched = matched_then;
    all_raised = λ k. all_raised_by served k (NoRoom served) refl (serves_kept Empty empty_serving s empty) (not_ready_then k);
  }
