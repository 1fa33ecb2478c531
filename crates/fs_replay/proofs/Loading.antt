-- What a load does makes less of what is to be loaded.
use Rattle.std.proofs.Common.{◌≡◌, ℕ, ◌+◌, Bool, true, false, cond, List, [], ◌∷◌, Some, None, refl, sym, ap, ◌∙◌, arith}
use Rattle.std.specs.Prelude.{IsTrue, ◌==◌, not}
use Rattle.std.specs.Cmp.{first_so, second_so}
use Rattle.std.specs.FinMap.{entries, entries-insert, entries_sorted, find, get, get-empty, get-entries, is_sorted, put}
use Rattle.std.specs.FinMap.Entries.{below_all, by_order}
use Rattle.std.specs.List.{count_by}
use Rattle.std.specs.Ordering.{is_eq, is_lt, nat_cmp, ordering_reverse}
use Rattle.std.specs.declared.cmp.Ordering.{Ordering}
use Rattle.std.specs.declared.cmp.Ordering.TheVariants.{Less, Equal, Greater}
use Rattle.std.proofs.lemmas.Cmp.{nat_cmp_total, tied_itself}
use Rattle.std.proofs.lemmas.List.Sums.{sum_by-cons}
use Rattle.fs_path.proofs.Bools.{to_true}
use Rattle.fs_listen.specs.Cuts.{first_loading, is_loaded}
use Rattle.fs_listen.specs.Listening.{Listened, Listening, loaded as loaded_in, loaded_at, loaded_one}
use Rattle.fs_listen.specs.Runs.{is_lost}
use Rattle.fs_machine.specs.Listen.{listening_of}
use Rattle.fs_machine.specs.Listeners.{Listener, listening_in, with_listening}
use Rattle.fs_machine.specs.Load.{loaded, loaded_unless, loaded_with, refusal_at, time_refusal}
use Rattle.fs_machine.specs.State.{Machine}
use Rattle.fs_replay.specs.Settling.{unloaded_count}

-- ---- among entries

abbrev waits : ℕ × Listened → Bool
waits e = not (is_loaded e.1.loaded)

abbrev unloaded_among : List (ℕ × Listened) → ℕ
unloaded_among es = count_by waits es

counted_as : (e : ℕ × Listened) (es : List (ℕ × Listened)) (there : Bool) → is_loaded e.1.loaded ≡ there → unloaded_among (e ∷ es) ≡ cond (not there) 1 0 + unloaded_among es
counted_as e es there is = sum_by-cons (λ d. cond (waits d) 1 0) e es ∙ ap (λ b. cond (not b) 1 0 + unloaded_among es) is

less : (o : Ordering) → is_lt o ≡ true → o ≡ Less
less Less is = refl
less Equal is = absurd (cc)
less Greater is = absurd (cc)

-- a number below all of them is below that of the first that isn't loaded
below_first : (x id : ℕ) (es : List (ℕ × Listened)) → IsTrue (below_all nat_cmp x es) → first_loading es ≡ Some id → nat_cmp x id ≡ Less
below_first x id [] below is = absurd (cc)
below_first x id (e ∷ es) below is = by_test (below_first x id es (second_so (is_lt (nat_cmp x e.0)) (below_all nat_cmp x es) below)) (is_loaded e.1.loaded) is where
  by_test : (first_loading es ≡ Some id → nat_cmp x id ≡ Less) → (there : Bool) → cond there (first_loading es) (Some e.0) ≡ Some id → nat_cmp x id ≡ Less
  by_test more true is = more is
  by_test more false is =
      let one : e.0 ≡ id = cc in
      ap (nat_cmp x) (sym one) ∙ less (nat_cmp x e.0) (first_so (is_lt (nat_cmp x e.0)) (below_all nat_cmp x es) below)

-- the first isn't loaded, and one less is where it is
record First (id : ℕ) (es : List (ℕ × Listened)) : Type 0 where
  target : Listened
  found : find nat_cmp id es ≡ Some target
  isnt : is_loaded target.loaded ≡ false
  one_less : (l : Listened) → is_loaded l.loaded ≡ true → unloaded_among (put nat_cmp id l es) + 1 ≡ unloaded_among es

the_first : (id : ℕ) (es : List (ℕ × Listened)) → IsTrue (is_sorted nat_cmp es) → first_loading es ≡ Some id → First id es
the_first id [] rise is = absurd (cc)
the_first id (e ∷ es) rise is = by_test (the_first id es (second_so (below_all nat_cmp e.0 es) (is_sorted nat_cmp es) rise)) (is_loaded e.1.loaded) refl is where
  placed : (o : Ordering) (l : Listened) → nat_cmp id e.0 ≡ o → put nat_cmp id l (e ∷ es) ≡ by_order o ((id, l) ∷ e ∷ es) ((e.0, l) ∷ es) (e ∷ put nat_cmp id l es)
  placed o l at = ap (λ p. by_order p ((id, l) ∷ e ∷ es) ((e.0, l) ∷ es) (e ∷ put nat_cmp id l es)) at

  by_test : (first_loading es ≡ Some id → First id es) → (there : Bool) → is_loaded e.1.loaded ≡ there → cond there (first_loading es) (Some e.0) ≡ Some id → First id (e ∷ es)
  by_test more true there is =
      let rest = more is in
      let at : nat_cmp id e.0 ≡ Greater =
      nat_cmp_total.antisymm id e.0 ∙ ap ordering_reverse (below_first e.0 id es (first_so (below_all nat_cmp e.0 es) (is_sorted nat_cmp es) rise) is) in
      record {
        target = rest.target;
        found = ap (λ o. cond (is_eq o) (Some e.1) (find nat_cmp id es)) at ∙ rest.found;
        isnt = rest.isnt;
        one_less = λ l loaded.
            let after = ap unloaded_among (placed Greater l at) ∙ counted_as e (put nat_cmp id l es) true there in
            let before = counted_as e es true there in
            let one = rest.one_less l loaded in
            omega (arith, after, before, one);
      }
  by_test more false there is =
      let one : e.0 ≡ id = cc in
      let at : nat_cmp id e.0 ≡ Equal = ap (λ k. nat_cmp k e.0) (sym one) ∙ tied_itself nat_cmp_total e.0 in
      record {
        target = e.1;
        found = ap (λ o. cond (is_eq o) (Some e.1) (find nat_cmp id es)) at;
        isnt = there;
        one_less = λ l loaded.
            let after = ap unloaded_among (placed Equal l at) ∙ counted_as (e.0, l) es true loaded in
            let before = counted_as e es false there in
            omega (arith, after, before);
      }

-- ---- of a session

-- one that has a target is there
changed_there : (session id : ℕ) (l : Listened) (change : Listening → Listening) (ls : List Listener) → get (listening_in session ls).targets id ≡ Some l
    → listening_in session (with_listening session change ls) ≡ change (listening_in session ls)
changed_there session id l change [] found = absurd (let none : None ≡ Some l = sym (get-empty nat_cmp id) ∙ found in cc)
changed_there session id l change (x ∷ ls) found = by_test (changed_there session id l change ls) (x.session == session) refl found where
  by_test : (get (listening_in session ls).targets id ≡ Some l → listening_in session (with_listening session change ls) ≡ change (listening_in session ls)) → (here : Bool) → (x.session == session) ≡ here
      → get (cond here x.listening (listening_in session ls)).targets id ≡ Some l
      → listening_in session (cond here (record x { listening = change x.listening } ∷ ls) (x ∷ with_listening session change ls)) ≡ change (cond here x.listening (listening_in session ls))
  by_test more true here found = ap (λ b. cond b (change x.listening) (listening_in session ls)) here
  by_test more false here found = ap (λ b. cond b x.listening (listening_in session (with_listening session change ls))) here ∙ more found

-- a target that isn't loaded is loaded at what is released
loads : (m : Machine) (session id : ℕ) (l : Listened) → get (listening_of m session).targets id ≡ Some l → is_loaded l.loaded ≡ false
    → loaded m session id None ≡ loaded_with m session id m.past.released (is_lost m.past.floor l.token)
loads m session id l found isnt =
    ap (λ o. loaded_unless m session id None o (refusal_at m.past id None o)) found
    ∙ ap (λ b. loaded_unless m session id None (Some l) (cond b None (time_refusal m.past l None))) isnt
    ∙ ap (λ b. cond b m (loaded_with m session id m.past.released (is_lost m.past.floor l.token))) isnt

-- so the first that isn't is
pub first_loads : (m : Machine) (session id : ℕ) → first_loading (entries (listening_of m session).targets) ≡ Some id → unloaded_count (loaded m session id None) session + 1 ≡ unloaded_count m session
first_loads m session id is =
    let s = listening_of m session in
    let first = the_first id (entries s.targets) (to_true _ (entries_sorted s.targets)) is in
    let l = first.target in
    let found : get s.targets id ≡ Some l = get-entries s.targets id ∙ first.found in
    let reset = is_lost m.past.floor l.token in
    let time = m.past.released in
    let now = loaded_one m.config.shards time reset l in
    let put_there : entries (listening_of (loaded m session id None) session).targets ≡ put nat_cmp id now (entries s.targets) =
    ap (λ (n : Machine). entries (listening_of n session).targets) (loads m session id l found first.isnt)
    ∙ ap (λ (t : Listening). entries t.targets) (changed_there session id l (loaded_in m.config.shards id time reset) m.listeners found)
    ∙ ap (λ o. entries (loaded_at m.config.shards time reset id o s).targets) found
    ∙ entries-insert nat_cmp_total s.targets id now in
    let as_many : unloaded_count (loaded m session id None) session ≡ unloaded_among (put nat_cmp id now (entries s.targets)) = ap unloaded_among put_there in
    let one = first.one_less now refl in
    omega (arith, as_many, one)
