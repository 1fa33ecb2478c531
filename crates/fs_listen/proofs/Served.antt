-- A session for which nothing is left to be done, and which listens to something, was raised at the released time.
use Rattle.std.proofs.Common.{◌≡◌, ◌≢◌, ℕ, ◌+◌, ◌<◌, ℤ, ◌≤ℤ◌, zero, suc, Bool, true, false, cond, ◌&&◌, ◌||◌, List, [], ◌∷◌, ◌++◌, length, map, Option, Some, None, refl, sym, ap, ◌∙◌, subst, arith}
use Rattle.std.specs.Prelude.{IfSome, int_lt, slice_index_or, slice_set}
use Rattle.std.specs.FinMap.{entries, entries_sorted, get, get-empty, get-entries, get-insert, get-remove, values}
use Rattle.std.specs.List.{AllByRecursion, flat_map, range_with_len}
use Rattle.std.specs.Ordering.{eq_by_cmp, nat_cmp}
use Rattle.std.proofs.lemmas.Cmp.{nat_cmp_total}
use Rattle.std.proofs.lemmas.Int.{ints}
use Rattle.fs_time.proofs.Tests.{not_after}
use Rattle.fs_path.proofs.Bools.{to_true}
use Rattle.fs_write.specs.Batch.{AreNamed}
use Rattle.fs_history.specs.History.{at}
use Rattle.fs_history.specs.declared.batch.Batch.{Batch}
use Rattle.fs_query.specs.declared.target.Target.{Target}
use Rattle.fs_listen.specs.Cuts.{base, cut, cut_at, cut_behind, greatest, greater_of, is_behind, is_from, is_ready, is_ready_at, least, least_position, lesser_of, load_time, positions_of, some_new, times_of}
use Rattle.fs_listen.specs.Laws.{IsServed}
use Rattle.fs_listen.specs.Listening.{Listened, Listening, Loaded, added, has_shard, later_of, loaded_at, loaded_one, made_current, matched, moved, raised_to, removed, with_loaded}
use Rattle.fs_listen.specs.Runs.{Event, World, adds, refuses, removes, loads, matches, raises, releases, compacts, May, MayAll, after, after_all, begun, is_lost, raising_at, token_of_target}
use Rattle.fs_listen.specs.declared.cut.Cut.{Cut}
use Rattle.fs_listen.specs.declared.cut.Cut.TheVariants.{At, Loading, NoTarget}
use Rattle.fs_listen.proofs.Bounds.{AreBy, by_append}
use Rattle.fs_listen.proofs.Events.{IsTold, all_keep, begins}
use Rattle.fs_listen.proofs.Listed.{from_found}
use Rattle.fs_listen.proofs.Targets.{from_each, get_each}

-- ---- a target that is loaded has a place for each shard, and was loaded at a time that was released

abbrev IsPlaced : ℕ → ℤ → Loaded → Type 0
IsPlaced shards to d = (length d.positions ≡ shards) × (d.time ≤ℤ to)

abbrev TargetPlaced : ℕ → ℤ → Listened → Type 0
TargetPlaced shards to l = IfSome l.loaded (IsPlaced shards to)

abbrev ArePlaced : ℕ → ℤ → Listening → Type 0
ArePlaced shards to s = (id : ℕ) (l : Listened) → get s.targets id ≡ Some l → TargetPlaced shards to l

none_placed : (shards : ℕ) (h : List Batch) (released floor : ℤ) → ArePlaced shards released (begun h released floor).listening
none_placed shards h released floor id l is = absurd (let none = sym (get-empty nat_cmp id) ∙ is in cc)

added_placed : (shards : ℕ) (to : ℤ) (id : ℕ) (t : Target) (token : Option ℤ) (s : Listening) → ArePlaced shards to s → ArePlaced shards to (added id t token s)
added_placed shards to id t token s are q l found = at_key (eq_by_cmp nat_cmp q id) (sym (get-insert nat_cmp_total s.targets id new q) ∙ found) where
  new : Listened
  new = record { target = t; token = token; loaded = None }

  at_key : (same : Bool) → cond same (Some new) (get s.targets q) ≡ Some l → TargetPlaced shards to l
  at_key true is = let one : new ≡ l = cc in subst (TargetPlaced shards to) one tt
  at_key false is = are q l is

removed_placed : (shards : ℕ) (to : ℤ) (id : ℕ) (s : Listening) → ArePlaced shards to s → ArePlaced shards to (removed id s)
removed_placed shards to id s are q l found = at_key (eq_by_cmp nat_cmp q id) (sym (get-remove nat_cmp_total s.targets id q) ∙ found) where
  at_key : (same : Bool) → cond same None (get s.targets q) ≡ Some l → TargetPlaced shards to l
  at_key true is = absurd (cc)
  at_key false is = are q l is

places : (shards : ℕ) (t : Target) (time : ℤ) (n from : ℕ) → length (map (λ shard. cond (has_shard shards t shard) (Some time) None) (range_with_len from n)) ≡ n
places shards t time zero from = refl
places shards t time (suc n) from = ap suc (places shards t time n (from + 1))

loaded_placed : (shards : ℕ) (to time : ℤ) (reset : Bool) (id : ℕ) (o : Option Listened) (s : Listening) → time ≤ℤ to → ArePlaced shards to s → ArePlaced shards to (loaded_at shards time reset id o s)
loaded_placed shards to time reset id None s by are = are
loaded_placed shards to time reset id (Some k) s by are = λ q l found. at_key q l (eq_by_cmp nat_cmp q id) (sym (get-insert nat_cmp_total s.targets id new q) ∙ found) where
  new : Listened
  new = loaded_one shards time reset k

  at_key : (q : ℕ) (l : Listened) (same : Bool) → cond same (Some new) (get s.targets q) ≡ Some l → TargetPlaced shards to l
  at_key q l true is = let one : new ≡ l = cc in subst (TargetPlaced shards to) one (places shards k.target time shards 0, by)
  at_key q l false is = are q l is

length_set : (ts : List (Option ℤ)) (i : ℕ) (t : Option ℤ) → length (slice_set ts i t) ≡ length ts
length_set [] i t = refl
length_set (u ∷ ts) zero t = refl
length_set (u ∷ ts) (suc i) t = ap suc (length_set ts i t)

moved_placed : (shards : ℕ) (to : ℤ) (shard : ℕ) (time : ℤ) (o : Option Loaded) → IfSome o (IsPlaced shards to) → IfSome (with_loaded (moved shard time) o) (IsPlaced shards to)
moved_placed shards to shard time None are = tt
moved_placed shards to shard time (Some d) are = (length_set d.positions shard (later_of time (slice_index_or d.positions shard None)) ∙ are.0, are.1)

current_placed : (shards : ℕ) (to : ℤ) (o : Option Loaded) → IfSome o (IsPlaced shards to) → IfSome (with_loaded made_current o) (IsPlaced shards to)
current_placed shards to None are = tt
current_placed shards to (Some d) are = are

-- of each target that was changed
module _ (shards : ℕ) (to : ℤ) (change : Loaded → Loaded) (kept : (o : Option Loaded) → IfSome o (IsPlaced shards to) → IfSome (with_loaded change o) (IsPlaced shards to)) (s : Listening) (are : ArePlaced shards to s) where
  abbrev changed_one : Listened → Listened
  changed_one l = record l { loaded = with_loaded change l.loaded }

  changed_placed : (id : ℕ) (l : Listened) → (k : Listened) × (get s.targets id ≡ Some k) × (changed_one k ≡ l) → TargetPlaced shards to l
  changed_placed id l (k, found, made) = subst (TargetPlaced shards to) made (kept k.loaded (are id k found))

matched_placed : (shards : ℕ) (to : ℤ) (shard : ℕ) (time : ℤ) (s : Listening) → ArePlaced shards to s → ArePlaced shards to (matched shard time s)
matched_placed shards to shard time s are id l found =
    changed_placed shards to (moved shard time) (moved_placed shards to shard time) s are id l
    (from_each (λ (k : Listened). record k { loaded = with_loaded (moved shard time) k.loaded }) (get s.targets id) l
    (sym (get_each (λ (k : Listened). record k { loaded = with_loaded (moved shard time) k.loaded }) s id) ∙ found))

raised_placed : (shards : ℕ) (to time : ℤ) (s : Listening) → ArePlaced shards to s → ArePlaced shards to (raised_to time s)
raised_placed shards to time s are id l found =
    changed_placed shards to made_current (current_placed shards to) s are id l
    (from_each (λ (k : Listened). record k { loaded = with_loaded made_current k.loaded }) (get s.targets id) l
    (sym (get_each (λ (k : Listened). record k { loaded = with_loaded made_current k.loaded }) s id) ∙ found))

placed_later : (shards : ℕ) (a b : ℤ) (o : Option Loaded) → a ≤ℤ b → IfSome o (IsPlaced shards a) → IfSome o (IsPlaced shards b)
placed_later shards a b None by are = tt
placed_later shards a b (Some d) by are = (are.0, let low = are.1 in omega (arith, ints))

module _ (shards : ℕ) where
  raising_placed : (w : World) (to : Cut) (ready : Bool) → ArePlaced shards w.released w.listening → ArePlaced shards (raising_at ready to w).released (raising_at ready to w).listening
  raising_placed w (At time) true are = raised_placed shards w.released time w.listening are
  raising_placed w (At time) false are = are
  raising_placed w (Loading id) ready are = are
  raising_placed w NoTarget ready are = are

  keeps : (e : Event) (w : World) → ArePlaced shards w.released w.listening → May e w → ArePlaced shards (after shards e w).released (after shards e w).listening
  keeps (adds id t token) w are may = added_placed shards w.released id t token w.listening are
  keeps (refuses id cause) w are may = are
  keeps (removes id) w are may = removed_placed shards w.released id w.listening are
  keeps (loads id time) w are may = loaded_placed shards w.released time (is_lost w.floor (token_of_target (get w.listening.targets id))) id (get w.listening.targets id) w.listening may.2 are
  keeps (matches shard to) w are may = matched_placed shards w.released shard to w.listening are
  keeps raises w are may = raising_placed w (cut w.listening) (is_ready w.listening) are
  keeps (releases bs to) w are may = λ id l found. placed_later shards w.released to l.loaded may.1 (are id l found)
  keeps (compacts to) w are may = are

  all_placed : (es : List Event) (w : World) → ArePlaced shards w.released w.listening → MayAll shards es w → ArePlaced shards (after_all shards es w).released (after_all shards es w).listening
  all_placed [] w are may = are
  all_placed (e ∷ es) w are may = all_placed es (after shards e w) (keeps e w are may.0) may.1

-- ---- positions that don't move any more

set_there : (ts : List (Option ℤ)) (i : ℕ) (t : Option ℤ) → i < length ts → slice_index_or (slice_set ts i t) i None ≡ t
set_there [] i t less = absurd (omega arith)
set_there (u ∷ ts) zero t less = refl
set_there (u ∷ ts) (suc i) t less = set_there ts i t (omega (arith, less))

at_bound : (to : ℤ) (o : Option ℤ) → IfSome o (λ t. t ≤ℤ to) → later_of to o ≡ o → IfSome o (λ t. t ≡ to)
at_bound to None by stays = tt
at_bound to (Some t) by stays = by_test (int_lt t to) refl stays where
  by_test : (less : Bool) → int_lt t to ≡ less → Some (cond less to t) ≡ Some t → t ≡ to
  by_test true is stays = let same : to ≡ t = cc in sym same
  by_test false is stays = let high : to ≤ℤ t = grind (arith, ints) in let low : t ≤ℤ to = by in omega (arith, ints)

all_at : (ts : List (Option ℤ)) (to : ℤ) → AreBy to ts → ((i : ℕ) → i < length ts → later_of to (slice_index_or ts i None) ≡ slice_index_or ts i None)
    → AllByRecursion (λ o. IfSome o (λ t. t ≡ to)) ts
all_at [] to by stays = tt
all_at (o ∷ ts) to by stays = (at_bound to o by.0 (stays 0 (omega arith)), all_at ts to by.1 (λ i less. stays (suc i) (omega (arith, less))))

both_at : (ts us : List (Option ℤ)) (to : ℤ) → AllByRecursion (λ o. IfSome o (λ t. t ≡ to)) ts → AllByRecursion (λ o. IfSome o (λ t. t ≡ to)) us
    → AllByRecursion (λ o. IfSome o (λ t. t ≡ to)) (ts ++ us)
both_at [] us to first second = second
both_at (o ∷ ts) us to first second = (first.0, both_at ts us to first.1 second)

lesser_at : (t : ℤ) (o : Option ℤ) (to : ℤ) → t ≡ to → ((u : ℤ) → o ≡ Some u → u ≡ to) → lesser_of t o ≡ to
lesser_at t None to same rest = same
lesser_at t (Some u) to same rest = by_test (int_lt u t) where
  by_test : (less : Bool) → cond less u t ≡ to
  by_test true = rest u refl
  by_test false = same

least_at : (ts : List (Option ℤ)) (to t : ℤ) → AllByRecursion (λ o. IfSome o (λ u. u ≡ to)) ts → least ts ≡ Some t → t ≡ to
least_at [] to t all is = absurd (cc)
least_at (None ∷ ts) to t all is = least_at ts to t all.1 is
least_at (Some u ∷ ts) to t all is =
    let same : lesser_of u (least ts) ≡ t = cc in
    sym same ∙ lesser_at u (least ts) to all.0 (λ v found. least_at ts to v all.1 found)

-- ---- no time is below what a session was raised from

greater_within : (t : ℤ) (o : Option ℤ) (to : ℤ) → t ≤ℤ to → IfSome o (λ u. u ≤ℤ to) → greater_of t o ≤ℤ to
greater_within t None to by rest = by
greater_within t (Some u) to by rest = by_test (int_lt t u) where
  by_test : (less : Bool) → cond less u t ≤ℤ to
  by_test true = rest
  by_test false = by

greatest_within : (ts : List (Option ℤ)) (to : ℤ) → AreBy to ts → IfSome (greatest ts) (λ u. u ≤ℤ to)
greatest_within [] to are = tt
greatest_within (None ∷ ts) to are = greatest_within ts to are.1
greatest_within (Some t ∷ ts) to are = greater_within t (greatest ts) to are.0 (greatest_within ts to are.1)

from_within : (o : Option ℤ) (to : ℤ) → IfSome o (λ u. u ≤ℤ to) → is_from o to ≡ true
from_within None to by = refl
from_within (Some t) to by = not_after t to by

-- ---- of a target that is loaded, as far as it can be

abbrev IsDone : ℤ → Listened → Type 0
IsDone to l = AllByRecursion (λ o. IfSome o (λ t. t ≡ to)) (positions_of l.loaded) × AreBy to (times_of l)

all_done : (to : ℤ) (ls : List Listened) → AllByRecursion (IsDone to) ls
    → AllByRecursion (λ o. IfSome o (λ t. t ≡ to)) (flat_map (λ (l : Listened). positions_of l.loaded) ls) × AreBy to (flat_map times_of ls)
all_done to [] all = (tt, tt)
all_done to (l ∷ ls) all =
    let rest = all_done to ls all.1 in
    (both_at (positions_of l.loaded) _ to all.0.0 rest.0, by_append (times_of l) _ to all.0.1 rest.1)

not_ready : (from behind new : Bool) → (from && (behind || new)) ≡ false → from ≡ true → behind ≡ false
not_ready true true new none is = absurd (cc)
not_ready true false new none is = refl
not_ready false behind new none is = absurd (cc)

raised_then : (o : Option ℤ) (to : ℤ) → IfSome o (λ t. t ≤ℤ to) → is_behind o to ≡ false → o ≡ Some to
raised_then None to by none = absurd (cc)
raised_then (Some t) to by none = let high : to ≤ℤ t = grind (arith, ints) in let low : t ≤ℤ to = by in let same : t ≡ to = omega (arith, ints) in ap Some same

module _ (shards : ℕ) (w : World) (told : IsTold w) (are : ArePlaced shards w.released w.listening) (served : IsServed shards w) where
  abbrev s : Listening
  s = w.listening

  -- the target of an id
  module _ (id : ℕ) (l : Listened) (found : get s.targets id ≡ Some l) where
    abbrev moves : ℕ → Listened → Listened
    moves shard k = record k { loaded = with_loaded (moved shard w.released) k.loaded }

    stays : (shard : ℕ) → shard < shards → with_loaded (moved shard w.released) l.loaded ≡ l.loaded
    stays shard less =
        let one = get_each (moves shard) s id in
        let same : get (matched shard w.released s).targets id ≡ Some l = ap (λ (t : Listening). get t.targets id) (served.matched shard less) ∙ found in
        let back = from_each (moves shard) (get s.targets id) l (sym one ∙ same) in
        by_back back
      where
        by_back : (k : Listened) × (get s.targets id ≡ Some k) × (moves shard k ≡ l) → with_loaded (moved shard w.released) l.loaded ≡ l.loaded
        by_back (k, there, made) =
            let same : k ≡ l = (let both : Some k ≡ Some l = sym there ∙ found in cc) in
            ap (λ (x : Listened). with_loaded (moved shard w.released) x.loaded) (sym same) ∙ ap (λ (x : Listened). x.loaded) made

    positions_at : (o : Option Loaded) → l.loaded ≡ o → AreBy w.released (positions_of o) → IfSome o (IsPlaced shards w.released)
        → AllByRecursion (λ p. IfSome p (λ t. t ≡ w.released)) (positions_of o)
    positions_at None is by placed = tt
    positions_at (Some d) is by placed = all_at d.positions w.released by at_one where
      at_one : (i : ℕ) → i < length d.positions → later_of w.released (slice_index_or d.positions i None) ≡ slice_index_or d.positions i None
      at_one i less =
          let kept : with_loaded (moved i w.released) (Some d) ≡ Some d = ap (with_loaded (moved i w.released)) (sym is) ∙ stays i (subst (λ n. i < n) placed.0 less) ∙ is in
          let same : slice_set d.positions i (later_of w.released (slice_index_or d.positions i None)) ≡ d.positions = ap positions_of kept in
          sym (set_there d.positions i (later_of w.released (slice_index_or d.positions i None)) less) ∙ ap (λ ps. slice_index_or ps i None) same

    time_within : (o : Option Loaded) → IfSome o (IsPlaced shards w.released) → IfSome (load_time o) (λ t. t ≤ℤ w.released)
    time_within None placed = tt
    time_within (Some d) placed = placed.1

    done : IsDone w.released l
    done =
        let within = told.within id l found in
        (positions_at l.loaded refl within.1 (are id l found), (within.0, (time_within l.loaded (are id l found), tt)))

  all_are_done : AllByRecursion (IsDone w.released) (values s.targets)
  all_are_done = from_found (IsDone w.released) (entries s.targets) (to_true _ (entries_sorted s.targets)) (λ id l found. done id l (get-entries s.targets id ∙ found))

  raised_at : (position : Option ℤ) → least_position s ≡ position → cut s ≡ cut_at position → cut s ≢ NoTarget → s.raised ≡ Some w.released
  raised_at None is at some = absurd (some at)
  raised_at (Some t) is at some =
      let all = all_done w.released (values s.targets) all_are_done in
      let here : t ≡ w.released = least_at _ w.released t all.0 is in
      let none : is_ready_at s (At w.released) ≡ false = ap (λ u. is_ready_at s (At u)) (sym here) ∙ ap (is_ready_at s) (sym at) ∙ served.raised in
      let from : is_from (base s) w.released ≡ true = from_within (base s) w.released (greatest_within (s.raised ∷ flat_map times_of (values s.targets)) w.released (told.raised, all.1)) in
      raised_then s.raised w.released told.raised (not_ready (is_from (base s) w.released) (is_behind s.raised w.released) (some_new s) none from)

  pub raised_there : cut s ≢ NoTarget → s.raised ≡ Some w.released
  raised_there some = raised_at (least_position s) refl (ap (λ loading. cut_behind loading (least_position s)) served.loaded) some

pub served_raised : ((h : List Batch) (t : ℤ) → AreNamed (at h t)) → (shards : ℕ) (h : List Batch) (released floor : ℤ) (es : List Event) → MayAll shards es (begun h released floor)
    → IsServed shards (after_all shards es (begun h released floor)) → cut (after_all shards es (begun h released floor)).listening ≢ NoTarget
    → (after_all shards es (begun h released floor)).listening.raised ≡ Some (after_all shards es (begun h released floor)).released
served_raised own_names shards h released floor es may served some =
    let start = begun h released floor in
    raised_there shards (after_all shards es start) (all_keep own_names shards es start (begins h released floor) may) (all_placed shards es start (none_placed shards h released floor) may) served some
