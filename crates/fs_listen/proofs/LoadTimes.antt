-- The positions of a target are never before its load.
use Rattle.std.proofs.Common.{◌≡◌, ℕ, ℤ, ◌≤ℤ◌, ◌<ℤ◌, Bool, true, false, cond, List, [], ◌∷◌, map, Option, Some, None, refl, sym, ◌∙◌, subst, arith}
use Rattle.std.specs.Prelude.{IfSome, int_lt, slice_index_or, slice_set, zero, suc, ◌+◌}
use Rattle.std.specs.FinMap.{get, get-empty, get-insert, get-remove}
use Rattle.std.specs.List.{AllByRecursion, range_with_len}
use Rattle.std.specs.Ordering.{eq_by_cmp, nat_cmp}
use Rattle.std.proofs.lemmas.Cmp.{nat_cmp_total}
use Rattle.std.proofs.lemmas.Int.{ints}
use Rattle.fs_query.specs.declared.target.Target.{Target}
use Rattle.fs_history.specs.declared.batch.Batch.{Batch}
use Rattle.fs_listen.specs.Cuts.{cut, is_ready}
use Rattle.fs_listen.specs.Laws.{IsFromLoad}
use Rattle.fs_listen.specs.Listening.{Listened, Listening, Loaded, added, each, has_shard, later_of, loaded_at, loaded_one, made_current, matched, moved, raised_to, removed, with_loaded}
use Rattle.fs_listen.specs.Runs.{Event, World, adds, refuses, removes, loads, matches, raises, releases, compacts, after, after_all, begun, is_lost, raising_at, token_of_target}
use Rattle.fs_listen.specs.declared.cut.Cut.{Cut}
use Rattle.fs_listen.specs.declared.cut.Cut.TheVariants.{At, Loading, NoTarget}
use Rattle.fs_listen.proofs.Targets.{from_each, get_each}

-- ---- positions

-- times that may be there, none below a time
abbrev AreFrom : ℤ → List (Option ℤ) → Type 0
AreFrom time ts = AllByRecursion (λ o. IfSome o (λ t. time ≤ℤ t)) ts

at_load : (shards : ℕ) (t : Target) (time : ℤ) (n from : ℕ) → AreFrom time (map (λ shard. cond (has_shard shards t shard) (Some time) None) (range_with_len from n))
at_load shards t time zero from = tt
at_load shards t time (suc n) from = (by_test (has_shard shards t from), at_load shards t time n (from + 1)) where
  by_test : (has : Bool) → IfSome (cond has (Some time) None) (λ u. time ≤ℤ u)
  by_test true = omega (arith, ints)
  by_test false = tt

later_from : (time to : ℤ) (o : Option ℤ) → IfSome o (λ u. time ≤ℤ u) → IfSome (later_of to o) (λ u. time ≤ℤ u)
later_from time to None was = tt
later_from time to (Some p) was = by_test (int_lt p to) refl where
  by_test : (less : Bool) → int_lt p to ≡ less → time ≤ℤ cond less to p
  by_test true is = let below : p <ℤ to = grind (arith, ints) in let low : time ≤ℤ p = was in omega (arith, ints)
  by_test false is = was

set_from : (ts : List (Option ℤ)) (shard : ℕ) (time to : ℤ) → AreFrom time ts → AreFrom time (slice_set ts shard (later_of to (slice_index_or ts shard None)))
set_from [] shard time to are = tt
set_from (t ∷ ts) zero time to are = (later_from time to t are.0, are.1)
set_from (t ∷ ts) (suc shard) time to are = (are.0, set_from ts shard time to are.1)

-- ---- of each target

abbrev pub AreFromLoads : Listening → Type 0
AreFromLoads s = (id : ℕ) (l : Listened) → get s.targets id ≡ Some l → IfSome l.loaded IsFromLoad

pub none_loaded : (h : List Batch) (released floor : ℤ) → AreFromLoads (begun h released floor).listening
none_loaded h released floor = λ id l is. absurd (let none = sym (get-empty nat_cmp id) ∙ is in cc)

add_from : (id : ℕ) (t : Target) (token : Option ℤ) (s : Listening) → AreFromLoads s → AreFromLoads (added id t token s)
add_from id t token s are = λ q l found. by_test q l (eq_by_cmp nat_cmp q id) (sym (get-insert nat_cmp_total s.targets id new q) ∙ found) where
  new : Listened
  new = record { target = t; token = token; loaded = None }

  by_test : (q : ℕ) (l : Listened) (same : Bool) → cond same (Some new) (get s.targets q) ≡ Some l → IfSome l.loaded IsFromLoad
  by_test q l true found = let one : new ≡ l = cc in subst (λ (m : Listened). IfSome m.loaded IsFromLoad) one tt
  by_test q l false found = are q l found

remove_from : (id : ℕ) (s : Listening) → AreFromLoads s → AreFromLoads (removed id s)
remove_from id s are = λ q l found. by_test q l (eq_by_cmp nat_cmp q id) (sym (get-remove nat_cmp_total s.targets id q) ∙ found) where
  by_test : (q : ℕ) (l : Listened) (same : Bool) → cond same None (get s.targets q) ≡ Some l → IfSome l.loaded IsFromLoad
  by_test q l true found = absurd (cc)
  by_test q l false found = are q l found

load_from : (shards id : ℕ) (time : ℤ) (reset : Bool) (o : Option Listened) (s : Listening) → AreFromLoads s → AreFromLoads (loaded_at shards time reset id o s)
load_from shards id time reset None s are = are
load_from shards id time reset (Some k) s are =
    λ q l found. by_test q l (eq_by_cmp nat_cmp q id) (sym (get-insert nat_cmp_total s.targets id next q) ∙ found)
  where
    next : Listened
    next = loaded_one shards time reset k

    by_test : (q : ℕ) (l : Listened) (same : Bool) → cond same (Some next) (get s.targets q) ≡ Some l → IfSome l.loaded IsFromLoad
    by_test q l true found = let one : next ≡ l = cc in subst (λ (m : Listened). IfSome m.loaded IsFromLoad) one (at_load shards k.target time shards 0)
    by_test q l false found = are q l found

-- a change of what is loaded
module _ (change : Loaded → Loaded) (keeps : (l : Loaded) → IsFromLoad l → IsFromLoad (change l)) where
  changed_from : (o : Option Loaded) → IfSome o IsFromLoad → IfSome (with_loaded change o) IsFromLoad
  changed_from None is = tt
  changed_from (Some l) is = keeps l is

  abbrev of_one : Listened → Listened
  of_one l = record l { loaded = with_loaded change l.loaded }

  by_change : (s : Listening) → AreFromLoads s → (id : ℕ) (l : Listened) → (k : Listened) × (get s.targets id ≡ Some k) × (of_one k ≡ l) → IfSome l.loaded IsFromLoad
  by_change s are id l (k, found, made) = subst (λ (m : Listened). IfSome m.loaded IsFromLoad) made (changed_from k.loaded (are id k found))

  each_from : (s : Listening) → AreFromLoads s → (id : ℕ) (l : Listened) → get (each of_one s).targets id ≡ Some l → IfSome l.loaded IsFromLoad
  each_from s are id l found = by_change s are id l (from_each of_one (get s.targets id) l (sym (get_each of_one s id) ∙ found))

match_from : (shard : ℕ) (to : ℤ) (s : Listening) → AreFromLoads s → AreFromLoads (matched shard to s)
match_from shard to s are = each_from (moved shard to) (λ l is. set_from l.positions shard l.time to is) s are

raise_from : (time : ℤ) (s : Listening) → AreFromLoads s → AreFromLoads (raised_to time s)
raise_from time s are = each_from made_current (λ l is. is) s are

raising_from : (w : World) (to : Cut) (ready : Bool) → AreFromLoads w.listening → AreFromLoads (raising_at ready to w).listening
raising_from w (At time) true are = raise_from time w.listening are
raising_from w (At time) false are = are
raising_from w (Loading id) ready are = are
raising_from w NoTarget ready are = are

-- ---- whole runs

load_keeps : (shards : ℕ) (e : Event) (w : World) → AreFromLoads w.listening → AreFromLoads (after shards e w).listening
load_keeps shards (adds id t token) w are = add_from id t token w.listening are
load_keeps shards (refuses id cause) w are = are
load_keeps shards (removes id) w are = remove_from id w.listening are
load_keeps shards (loads id time) w are = load_from shards id time (is_lost w.floor (token_of_target (get w.listening.targets id))) (get w.listening.targets id) w.listening are
load_keeps shards (matches shard to) w are = match_from shard to w.listening are
load_keeps shards raises w are = raising_from w (cut w.listening) (is_ready w.listening) are
load_keeps shards (releases bs to) w are = are
load_keeps shards (compacts to) w are = are

pub all_from_loads : (shards : ℕ) (es : List Event) (w : World) → AreFromLoads w.listening → AreFromLoads (after_all shards es w).listening
all_from_loads shards [] w are = are
all_from_loads shards (e ∷ es) w are = all_from_loads shards es (after shards e w) (load_keeps shards e w are)
