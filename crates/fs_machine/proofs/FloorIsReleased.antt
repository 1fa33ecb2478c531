-- What can be read begins no later than what is released, still, after each event.
use Rattle.std.proofs.Common.{ℤ, ◌≤ℤ◌, List, [], ◌∷◌, Option, Some, None, arith}
use Rattle.std.specs.Prelude.{⊤}
use Rattle.std.specs.List.{AllByRecursion}
use Rattle.std.proofs.lemmas.Int.{ints}
use Rattle.fs_txn.specs.Reading.{earlier as earlier_of, oldest}
use Rattle.fs_txn.specs.declared.txn.Txn.{Txn}
use Rattle.fs_listen.specs.Cuts.{least, lesser_of}
use Rattle.fs_machine.specs.Compact.{earlier, floor_after, past_compacted}
use Rattle.fs_machine.specs.Past.{Past}
use Rattle.fs_machine.specs.Release.{past_released}
use Rattle.fs_machine.specs.Tick.{later}
use Rattle.fs_machine.specs.TransactionsHold.{TransactionsHold}
use Rattle.fs_machine.specs.declared.config.Mode.{Mode}
use Rattle.fs_machine.specs.UnreleasedRise.{UnreleasedRise}
use Rattle.fs_machine.proofs.UnreleasedRise.{free_above}
use Rattle.fs_machine.specs.FloorIsReleased.{FloorIsReleased}

pub floor_released : (p : Past) → UnreleasedRise p → FloorIsReleased p → FloorIsReleased (past_released p)
floor_released p above within = let more = free_above p.unreleased p.released p.last above in omega (arith, ints)

-- a time that is no later than the released one stays so where an earlier one may stand in its place
earlier_within : (first : Option ℤ) (t released : ℤ) → t ≤ℤ released → earlier_of first t ≤ℤ released
earlier_within None t released within = within
earlier_within (Some other) t released within = grind (arith, ints)

earlier_of_two : (to released : ℤ) → earlier to released ≤ℤ released
earlier_of_two to released = grind (arith, ints)

later_within : (a b t : ℤ) → a ≤ℤ t → b ≤ℤ t → later a b ≤ℤ t
later_within a b t first second = grind (arith, ints)

pub floor_compacted : (p : Past) (first : Option ℤ) (to : ℤ) → FloorIsReleased p → FloorIsReleased (past_compacted p first to)
floor_compacted p first to within =
    later_within p.floor (earlier_of first (earlier to p.released)) p.released within (earlier_within first (earlier to p.released) p.released (earlier_of_two to p.released))

-- ---- it rises to no later than a transaction reads

abbrev pub IsBelow : ℤ → Option ℤ → Type 0
IsBelow t None = ⊤
IsBelow t (Some other) = t ≤ℤ other

both_below : (t other time : ℤ) → t ≤ℤ earlier_of (Some other) time → (t ≤ℤ time) × (t ≤ℤ other)
both_below t other time within = grind (arith, ints)

below_next : (t time : ℤ) (o : Option ℤ) → t ≤ℤ earlier_of o time → (t ≤ℤ time) × IsBelow t o
below_next t time None within = (within, tt)
below_next t time (Some other) within = both_below t other time within

below_all : (t : ℤ) (ts : List Txn) → IsBelow t (oldest ts) → AllByRecursion (λ x. t ≤ℤ x.read_time) ts
below_all t [] within = tt
below_all t (x ∷ ts) within = let both = below_next t x.read_time (oldest ts) within in (both.0, below_all t ts both.1)

first_of_two : (other t : ℤ) → earlier_of (Some other) t ≤ℤ other
first_of_two other t = grind (arith, ints)

earlier_below : (o : Option ℤ) (t : ℤ) → IsBelow (earlier_of o t) o
earlier_below None t = tt
earlier_below (Some other) t = first_of_two other t

each_later : (mode : Mode) (p : Past) (t : ℤ) (ts : List Txn) → TransactionsHold mode p ts → AllByRecursion (λ x. t ≤ℤ x.read_time) ts → AllByRecursion (λ x. later p.floor t ≤ℤ x.read_time) ts
each_later mode p t [] holds all = tt
each_later mode p t (x ∷ ts) holds all = (later_within p.floor t x.read_time holds.0.floor all.0, each_later mode p t ts holds.1 all.1)

-- below the least of several times it is below each
least_below : (t : ℤ) (o : Option ℤ) (os : List (Option ℤ)) → IsBelow t (least (o ∷ os)) → IsBelow t o × IsBelow t (least os)
least_below t None os within = (tt, within)
least_below t (Some u) os within = lesser_below t u (least os) within where
  lesser_below : (t u : ℤ) (rest : Option ℤ) → t ≤ℤ lesser_of u rest → (t ≤ℤ u) × IsBelow t rest
  lesser_below t u None within = (within, tt)
  lesser_below t u (Some v) within = grind (arith, ints)

pub all_below : (t : ℤ) (os : List (Option ℤ)) → IsBelow t (least os) → AllByRecursion (IsBelow t) os
all_below t [] within = tt
all_below t (o ∷ os) within = let both = least_below t o os within in (both.0, all_below t os both.1)

pub below_rest : (t : ℤ) (o : Option ℤ) (os : List (Option ℤ)) → IsBelow t (least (o ∷ os)) → IsBelow t (least os)
below_rest t o os within = (least_below t o os within).1

-- what the floor rises to is below each time that is asked for
pub rises_below : (p : Past) (first : Option ℤ) (to : ℤ) → IsBelow (earlier_of first (earlier to p.released)) first
rises_below p first to = earlier_below first (earlier to p.released)

-- and so is the floor then, where it was
pub floor_below : (p : Past) (first : Option ℤ) (to t : ℤ) → p.floor ≤ℤ t → earlier_of first (earlier to p.released) ≤ℤ t → floor_after p first to ≤ℤ t
floor_below p first to t was within = later_within p.floor (earlier_of first (earlier to p.released)) t was within

pub floor_before : (mode : Mode) (p : Past) (ts : List Txn) (others : List (Option ℤ)) (to : ℤ) → TransactionsHold mode p ts
    → AllByRecursion (λ x. floor_after p (least (oldest ts ∷ others)) to ≤ℤ x.read_time) ts
floor_before mode p ts others to holds =
    let first = least (oldest ts ∷ others) in
    let t = earlier_of first (earlier to p.released) in
    each_later mode p t ts holds (below_all t ts (least_below t (oldest ts) others (rises_below p first to)).0)
