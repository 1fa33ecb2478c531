-- Only private clauses cite this: sets of values, and the changes of an array as they are carried out together.
use Rattle.std.specs.Prelude.{◌≡◌, true, not, ◌&&◌, ◌||◌, List, [], ◌∷◌, map, reverse}
use Rattle.std.specs.Ordering.{on}
use Rattle.std.specs.BTreeSet.{BTreeSet, contains}
use Rattle.std.specs.declared.cmp.Ordering.{Ordering}
use Rattle.fs_value.specs.Data.{Data}
use Rattle.fs_value.specs.ValueOrder.{value_cmp}
use Rattle.fs_value.specs.View.{view}
use Rattle.fs_value.specs.declared.value.Value.{Value}
use Rattle.fs_value.specs.Elements.{array_contains}
use Rattle.fs_edit.specs.Arrays.{append_missing, remove_all}
use Rattle.fs_edit.specs.ArrayChanges.{elements_after, after_all}
use Rattle.fs_edit.specs.declared.array_change.ArrayChange.{ArrayChange}

-- the order of the sets
abbrev pub held_cmp : Value → Value → Ordering
held_cmp = on view value_cmp

-- the set has exactly these values
abbrev pub HasExactly : BTreeSet Value → List Data → Type 0
HasExactly set ds = (v : Value) → contains held_cmp set v ≡ array_contains ds (view v)

-- the set has exactly those of these values that aren't there
abbrev pub HasMissing : BTreeSet Value → List Data → List Data → Type 0
HasMissing set there ds = (v : Value) → contains held_cmp set v ≡ (array_contains ds (view v) && not (array_contains there (view v)))

-- the second set has these values too, and none else
abbrev pub Gains : BTreeSet Value → BTreeSet Value → List Data → Type 0
Gains old new ds = (v : Value) → contains held_cmp new v ≡ (contains held_cmp old v || array_contains ds (view v))

-- a value that is given is appended, unless it is there
abbrev pub AppendsOne : Data → BTreeSet Value → List Data → BTreeSet Value → List Data → Type 0
AppendsOne d set there set' there' =
    (ds : List Data) → HasMissing set there ds → array_contains ds d ≡ true → HasMissing set' there' ds × (there' ≡ append_missing there (d ∷ []))

-- the values that stand in a stack from the last to the first
abbrev pub stacked : List Value → List Data
stacked vs = map view (reverse vs)

-- the elements after changes that are carried out together: those that no change takes out, and of the values that are
-- given those that are missing
abbrev pub together : List Data → List Data → List Data → List Data
together there gone given = append_missing (remove_all there gone) given

-- one more change, which comes before those that are together already, is taken in
abbrev pub TakesIn : ArrayChange → BTreeSet Value → List Data → BTreeSet Value → List Data → Type 0
TakesIn change set given set' given' =
    (gone : List Data) → HasExactly set gone
    → (gone' : List Data) × HasExactly set' gone' × ((there : List Data) → together there gone' given' ≡ together (elements_after change there) gone given)

-- all changes are together
abbrev pub AreTogether : List ArrayChange → BTreeSet Value → List Data → Type 0
AreTogether changes set given = (gone : List Data) × HasExactly set gone × ((there : List Data) → together there gone given ≡ after_all changes there)
