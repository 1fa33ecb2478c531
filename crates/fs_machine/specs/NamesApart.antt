-- Always: no two commits that aren't released write one name. So what each comes to doesn't hang on the others, and they can be
-- settled in any order.
use Rattle.std.specs.Prelude.{◌≡◌, false, ⊤, List, [], ◌∷◌}
use Rattle.std.specs.List.{AllByRecursion}
use Rattle.fs_history.specs.declared.batch.Batch.{Batch}
use Rattle.fs_machine.specs.Behind.{write_same}
use Rattle.fs_machine.specs.Past.{Past, batches}

-- a later one writes no name that this one writes
abbrev pub IsApartFrom : Batch → Batch → Type 0
IsApartFrom b later = write_same later.writes b.writes ≡ false

abbrev pub AreApart : List Batch → Type 0
AreApart [] = ⊤
AreApart (b ∷ bs) = AllByRecursion (IsApartFrom b) bs × AreApart bs

abbrev pub NamesApart : Past → Type 0
NamesApart p = AreApart (batches p.unreleased)
