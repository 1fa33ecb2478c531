use Rattle.std.proofs.Common.{◌≡◌}
use Rattle.std.specs.Prelude.{IsTrue}
use Rattle.std.specs.FinMap.{is_sorted}
use Rattle.fs_path.specs.NameOrder.{name_cmp}
use Rattle.fs_cache.specs.Places.{HavePlaces, staged_in}
use Rattle.fs_cache.proofs.changes.put_all.Given as goal

-- those that are still to be put
abbrev pub invariant-loop-name : goal.invariant-loop-name
invariant-loop-name l = record {
  staged : staged_in l.places.entries l.name-iterator ≡ staged_in l.initial.places.entries l.initial.name-iterator;
  placed : HavePlaces l.places.entries l.name-iterator;
  rise : IsTrue (is_sorted name_cmp l.name-iterator);
}
