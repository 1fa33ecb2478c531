use Rattle.std.proofs.Common.{◌||◌}
use Rattle.std.specs.Prelude.{IsTrue}
use Rattle.std.specs.BTreeSet.{contains}
use Rattle.std.specs.List.{list_any}
use Rattle.fs_path.specs.NameOrder.{name_cmp, name_eq}
use Rattle.fs_path.specs.declared.name.DocName.{DocName}
use Rattle.fs_target.proofs.keys.add_keys.Given as goal

-- each name of the map is there, or is still to be added
abbrev pub invariant-loop-name : goal.invariant-loop-name
invariant-loop-name g l = record {
  kept : (name : DocName) → IsTrue (contains name_cmp l.initial.names name) → IsTrue (contains name_cmp l.names name);
  added : (name : DocName) → IsTrue (list_any (name_eq name) l.initial.name-iterator) → IsTrue (contains name_cmp l.names name || list_any (name_eq name) l.name-iterator);
}
