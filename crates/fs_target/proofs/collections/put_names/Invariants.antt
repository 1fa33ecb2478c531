use Rattle.std.proofs.Common.{take}
use Rattle.std.specs.Prelude.{IsTrue}
use Rattle.std.specs.BTreeSet.{contains_text}
use Rattle.std.specs.List.{AllByRecursion}
use Rattle.fs_path.specs.Scope.{collection_id}
use Rattle.fs_path.specs.declared.name.DocName.{DocName}
use Rattle.fs_target.specs.Collections.{AreKept}
use Rattle.fs_target.proofs.collections.put_names.Given as goal

abbrev pub invariant-loop-name : goal.invariant-loop-name
invariant-loop-name l = record {
  kept : AreKept l.initial.ids l.ids;
  put : AllByRecursion (λ (name : DocName). IsTrue (contains_text l.ids (collection_id name))) (take l.name-index l.names);
}
