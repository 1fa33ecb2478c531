use Rattle.std.proofs.Common.{List, sym, subst}
use Rattle.std.specs.Prelude.{IsTrue, OnOk}
use Rattle.std.specs.BTreeSet.{contains_text}
use Rattle.std.specs.List.{AllByRecursion}
use Rattle.std.proofs.lemmas.Result.{on_ok_weaker}
use Rattle.fs_path.specs.Scope.{collection_id}
use Rattle.fs_path.specs.declared.name.DocName.{DocName}
use Rattle.fs_target.specs.Collections.{HasThoseOf}
use Rattle.fs_target.proofs.Collected.{has_of_names}
use Rattle.fs_target.proofs.collections.put.Goals as goal

pub returns-in-Documents-clause-put : goal.returns-in-Documents-clause-put
returns-in-Documents-clause-put c =
    let ids = c.put_names.new.ids in
    subst (λ t. OnOk c.put_names.result (HasThoseOf ids t)) (sym c.in-Documents.is)
    (on_ok_weaker c.put_names.result (λ all. has_of_names ids c.in-Documents.names all)
    (subst (λ (ns : List DocName). OnOk c.put_names.result (AllByRecursion (λ name. IsTrue (contains_text ids (collection_id name))) ns)) c.as_slice.ensures c.put_names.ensures.put))
