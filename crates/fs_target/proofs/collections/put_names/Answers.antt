use Rattle.std.proofs.Common.{ap, ◌∙◌, sym}
use Rattle.std.specs.Prelude.{IsTrue}
use Rattle.std.specs.BTreeSet.{contains_text}
use Rattle.fs_path.specs.Scope.{collection_id}
use Rattle.fs_path.specs.declared.name.DocName.{DocName}
use Rattle.fs_target.proofs.Each.{each_more, each_weaker}
use Rattle.fs_target.proofs.collections.put_names.Goals as goal

pub loop-name-preserved : goal.loop-name-preserved
loop-name-preserved c =
    let l = c.loop-name in
    let ids = c.put_id.new.ids in
    record {
      kept = λ id had. c.put_id.ensures.kept id (l.invariant.kept id had);
      put =
          each_more (λ (name : DocName). IsTrue (contains_text ids (collection_id name))) c.args.names.now l.name-index c.name-item.result c.loop-name-test.true c.name-item.is
          (each_weaker (λ (name : DocName). IsTrue (contains_text l.ids (collection_id name))) (λ (name : DocName). IsTrue (contains_text ids (collection_id name)))
          (λ name had. c.put_id.ensures.kept (collection_id name) had) _ l.invariant.put)
          (ap (contains_text ids) (sym c.collection_id.ensures) ∙ c.in_ok-put_id.ensures.put);
    }
