use Rattle.std.proofs.Common.{sym, subst}
use Rattle.std.specs.Prelude.{IsTrue, ◌↔◌}
use Rattle.fs_write.specs.Batch.{Bears}
use Rattle.fs_path.specs.NameOrder.{name_test}
use Rattle.fs_store.proofs.same.bears.Goals as goal

pub returns-in-Some : goal.returns-in-Some
returns-in-Some c =
    subst (λ o. IsTrue c.eq.result ↔ Bears o c.args.name.now) (sym c.in-Some.is)
    (name_test c.in-Some.document.name c.args.name.now c.eq.result c.eq.ensures)
