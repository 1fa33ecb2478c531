use Rattle.std.proofs.Common.{◌↔◌, sym, subst}
use Rattle.std.specs.Prelude.{IsTrue}
use Rattle.fs_history.specs.Touches.{TouchesName}
use Rattle.fs_history.proofs.touch.touches.Goals as goal
use Rattle.fs_path.specs.NameOrder.{name_test}

pub returns-in-Name-clause-meaning : goal.returns-in-Name-clause-meaning
returns-in-Name-clause-meaning c =
    subst (λ r. IsTrue c.eq.result ↔ TouchesName c.args.name.now r) (sym c.in-Name.is) (name_test c.args.name.now c.in-Name.read_name c.eq.result c.eq.ensures)
