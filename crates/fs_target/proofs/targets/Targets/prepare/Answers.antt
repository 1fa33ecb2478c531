use Rattle.std.proofs.Common.{◌≡◌, ◌<◌, true, List, [], ◌∷◌, length, refl, sym, subst, arith}
use Rattle.std.specs.Prelude.{◌==◌}
use Rattle.std.proofs.lemmas.Bool.Decides.{nat_tests}
use Rattle.fs_target.specs.Prepared.{ArePrepared}
use Rattle.fs_target.specs.declared.event.TimedEvent.{TimedEvent}
use Rattle.fs_target.proofs.MayStand.{prepared_by}
use Rattle.fs_target.proofs.targets.Targets.prepare.Goals as goal

none_there : (es : List TimedEvent) → true ≡ (length es == 0) → [] ≡ es
none_there [] is = refl
none_there (e ∷ es) is = absurd (let some : 0 < length (e ∷ es) = omega arith in grind (arith, nat_tests))

pub returns-then-is_empty-clause-ok : goal.returns-then-is_empty-clause-ok
returns-then-is_empty-clause-ok c =
    subst (λ (es : List TimedEvent). ArePrepared c.args.shard es c.args.self.now) (none_there c.args.events.now c.if-is_empty.ensures)
    (subst (ArePrepared c.args.shard []) c.self.view_is (prepared_by c.self.inside.awake c.self.inside.still c.args.shard (sym c.if-is_some.ensures)))
