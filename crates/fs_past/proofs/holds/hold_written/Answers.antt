use Rattle.std.proofs.Common.{ap, ◌∙◌}
use Rattle.std.specs.Prelude.{◌||◌, ◌&&◌, ◌==◌}
use Rattle.std.proofs.lemmas.Result.{on_ok_weaker}
use Rattle.fs_locks.specs.Holds.{is_held, is_in}
use Rattle.fs_past.proofs.Holding.{in_written}
use Rattle.fs_past.proofs.holds.hold_written.Goals as goal

pub returns-clause-ok : goal.returns-clause-ok
returns-clause-ok c =
    on_ok_weaker c.hold_exclusive.result
    (λ more i n.
    more i n ∙ ap (λ b. is_held c.args.locks.now.exclusive i n || (i == c.args.id && b))
    (ap (is_in n) c.in_ok-names.ensures ∙ in_written n c.args.writes.now))
    c.hold_exclusive.ensures.ok
