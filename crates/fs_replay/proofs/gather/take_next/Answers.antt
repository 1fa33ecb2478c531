use Rattle.std.proofs.Common.{subst}
use Rattle.fs_replay.specs.Moved.{TakenUpTo}
use Rattle.fs_path.proofs.Results.{at_err}
use Rattle.fs_replay.proofs.Flow.{read_some}
use Rattle.fs_replay.proofs.gather.take_next.Goals as goal

pub returns-in_err-extend_from_slice-clause-err : goal.returns-in_err-extend_from_slice-clause-err
returns-in_err-extend_from_slice-clause-err g c =
    at_err _ (subst (λ n. TakenUpTo n (g.S.Source.left c.args.source.now) (g.S.Source.left c.read-took.new.self)) c.read-took.auto.into (read_some c.read-took.result c.read-took.new.into _ _ c.read-took.ensures.reads))
