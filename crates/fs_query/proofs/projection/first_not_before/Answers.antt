use Rattle.std.proofs.Common.{rules}
use Rattle.std.proofs.lemmas.Fn.{always_returns_same}
use Rattle.fs_query.specs.PathsBehind.{is_before}
use Rattle.fs_query.proofs.KeptInOrder.{parted}
use Rattle.fs_query.proofs.projection.first_not_before.Goals as goal

pub returns-clause-before : goal.returns-clause-before
returns-clause-before c =
    (c.partition_point.ensures.partitioned (λ p. is_before c.args.key.now p.now) (always_returns_same _ _ _ (λ a r f k. search rules)) (parted c.args.key.now c.args.paths.now c.requires)).0

pub returns-clause-others : goal.returns-clause-others
returns-clause-others c =
    (c.partition_point.ensures.partitioned (λ p. is_before c.args.key.now p.now) (always_returns_same _ _ _ (λ a r f k. search rules)) (parted c.args.key.now c.args.paths.now c.requires)).1
