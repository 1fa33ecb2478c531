use Rattle.std.proofs.Common.{ℕ, ap, ◌∙◌}
use Rattle.std.specs.FinMap.{FinMap, insert}
use Rattle.std.specs.Ordering.{nat_cmp}
use Rattle.std.proofs.lemmas.Result.{on_ok_weaker}
use Rattle.fs_pairs.proofs.Pairing.{freed_unused}
use Rattle.fs_pairs.proofs.pairs.Pairs.insert.Goals as goal

pub returns-clause-ok : goal.returns-clause-ok
returns-clause-ok c =
    on_ok_weaker c.give.result
    (λ is. is ∙ ap (λ (m : FinMap nat_cmp ℕ). insert m c.args.key c.args.number) (freed_unused c.args.self.now c.args.number c.requires.unused))
    c.give.ensures.ok
