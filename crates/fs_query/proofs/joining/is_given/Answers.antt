use Rattle.std.proofs.Common.{◌∙◌}
use Rattle.fs_query.proofs.PathsInOrder.{searched}
use Rattle.fs_query.proofs.joining.is_given.Goals as goal

pub returns : goal.returns
returns c =
    c.is_ok.ensures.value
    ∙ searched c.args.given.now c.args.path.now c.binary_search.result c.requires c.binary_search.ensures.bound c.binary_search.ensures.position
