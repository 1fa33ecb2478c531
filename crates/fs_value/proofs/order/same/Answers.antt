use Rattle.std.proofs.lemmas.Cmp.{tied_itself}
use Rattle.fs_value.specs.ValueOrder.{value_cmp}
use Rattle.fs_value.specs.ValueOrderLaws.{value_cmp_total, value_same}
use Rattle.fs_value.proofs.Comparing.{told_same}
use Rattle.fs_value.proofs.order.same.Goals as goal

pub returns : goal.returns
returns c = told_same value_cmp (tied_itself value_cmp_total) value_same _ _ c.compare.result c.eq.result c.compare.ensures c.eq.ensures
