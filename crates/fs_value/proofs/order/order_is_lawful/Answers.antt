use Rattle.fs_value.specs.ValueOrderLaws.{value_cmp_total}
use Rattle.fs_value.proofs.Lawful.{value_alike, array_cmp, map_cmp}
use Rattle.fs_value.proofs.order.order_is_lawful.Goals as goal

pub returns : goal.returns
returns c = record { total = value_cmp_total; alike = value_alike; arrays = array_cmp; maps = map_cmp }
