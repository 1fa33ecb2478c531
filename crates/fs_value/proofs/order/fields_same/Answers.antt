use Rattle.std.proofs.Common.{sym, ap, ◌∙◌}
use Rattle.std.proofs.lemmas.Cmp.{tied_itself}
use Rattle.fs_value.specs.Data.{object, members_of, fields_of}
use Rattle.fs_value.specs.DataLaws.{fields_of-members_of}
use Rattle.fs_value.specs.ValueOrder.{members_cmp}
use Rattle.fs_value.specs.ValueOrderLaws.{value_cmp_total, members_same}
use Rattle.fs_value.proofs.Comparing.{told_same}
use Rattle.fs_value.proofs.order.fields_same.Goals as goal

pub returns : goal.returns
returns c =
    told_same (λ a b. members_cmp (members_of a) (members_of b)) (λ a. tied_itself value_cmp_total (object (members_of a)))
    (λ a b e. sym (fields_of-members_of a) ∙ ap fields_of (members_same (members_of a) (members_of b) e) ∙ fields_of-members_of b)
    c.args.a.now c.args.b.now c.compare_fields.result c.eq.result c.compare_fields.ensures c.eq.ensures
