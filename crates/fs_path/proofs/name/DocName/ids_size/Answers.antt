use Rattle.std.proofs.Common.{◌+◌, length, sum_by, sym, ap, ◌∙◌}
use Rattle.fs_path.proofs.NameTexts.{segments-size}
use Rattle.fs_path.proofs.name.DocName.ids_size.Goals as goal

pub returns-in-Some : goal.returns-in-Some
returns-in-Some c = sym (segments-size c.in-Some.ids.now) ∙ ap (sum_by (λ id. length id + 1)) c.in-Some.ensures
