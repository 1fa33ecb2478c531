use Rattle.std.proofs.Common.{sym, ap, ◌∙◌}
use Rattle.fs_listen.specs.Cuts.{cut_at, cut_behind}
use Rattle.fs_target.proofs.Cutting.{cut_of, least_of_entries}
use Rattle.fs_target.proofs.cuts.cut.Goals as goal

pub returns-in-Some : goal.returns-in-Some
returns-in-Some c = λ raised. sym (cut_of raised c.args.entries.now c.requires ∙ ap (λ o. cut_behind o (least_of_entries c.args.entries.now)) (sym c.in-Some.ensures))

pub returns-in-None : goal.returns-in-None
returns-in-None c = λ raised. sym (cut_of raised c.args.entries.now c.requires ∙ ap (λ o. cut_behind o (least_of_entries c.args.entries.now)) (sym c.in-None.ensures) ∙ sym (c.cut_at.ensures ∙ ap cut_at c.least_of_all.ensures))
