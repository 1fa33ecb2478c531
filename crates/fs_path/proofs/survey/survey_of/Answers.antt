use Rattle.std.proofs.Common.{◌≡◌, ap, ◌∙◌, arith}
use Rattle.std.specs.Option.{option_copied}
use Rattle.fs_path.specs.Cursor.{rest_segments}
use Rattle.fs_path.specs.Findings.{Findings}
use Rattle.fs_path.proofs.Surveyed.{surveyed, surveyed_all}
use Rattle.fs_path.proofs.survey.survey_of.Goals as goal

pub loop-rest-init : goal.loop-rest-init
loop-rest-init c =
    let ids = rest_segments (option_copied c.args.ids) in
    let count : c.new-seen.result.count ≡ 0 = ap (λ (f : Findings). f.count) c.new-seen.ensures in
    record { seen = ap (λ s. surveyed s ids) c.new-seen.ensures ∙ surveyed_all ids; count = omega (arith, count) }
