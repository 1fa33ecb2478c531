use Rattle.std.proofs.Common.{codes, arith}
use Rattle.std.proofs.lemmas.Bool.Decides.{nat_tests}
use Rattle.std.proofs.lemmas.Str.Pattern.{starts_text, ends_text}
use Rattle.fs_path.proofs.segment.matches_reserved.Goals as goal
use Rattle.fs_path.proofs.segment.matches_reserved.Goals.{then-text-ge4, else-text-ge4}

pub returns-then-starts_with : goal.returns-then-starts_with
returns-then-starts_with c =
    let text = c.args.text.now in
    let closes = ends_text c.ends_with.result (codes "__") text c.ends_with.ensures.cases in
    elim c.if-text-ge4.branch [
      | then-text-ge4 w ↦
          let opens = starts_text w.starts_with.result (codes "__") text w.starts_with.ensures.cases in
          grind (arith, nat_tests)
      | else-text-ge4 w ↦ grind (arith, nat_tests)
    ]
