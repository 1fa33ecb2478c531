use Rattle.std.proofs.Common.{◌+◌, ◌-◌, ◌∷◌, length, take, drop, sym, ap, ◌∙◌, arith, length-drop}
use Rattle.std.proofs.lemmas.List.{take_all}
use Rattle.fs_replay.specs.Transcript.{lines_of}
use Rattle.fs_replay.proofs.Cutting.{lines_cut, lines_last}
use Rattle.fs_replay.proofs.lines.first_line.Goals as goal

pub returns-in_err-end-clause-last : goal.returns-in_err-end-clause-last
returns-in_err-end-clause-last c = rw c.from_residual.ensures (lines_last c.args.text.now c.in_err-end.ensures)

pub returns-clause-cut : goal.returns-clause-cut
returns-clause-cut c =
    let text = c.args.text.now in
    let end = c.in_ok-end.end in
    lines_cut text end c.in_ok-end.ensures.0.high c.in_ok-end.ensures.0.before c.in_ok-end.ensures.1
    ∙ ap (λ rest. take end text ∷ lines_of rest) (sym (take_all (length text - (end + 1)) (drop (end + 1) text) (omega (arith, length-drop (end + 1) text))))
