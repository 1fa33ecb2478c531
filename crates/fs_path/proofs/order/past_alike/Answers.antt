use Rattle.std.proofs.Common.{◌≡◌, take, sym, ap, ◌∙◌, arith}
use Rattle.std.proofs.lemmas.Bool.Decides.{nat_tests}
use Rattle.std.specs.Int.{w64, to_le_bytes}
use Rattle.fs_path.proofs.PathOrder.{alike_front}
use Rattle.fs_path.proofs.order.past_alike.Goals as goal

pub loop-x-preserved : goal.loop-x-preserved
loop-x-preserved c =
    let left = c.in-Some-Some.ensures.cases in
    let right = c.in-Some-Some.ensures'.cases in
    let words : c.word.result ≡ c.word-in-Some-Some.result = grind (arith, nat_tests, c.if-word.false) in
    let front : take 8 c.loop-x.left.now ≡ take 8 c.loop-x.right.now =
    sym left.0 ∙ (sym c.word.ensures ∙ (ap (to_le_bytes w64) words ∙ (c.word-in-Some-Some.ensures ∙ right.0))) in
    rw (left.1, right.1) (alike_front 8 c.loop-x.left.now c.loop-x.right.now (omega (arith, left.2)) (omega (arith, right.2)) front ∙ c.loop-x.invariant)
