use Rattle.std.proofs.Common.{◌≡◌, [], length, drop, ap, sym, ◌∙◌, arith}
use Rattle.std.proofs.lemmas.Bool.Decides.{nat_tests}
use Rattle.std.proofs.lemmas.List.{length-drop}
use Rattle.std.specs.List.{slice_get}
use Rattle.std.specs.Option.{option_copied}
use Rattle.fs_path.specs.Cursor.{rest_segments}
use Rattle.fs_path.proofs.Segments.{there, next_left}
use Rattle.fs_path.proofs.segment.segment_at.Goals as goal

pub returns-then-passed-i : goal.returns-then-passed-i
returns-then-passed-i c =
    let all = rest_segments (option_copied c.args.path) in
    let left = sym c.loop-rest.invariant.rest ∙ (ap (λ o. rest_segments (option_copied o)) c.in-Some.is ∙ c.first_segment.ensures.parts) in
    ap (slice_get all) (sym c.if-passed-i.true) ∙ there c.loop-rest.passed all _ _ left

pub loop-rest-preserved : goal.loop-rest-preserved
loop-rest-preserved c =
    let all = rest_segments (option_copied c.args.path) in
    let left = sym c.loop-rest.invariant.rest ∙ (ap (λ o. rest_segments (option_copied o)) c.in-Some.is ∙ c.first_segment.ensures.parts) in
    record { rest = sym (next_left c.loop-rest.passed all _ _ left); before = grind (arith, nat_tests, c.loop-rest.invariant.before, c.if-passed-i.false) }

pub returns : goal.returns
returns c =
    let all = rest_segments (option_copied c.args.path) in
    let none : drop c.loop-rest.passed all ≡ [] = sym c.loop-rest.invariant.rest ∙ ap (λ o. rest_segments (option_copied o)) c.in_default.is in
    let count = ap length none in
    absurd (omega (arith, count, length-drop c.loop-rest.passed all, c.loop-rest.invariant.before, c.requires))
