use Rattle.std.proofs.Common.{◌≡◌, ◌-◌, map, length, take, drop, ap, ◌∙◌, arith}
use Rattle.std.proofs.lemmas.Result.{IfOk-weaker}
use Rattle.fs_query.specs.Project.{rests}
use Rattle.fs_query.proofs.Cuts.{rest_from}
use Rattle.fs_query.proofs.KeptInOrder.{rests_from}
use Rattle.fs_query.proofs.projection.rests.Goals as goal

pub returns : goal.returns
returns c =
    let key = c.args.key.now in
    let paths = c.args.paths.now in
    let from = c.first_not_before-from.result in
    let others = take (length paths - from) (drop from paths) in
    let all : rests key (map (λ p. p.now) others) ≡ rests key (map (λ p. p.now) paths) =
    ap (λ ps. rests key (map (λ p. p.now) ps)) (rest_from from from paths (omega (arith, c.first_not_before-from.ensures.within)))
    ∙ rests_from key paths from c.first_not_before-from.ensures.before c.first_not_before-from.ensures.within in
    IfOk-weaker c.rests_in_front.result (λ v. map (λ p. p.now) v.items ≡ rests key (map (λ p. p.now) others)) (λ v. map (λ p. p.now) v.items ≡ rests key (map (λ p. p.now) paths)) (λ v e. e ∙ all) c.rests_in_front.ensures
