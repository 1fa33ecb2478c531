use Rattle.std.proofs.Common.{◌≡◌, [], ◌∷◌, ◌++◌, map, take, sym, ap, ◌∙◌}
use Rattle.std.specs.Prelude.{option_map}
use Rattle.std.specs.Option.{option_to_list}
use Rattle.std.proofs.lemmas.List.{map-append}
use Rattle.fs_query.specs.Project.{rest_behind, rests}
use Rattle.fs_query.proofs.KeptInOrder.{rests_end}
use Rattle.fs_query.proofs.Projected.{rests_next}
use Rattle.fs_query.proofs.projection.rests_in_front.Goals as goal

pub loop-path-preserved : goal.loop-path-preserved
loop-path-preserved c =
    let key = c.args.key.now in
    let paths = c.args.paths.now in
    let k = c.loop-path.path-index in
    let so_far = rests key (map (λ p. p.now) (take k paths)) in
    let one : rest_behind key c.path-item.result.now ≡ c.in-Some.rest.now ∷ [] =
    sym c.rest_behind.ensures ∙ ap (λ o. option_to_list (option_map (λ p. p.now) o)) c.in-Some.is in
    ap (map (λ p. p.now)) c.in_ok-push-in-Some.ensures.items
    ∙ map-append (λ p. p.now) c.loop-path.all.items (c.in-Some.rest ∷ [])
    ∙ ap (λ rs. rs ++ c.in-Some.rest.now ∷ []) c.loop-path.invariant
    ∙ ap (λ rs. so_far ++ rs) (sym one)
    ∙ sym (rests_next key paths k c.path-item.result c.loop-path-test.true c.path-item.is)

pub returns-in-None : goal.returns-in-None
returns-in-None c =
    let none : rest_behind c.args.key.now c.path-item.result.now ≡ [] =
    sym c.rest_behind.ensures ∙ ap (λ o. option_to_list (option_map (λ p. p.now) o)) c.in-None.is in
    c.loop-path.invariant
    ∙ rests_end c.args.key.now c.args.paths.now c.loop-path.path-index c.path-item.result c.requires.rise c.requires.begun c.loop-path-test.true c.path-item.is none
