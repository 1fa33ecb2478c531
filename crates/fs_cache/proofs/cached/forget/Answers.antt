use Rattle.std.proofs.Common.{◌==◌, rules, not, ℕ, [], ◌∷◌, ap, ◌∙◌}
use Rattle.std.proofs.lemmas.Fn.{filter_same}
use Rattle.fs_cache.specs.Cached.{left_by, of_targets, without}
use Rattle.fs_cache.proofs.Leaving.{without_one}
use Rattle.fs_cache.proofs.cached.forget.Goals as goal

pub returns : goal.returns
returns c =
    let target = c.args.target in
    c.of_targets.ensures
    ∙ ap (of_targets c.in-Some.field-0.document)
    (c.of.ensures
    ∙ filter_same _ (λ (t : ℕ). not (t == target)) _ (λ x b f' k. search rules) _ _ c.retain.ensures.filtered
    ∙ without_one target c.into_vec-left.result.items
    ∙ ap (without (target ∷ [])) c.into_vec-left.ensures)
    ∙ ap (left_by (target ∷ [])) c.in-Some.ensures.value
