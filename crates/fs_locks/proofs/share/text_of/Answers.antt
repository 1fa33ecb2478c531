use Rattle.std.proofs.Common.{◌++◌, List, ℕ, Some, sym, ap, ◌∙◌}
use Rattle.std.specs.List.{flat_map}
use Rattle.fs_path.proofs.Segments.{join_slashed}
use Rattle.fs_path.specs.Spelling.{slashed}
use Rattle.fs_locks.specs.Paths.{path_text}
use Rattle.fs_locks.proofs.share.text_of.Goals as goal

pub loop-id-init : goal.loop-id-init
loop-id-init c =
    let first = c.in-Some.first.now in
    let rest = c.in-Some.rest.now in
    ap path_text (sym c.as_slice.ensures ∙ c.in-Some.ensures.cases.0)
    ∙ ap (λ (text : List ℕ). Some text) (join_slashed first rest ∙ ap (λ (text : List ℕ). text ++ flat_map slashed rest) (sym (c.in_ok-text.ensures.ok ∙ c.as_str.ensures.value)))
