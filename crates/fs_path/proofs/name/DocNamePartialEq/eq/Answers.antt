use Rattle.std.proofs.Common.{string_bytes, ◌∙◌}
use Rattle.fs_path.specs.NameOrder.{name_eq}
use Rattle.fs_path.specs.TextOrder.{text_eq}
use Rattle.fs_path.proofs.PathOrder.{name_eq_paths}
use Rattle.fs_path.proofs.name.DocNamePartialEq.eq.Goals as goal

pub returns : goal.returns
returns c =
    c.eq.ensures
    ∙ ((λ i. text_eq (c.as_str.ensures.value i) (c.as_str-2.ensures.value i))
    ∙ (name_eq_paths (string_bytes c.self.inside.path) (string_bytes c.other.inside.path) c.self.invariant c.other.invariant
    ∙ λ i. name_eq (c.self.view_is i) (c.other.view_is i)))
