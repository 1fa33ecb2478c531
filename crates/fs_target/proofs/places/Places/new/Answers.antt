use Rattle.std.proofs.Common.{ap, ◌∙◌}
use Rattle.std.specs.FinMap.{from_entries}
use Rattle.fs_path.specs.NameOrder.{name_cmp}
use Rattle.fs_target.specs.Places.{docs_in}
use Rattle.fs_target.proofs.Standing.{docs-empty}
use Rattle.fs_target.proofs.places.Places.new.Goals as goal

pub returns : goal.returns
returns c = ap (λ es. docs_in (from_entries {R = name_cmp} es)) c.new.ensures.empty ∙ docs-empty
