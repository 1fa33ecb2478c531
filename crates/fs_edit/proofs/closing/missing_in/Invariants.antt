use Rattle.std.proofs.Common.{map, take}
use Rattle.fs_value.specs.View.{view}
use Rattle.fs_edit.specs.Closing.{HasMissing}
use Rattle.fs_edit.proofs.closing.missing_in.Given as goal

-- the elements so far aren't among them
abbrev pub invariant-loop-element : goal.invariant-loop-element
invariant-loop-element l = HasMissing l.missing (map view (take l.element-index l.element-items)) l.values
