use Rattle.std.proofs.Common.{◌≡◌, drop}
use Rattle.std.specs.List.{starts_with}
use Rattle.std.specs.Option.{option_copied}
use Rattle.fs_path.specs.Cursor.{rest_segments}
use Rattle.fs_path.specs.TextOrder.{text_eq}
use Rattle.fs_path.proofs.scope.begins_with.Given as goal

-- what is left decides
abbrev pub invariant-loop-id : goal.invariant-loop-id
invariant-loop-id l =
    starts_with text_eq (rest_segments (option_copied l.rest)) (drop l.id-index l.parent) ≡ starts_with text_eq (rest_segments (option_copied l.path)) l.parent
