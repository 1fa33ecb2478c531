use Rattle.std.proofs.Common.{◌≡◌, ◌++◌, Some, drop, string_bytes}
use Rattle.std.specs.List.{flat_map}
use Rattle.fs_path.specs.Spelling.{slashed}
use Rattle.fs_locks.specs.Paths.{path_text}
use Rattle.fs_locks.proofs.share.text_of.Given as goal

-- the ids that are left complete the path
abbrev pub invariant-loop-id : goal.invariant-loop-id
invariant-loop-id l = path_text l.fn.path ≡ Some (string_bytes l.text ++ flat_map slashed (drop l.id-index l.rest))
