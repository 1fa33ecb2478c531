use Rattle.std.proofs.Common.{◌≡◌, ◌++◌, string_bytes, take}
use Rattle.std.specs.List.{flat_map}
use Rattle.fs_path.specs.Spelling.{slashed}
use Rattle.fs_path.proofs.print.push_ids.Given as goal

-- the ids so far are added
abbrev pub invariant-loop-id : goal.invariant-loop-id
invariant-loop-id l = string_bytes l.text ≡ string_bytes l.initial.text ++ flat_map slashed (take l.id-index l.ids)
