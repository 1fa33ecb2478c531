use Rattle.std.proofs.Common.{◌≡◌, ◌∷◌, ◌++◌, drop, string_bytes}
use Rattle.std.specs.List.{flat_map}
use Rattle.fs_path.specs.Spelling.{slashed}
use Rattle.fs_path.proofs.name.DocName.new.Given as goal

-- the ids that are left complete the path
abbrev pub invariant-loop-id : goal.invariant-loop-id
invariant-loop-id l = string_bytes l.path ++ flat_map slashed (drop l.id-index l.id-items) ≡ l.root.project ++ 47 ∷ (l.root.database ++ flat_map slashed l.ids)
