use Rattle.std.proofs.Common.{◌≡◌, drop, map}
use Rattle.fs_json.specs.Members.{first_spelled}
use Rattle.fs_json.proofs.members.first_spelled.Given as goal

-- the names so far don't spell the key
abbrev pub invariant-loop-name : goal.invariant-loop-name
invariant-loop-name l =
    first_spelled (map (λ n. n.now) l.names) l.key ≡ first_spelled (map (λ n. n.now) (drop l.name-index l.names)) l.key
