use Rattle.std.proofs.Common.{◌≡◌, drop, map}
use Rattle.serde_json.specs.View.{members_view}
use Rattle.fs_json.specs.Members.{is_second}
use Rattle.fs_json.proofs.members.is_second.Given as goal

-- the names so far aren't given twice by the key
abbrev pub invariant-loop-name : goal.invariant-loop-name
invariant-loop-name l =
    is_second (map (λ n. n.now) l.names) (members_view l.members.entries) l.key
    ≡ is_second (map (λ n. n.now) (drop l.name-index l.names)) (members_view l.members.entries) l.key
