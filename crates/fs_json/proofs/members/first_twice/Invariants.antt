use Rattle.std.proofs.Common.{◌≡◌, ◌++◌, map}
use Rattle.serde_json.specs.View.{members_view}
use Rattle.fs_json.specs.Members.{first_twice}
use Rattle.fs_json.proofs.members.first_twice.Given as goal

-- the members so far are given once
abbrev pub invariant-loop-key : goal.invariant-loop-key
invariant-loop-key l =
    first_twice (map (λ n. n.now) l.these ++ map (λ n. n.now) l.those) (members_view l.members.entries) (members_view l.members.entries)
    ≡ first_twice (map (λ n. n.now) l.these ++ map (λ n. n.now) l.those) (members_view l.members.entries) (members_view l.key-iterator)
