use Rattle.std.proofs.Common.{◌≡◌, ◌++◌, map}
use Rattle.std.specs.Bool.{OnFalse}
use Rattle.serde_json.specs.View.{members_view}
use Rattle.fs_json.specs.Members.{first_twice, first_unknown}
use Rattle.fs_json.proofs.members.first_wrong.Given as goal

-- The members so far are known, and where none of them may be a second spelling, none is given a second time by them.
abbrev pub invariant-loop-key : goal.invariant-loop-key
invariant-loop-key l =
    let names = map (λ n. n.now) l.these ++ map (λ n. n.now) l.those in
    let all = members_view l.members.entries in
    let left = members_view l.key-iterator in
    (first_unknown names all ≡ first_unknown names left) × OnFalse l.may_be_twice (first_twice names all all ≡ first_twice names all left)
