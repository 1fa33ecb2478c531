use Rattle.std.proofs.Common.{◌≡◌, option_map, IfSome}
use Rattle.std.specs.Option.{option_or}
use Rattle.serde_json.specs.Find.{get_member}
use Rattle.serde_json.specs.View.{members_view, view as json}
use Rattle.fs_json.specs.Names.{snake_of}
use Rattle.fs_json.specs.Spellings.{second_at}
use Rattle.fs_json.proofs.members.found_in.Given as goal

-- what was found so far, and else what stands among the rest
abbrev pub invariant-loop-key : goal.invariant-loop-key
invariant-loop-key l =
    (get_member l.name (members_view l.members.entries) ≡ option_or (option_map (λ x. json x.now) l.first) (get_member l.name (members_view l.key-iterator)))
    × ((second_at l.name (members_view l.members.entries) ≡ option_or (option_map (λ x. json x.1.now) l.second) (second_at l.name (members_view l.key-iterator)))
    × IfSome l.second (λ x. x.0.now ≡ snake_of l.name))
