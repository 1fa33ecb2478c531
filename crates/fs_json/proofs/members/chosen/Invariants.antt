use Rattle.std.proofs.Common.{◌≡◌, ℕ, List, ◌++◌, map, option_map}
use Rattle.std.specs.Option.{option_to_list}
use Rattle.serde_json.specs.Data.{Data}
use Rattle.serde_json.specs.View.{view as json, members_view}
use Rattle.fs_json.specs.Members.{chosen}
use Rattle.fs_json.proofs.members.chosen.Given as goal

-- what was found so far, and what is chosen of the rest
abbrev pub invariant-loop-key : goal.invariant-loop-key
invariant-loop-key l =
    chosen (map (λ n. n.now) l.names) (members_view l.members.entries)
    ≡ option_to_list (option_map {U = List ℕ × Data} (λ one. (one.0.now, json one.1.now)) l.found) ++ chosen (map (λ n. n.now) l.names) (members_view l.key-iterator)
