use Rattle.std.proofs.Common.{◌≡◌, drop, map}
use Rattle.std.specs.List.{list_any}
use Rattle.fs_json.specs.Names.{spells}
use Rattle.fs_json.proofs.members.is_known.Given as goal

-- the names so far don't spell the key
abbrev pub invariant-loop-name : goal.invariant-loop-name
invariant-loop-name l =
    list_any (λ name. spells name l.key) (map (λ n. n.now) l.names) ≡ list_any (λ name. spells name l.key) (map (λ n. n.now) (drop l.name-index l.names))
