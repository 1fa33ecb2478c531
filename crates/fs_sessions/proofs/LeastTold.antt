-- The least time up to which sessions were told a shard.
use Rattle.std.proofs.Common.{◌≡◌, ℕ, ℤ, List, ◌∷◌, map, Option}
use Rattle.std.specs.List.{flat_map}
use Rattle.fs_listen.specs.Cuts.{least, least_before}
use Rattle.fs_target.specs.Held.{positions_in}
use Rattle.fs_sessions.specs.Heard.{Heard, heard_of}
use Rattle.fs_sessions.specs.declared.listeners.Ear.{Ear}
use Rattle.fs_sessions.proofs.Joined.{least-append}

abbrev pub least_of_ears : ℕ → List Ear → Option ℤ
least_of_ears shard es = least (flat_map (λ (h : Heard). positions_in shard h.held) (map heard_of es))

pub least_next : (shard : ℕ) (e : Ear) (es : List Ear) → least_of_ears shard (e ∷ es) ≡ least_before (least (positions_in shard (heard_of e).held)) (least_of_ears shard es)
least_next shard e es = least-append (positions_in shard (heard_of e).held) (flat_map (λ (h : Heard). positions_in shard h.held) (map heard_of es))
