-- What contracts see of the logs of all shards: how many shards there are, what was changed in each, and for how many changes more each
-- has room.
--
--     four shards, c in shard 3 and d in shard 0
--     a commit at 5 of c/a and d/a, and one at 7 of c/b      0: 5 d/a     1:     2:     3: 5 c/a, 7 c/b
use Rattle.std.specs.Prelude.{ℕ, ◌<◌, ◌≤◌, ℤ, List, [], ◌∷◌, ◌++◌, map, replicate, slice_index_or, slice_set, refl}
use Rattle.std.specs.Coded.{Coded, code_by, coded×, coded_ℕ, coded_list}
use Rattle.std.specs.List.{All}
use Rattle.fs_path.specs.Scope.{most_shards, shard_of}
use Rattle.fs_store.specs.Logged.{AreBy, noted_after}
use Rattle.fs_store.specs.contracts.noted.Noted as noted
use Rattle.fs_store.specs.declared.noted.Noted.{Noted}

-- what was changed, by shard
abbrev pub Noticed : Type 0
Noticed = List (List Noted)

abbrev pub noticed_code : Coded Noticed
noticed_code = coded_list (coded_list noted.the_row.coded)

pub record Sharded : Type 0 where
  pub shards : ℕ
  pub logs : Noticed
  pub rooms : List ℕ

-- it is stored as the tuple of its parts
abbrev pub sharded_code : Coded Sharded
sharded_code =
    code_by (ℕ × (Noticed × List ℕ)) (coded× coded_ℕ (coded× noticed_code (coded_list coded_ℕ)))
    (λ s. (s.shards, (s.logs, s.rooms))) (λ p. record { shards = p.0; logs = p.1.0; rooms = p.1.1 }) (λ _. refl)

-- those of a shard
abbrev pub log_of : Noticed → ℕ → List Noted
log_of logs shard = slice_index_or logs shard []

-- none yet, in any of the sixteen that there may be
abbrev pub none_noted : Noticed
none_noted = replicate most_shards []

-- with one more, in the shard of its name
abbrev pub with_noted : ℕ → Noticed → Noted → Noticed
with_noted shards logs n = slice_set logs (shard_of shards n.name) (log_of logs (shard_of shards n.name) ++ n ∷ [])

-- with several, one after another
abbrev pub with_all_noted : ℕ → Noticed → List Noted → Noticed
with_all_noted shards logs [] = logs
with_all_noted shards logs (n ∷ ns) = with_all_noted shards (with_noted shards logs n) ns

-- without those up to a time
abbrev pub all_cut : ℤ → Noticed → Noticed
all_cut floor logs = map (noted_after floor) logs

-- none is behind a time
abbrev pub AllBy : Noticed → ℤ → Type 0
AllBy logs time = All (λ ns. AreBy ns time) logs

-- ---- room

-- each shard has room for so many changes
abbrev pub HavePlaces : ℕ → List ℕ → ℕ → Type 0
HavePlaces shards rooms n = (k : ℕ) → k < shards → n ≤ slice_index_or rooms k 0
