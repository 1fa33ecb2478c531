-- What is stored: the versions of documents, the time up to which releases are in it, and what was changed in each shard behind the floor.
-- The documents of each time from the floor to the end of the last release can be read.
--
--     started at 4                                                no chains, floor 4, absorbed 4
--     a release from 4 to 8, with c/a to {n: 1} at 5 and          c/a: {n: 1} at 5, none at 7
--       c/a deleted, c/b to {n: 2} at 7                           c/b: {n: 2} at 7         floor 4, absorbed 8
--                                                               changed in the shard of c: 5 c/a, 7 c/a, 7 c/b
--     compacted to 7                                              c/b: {n: 2} at 7         floor 7, absorbed 8
--                                                               changed: nothing
use Rattle.std.specs.Prelude.{ℕ, ℤ, List, [], ◌∷◌, refl}
use Rattle.std.specs.Coded.{Coded, code_by, coded×, coded_ℕ, coded_ℤ}
use Rattle.std.specs.FinMap.{empty}
use Rattle.fs_write.specs.declared.timed_change.TimedChange.{TimedChange}
use Rattle.fs_versions.specs.Chains.{Chains, chains_code, installed, compacted as cut_to}
use Rattle.fs_store.specs.Logs.{Noticed, all_cut, none_noted, noticed_code, with_all_noted}
use Rattle.fs_store.specs.Noted.{all_noted}
use Rattle.fs_store.specs.declared.release.Release.{Release}

pub record Stored : Type 0 where
  pub chains : Chains
  pub absorbed : ℤ
  pub shards : ℕ
  pub logs : Noticed

-- it is stored as the tuple of its parts
abbrev pub stored_code : Coded Stored
stored_code =
    code_by (Chains × (ℤ × (ℕ × Noticed))) (coded× chains_code (coded× coded_ℤ (coded× coded_ℕ noticed_code)))
    (λ s. (s.chains, (s.absorbed, (s.shards, s.logs))))
    (λ p. record { chains = p.0; absorbed = p.1.0; shards = p.1.1.0; logs = p.1.1.1 })
    (λ _. refl)

-- nothing is in it yet, and no time before its floor will be read
abbrev pub started : ℤ → ℕ → Stored
started floor shards = record { chains = record { by_name = empty; floor = floor; last = floor }; absorbed = floor; shards = shards; logs = none_noted }

-- the versions after commits, one after another
abbrev pub all_installed : Chains → List TimedChange → Chains
all_installed v [] = v
all_installed v (c ∷ cs) = all_installed (installed v c.changes c.time) cs

-- after a release
abbrev pub absorbed : Stored → Release → Stored
absorbed s release = record {
  chains = all_installed s.chains release.changes;
  absorbed = release.to;
  shards = s.shards;
  logs = with_all_noted s.shards s.logs (all_noted release.changes);
}

-- from a later floor on
abbrev pub compacted : Stored → ℤ → Stored
compacted s floor = record { chains = cut_to s.chains floor; absorbed = s.absorbed; shards = s.shards; logs = all_cut floor s.logs }
