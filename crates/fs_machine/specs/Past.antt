-- What was committed, and when: the history, the commits that aren't in it yet, and the times.
--
--     history       c/b at 7, c/a at 5                  the commits at 5 and 7 are seen, and their replies were given
--     unreleased    8 pending, 9 accepted               9 waits for 8, since a reader of 9 has to see 8 too
--     last 9, released 7, floor 4, moment 3             documents can be read at 4 to 7; the next commit is at 10
-- (v1 reference, "Commit": `commitTime`; "GetDocument", "RunQuery": `readTime`.)
use Rattle.std.specs.Prelude.{ℕ, ℤ, List, [], Bool, is_none, map, refl}
use Rattle.std.specs.Coded.{Coded, code_by, coded×, coded_ℕ, coded_ℤ, coded_list}
use Rattle.fs_history.specs.contracts.batch.Batch as batch
use Rattle.fs_history.specs.declared.batch.Batch.{Batch}
use Rattle.fs_machine.specs.contracts.unreleased.Unreleased as unreleased
use Rattle.fs_machine.specs.declared.unreleased.Unreleased.{Unreleased}

pub record Past : Type 0 where
  -- the newest batch in front
  pub history : List Batch
  -- those that aren't in it, by rising time
  pub unreleased : List Unreleased
  -- the greatest time that was issued
  pub last : ℤ
  -- the time up to which all is in the history, so that it can be read
  pub released : ℤ
  -- that of the last tick
  pub moment : ℤ
  -- the earliest time that can be read
  pub floor : ℤ
  -- by how many shards it is told what was changed
  pub shards : ℕ

-- it is stored as the tuple of its parts
abbrev pub past_code : Coded Past
past_code =
    code_by (List Batch × (List Unreleased × (ℤ × (ℤ × (ℤ × (ℤ × ℕ))))))
    (coded× (coded_list batch.the_row.coded) (coded× (coded_list unreleased.the_row.coded) (coded× coded_ℤ (coded× coded_ℤ (coded× coded_ℤ (coded× coded_ℤ coded_ℕ))))))
    (λ p. (p.history, (p.unreleased, (p.last, (p.released, (p.moment, (p.floor, p.shards)))))))
    (λ t. record { history = t.0; unreleased = t.1.0; last = t.1.1.0; released = t.1.1.1.0; moment = t.1.1.1.1.0; floor = t.1.1.1.1.1.0; shards = t.1.1.1.1.1.1 })
    (λ _. refl)

abbrev pub past_from : ℕ → ℤ → Past
past_from shards start = record { history = []; unreleased = []; last = start; released = start; moment = start; floor = start; shards = shards }

abbrev pub is_pending : Unreleased → Bool
is_pending u = is_none u.results

-- what commits are to be in the history
abbrev pub batches : List Unreleased → List Batch
batches us = map (λ u. u.batch) us
