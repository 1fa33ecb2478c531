-- What a queue keeps to: each batch that isn't answered has a number and a place among the acknowledged. (Only private clauses cite this.)
use Rattle.std.specs.Prelude.{◌≡◌, ◌≢◌, ◌≤◌, ◌+◌, ℕ, Bool, true, List, [], length}
use Rattle.fs_queue.specs.declared.batch.LocalBatch.{LocalBatch}

pub record IsKept (room given acknowledged : ℕ) (unanswered : List LocalBatch) (sent : Bool) : Type 0 where
  pub numbers : length unanswered ≤ given
  pub there : sent ≡ true → unanswered ≢ []
  pub places : acknowledged + length unanswered ≤ room
