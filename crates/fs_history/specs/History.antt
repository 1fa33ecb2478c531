-- The history of a database: the batches of writes that were committed. It is a list with the newest batch in front, and
-- each has a later time than those behind it. Whatever is promised of reads, transactions and listeners is said of it.
--
--     9   c/a to {n: 3}
--     7   c/a deleted, c/b to {n: 2}
--     5   c/a to {n: 1}
--
--     the documents at 4   none
--     those at 5 and 6     c/a {n: 1}
--     those at 7 and 8     c/b {n: 2}
--     those from 9 on      c/a {n: 3}, c/b {n: 2}
-- (v1 reference, "Commit": `commitTime`; "GetDocument", "RunQuery": `readTime`.)
use Rattle.std.specs.Prelude.{ℤ, int_le, int_lt, ◌<ℤ◌, ◌≤ℤ◌, ⊤, List, [], ◌∷◌, if◌then◌else◌}
use Rattle.std.specs.FinMap.{empty}
use Rattle.fs_write.specs.After.{after_batch}
use Rattle.fs_write.specs.Batch.{Docs}
use Rattle.fs_history.specs.declared.batch.Batch.{Batch}

-- the documents at a time: those that the batches up to it leave, one after another
abbrev pub at : List Batch → ℤ → Docs
at [] t = empty
at (b ∷ h) t = if int_le b.time t then after_batch (at h t) b.writes b.time else at h t

-- those just before it
abbrev pub before : List Batch → ℤ → Docs
before [] t = empty
before (b ∷ h) t = if int_lt b.time t then after_batch (before h t) b.writes b.time else before h t

-- those that all batches leave
abbrev pub whole : List Batch → Docs
whole [] = empty
whole (b ∷ h) = after_batch (whole h) b.writes b.time

-- ---- times

-- the last batch is before a time, and so are all where times rise
abbrev pub EndsBefore : List Batch → ℤ → Type 0
EndsBefore [] t = ⊤
EndsBefore (b ∷ h) t = b.time <ℤ t

-- it isn't after a time
abbrev pub EndsBy : List Batch → ℤ → Type 0
EndsBy [] t = ⊤
EndsBy (b ∷ h) t = b.time ≤ℤ t

-- each batch has a later time than the one before it
abbrev pub IsRising : List Batch → Type 0
IsRising [] = ⊤
IsRising (b ∷ h) = EndsBefore h b.time × IsRising h
