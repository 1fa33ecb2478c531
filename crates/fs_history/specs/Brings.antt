-- What commits bring a history: a batch for each of them, with its time, its number and its changes, and nothing else. So who is told of the
-- commits behind a time knows what there is afterwards, from what there was.
--
--     behind a history with c/a {n: 1} at 5      at 7, number 2: c/a deleted, d/b to {n: 2}      brings the batches of 7 and 9
--                                                at 9, number 3: c/a to {n: 3}
--     between 7 and 9                            the commit of 9
--     of the shard of d, up to 9                 the commit of 7, with d/b alone
use Rattle.std.specs.Prelude.{◌≡◌, ℕ, ℤ, int_le, int_lt, Bool, ◌&&◌, List, [], ◌∷◌, if◌then◌else◌}
use Rattle.std.specs.List.{filter}
use Rattle.fs_path.specs.declared.name.DocName.{DocName}
use Rattle.fs_write.specs.Batch.{AreChanges}
use Rattle.fs_write.specs.declared.change.Change.{Change}
use Rattle.fs_write.specs.declared.timed_change.TimedChange.{TimedChange}
use Rattle.fs_history.specs.History.{whole}
use Rattle.fs_history.specs.declared.batch.Batch.{Batch}

-- behind a history, a batch is this commit
pub record IsCommit (h : List Batch) (b : Batch) (c : TimedChange) : Type 0 where
  pub time : b.time ≡ c.time
  pub id : b.id ≡ c.id
  pub changes : AreChanges (whole h) (whole (b ∷ h)) c.changes

-- the commits, one after another behind a history, make it another
abbrev pub Brings : List Batch → List TimedChange → List Batch → Type 0
Brings h [] k = k ≡ h
Brings h (c ∷ cs) k = (b : Batch) × IsCommit h b c × Brings (b ∷ h) cs k

-- ---- up to a time, and behind one

-- the batches up to a time
abbrev pub until : List Batch → ℤ → List Batch
until [] t = []
until (b ∷ h) t = if int_le b.time t then b ∷ until h t else until h t

-- the commits behind a time, and those of them up to another
abbrev pub after : ℤ → List TimedChange → List TimedChange
after s cs = filter (λ c. int_lt s c.time) cs

abbrev pub between : ℤ → ℤ → List TimedChange → List TimedChange
between s t cs = filter (λ c. int_lt s c.time && int_le c.time t) cs

-- ---- of some names

-- a commit with these of its changes, and none where it has none
abbrev pub if_some : ℤ → ℕ → List Change → List TimedChange → List TimedChange
if_some time id [] cs = cs
if_some time id (d ∷ ds) cs = record { time = time; id = id; changes = d ∷ ds } ∷ cs

abbrev pub of_names : (DocName → Bool) → List TimedChange → List TimedChange
of_names p [] = []
of_names p (c ∷ cs) = if_some c.time c.id (filter (λ (d : Change). p d.name) c.changes) (of_names p cs)

-- what was changed of some names behind a time, up to another
pub record AreChangesIn (h : List Batch) (p : DocName → Bool) (s : ℤ) (t : ℤ) (cs : List TimedChange) : Type 0 where
  pub commits : List TimedChange
  pub brought : Brings (until h s) commits (until h t)
  pub told : cs ≡ of_names p commits
