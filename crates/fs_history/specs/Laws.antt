-- The laws of histories. Each is shown by a public call.
use Rattle.std.specs.Prelude.{◌≡◌, ℤ, ◌<ℤ◌, ◌≤ℤ◌, false, IsTrue, List, ◌∷◌, ◌++◌, reverse}
use Rattle.std.specs.FinMap.{get, values, is_sorted}
use Rattle.fs_path.specs.NameOrder.{name_cmp}
use Rattle.fs_path.specs.declared.name.DocName.{DocName}
use Rattle.fs_value.specs.Named.{by_name}
use Rattle.fs_write.specs.After.{after_batch}
use Rattle.fs_write.specs.Batch.{docs_of, AreNamed, AreChanges, IsOutcome}
use Rattle.fs_write.specs.declared.change.Change.{Change}
use Rattle.fs_write.specs.declared.write_result.WriteResult.{WriteResult}
use Rattle.fs_history.specs.Brings.{until}
use Rattle.fs_history.specs.History.{at, before, whole, EndsBy, IsRising}
use Rattle.fs_history.specs.Serial.{AreSerial, IsSerial, IsShown}
use Rattle.fs_history.specs.Touches.{touched}
use Rattle.fs_history.specs.Versions.{versions, newest, shown, chain}
use Rattle.fs_history.specs.declared.batch.Batch.{Batch}
use Rattle.fs_history.specs.declared.read.Read.{Read}

-- ---- times

-- at the time of the last batch and later, all batches count
abbrev pub AtIsWhole : Type 0
AtIsWhole = (h : List Batch) (t : ℤ) → IsRising h → EndsBy h t → at h t ≡ whole h

-- a batch is carried out on what all batches before it leave
abbrev pub BeforeIsWhole : Type 0
BeforeIsWhole = (b : Batch) (h : List Batch) → IsRising (b ∷ h) → before (b ∷ h) b.time ≡ whole h

-- a batch that comes later changes nothing of what was there at a time
abbrev pub LaterIsUnseen : Type 0
LaterIsUnseen = (b : Batch) (h : List Batch) (t : ℤ) → t <ℤ b.time → at (b ∷ h) t ≡ at h t

-- the documents at a time are those that the batches up to it leave
abbrev pub AtIsUntil : Type 0
AtIsUntil = (h : List Batch) (t : ℤ) → at h t ≡ whole (until h t)

-- ---- batches

-- the documents at a batch's time are what its writes leave of those just before it
abbrev pub BatchByBatch : Type 0
BatchByBatch = (later : List Batch) (b : Batch) (h : List Batch) → IsRising (later ++ b ∷ h)
    → at (later ++ b ∷ h) b.time ≡ after_batch (before (later ++ b ∷ h) b.time) b.writes b.time

-- its changes are what differs between the two
abbrev pub ChangesAreTheDifference : Type 0
ChangesAreTheDifference = (later : List Batch) (b : Batch) (h : List Batch) (cs : List Change) (rs : List WriteResult) → IsRising (later ++ b ∷ h)
    → IsOutcome (before (later ++ b ∷ h) b.time) b.writes b.time cs rs
    → AreChanges (before (later ++ b ∷ h) b.time) (at (later ++ b ∷ h) b.time) cs

-- and so between all that was there before it and all that is there with it
abbrev pub ChangesOfTheLast : Type 0
ChangesOfTheLast = (b : Batch) (h : List Batch) (cs : List Change) (rs : List WriteResult)
    → IsOutcome (whole h) b.writes b.time cs rs → AreChanges (whole h) (whole (b ∷ h)) cs

-- ---- versions

-- a name's document at a time is that of its newest version then
abbrev pub VersionsShow : Type 0
VersionsShow = (h : List Batch) (t : ℤ) (name : DocName) → IsRising h → get (at h t) name ≡ shown t (versions h name)

-- from the floor on its chain shows the same
abbrev pub ChainShows : Type 0
ChainShows = (h : List Batch) (floor : ℤ) (t : ℤ) (name : DocName) → IsRising h → floor ≤ℤ t
    → get (at h t) name ≡ shown t (reverse (chain h floor name))

-- its newest document is that of the last version in its chain
abbrev pub ChainEndsWithNewest : Type 0
ChainEndsWithNewest = (h : List Batch) (floor : ℤ) (name : DocName) → get (whole h) name ≡ newest (reverse (chain h floor name))

-- histories with the same chains from a floor on have the same documents from there on
abbrev pub ChainsTell : Type 0
ChainsTell = (h : List Batch) (k : List Batch) (floor : ℤ) (t : ℤ) → IsRising h → IsRising k → floor ≤ℤ t
    → ((name : DocName) → chain h floor name ≡ chain k floor name) → at h t ≡ at k t

-- ---- names

-- each document stands at its own name
abbrev pub AtOwnNames : Type 0
AtOwnNames = (h : List Batch) (t : ℤ) → AreNamed (at h t)

-- so the documents of a time are a list whose names rise, and that list has them all
abbrev pub ListedByName : Type 0
ListedByName = (h : List Batch) (t : ℤ) → IsTrue (is_sorted name_cmp (by_name (values (at h t)))) × (docs_of (values (at h t)) ≡ at h t)

-- ---- reads

-- what a read showed is what the documents give still, behind a batch that doesn't touch it
abbrev pub ReadsStay : Type 0
ReadsStay = (b : Batch) (h : List Batch) (r : Read) → touched b.writes r ≡ false → IsShown (whole h) r → IsShown (whole (b ∷ h)) r

-- a history is serial where each batch read what the batches before it leave
abbrev pub SerialByBatch : Type 0
SerialByBatch = (h : List Batch) → IsRising h → AreSerial h → IsSerial h
