-- Always: what a commit's transaction had read is what stands before the commit. In the history each batch read what those before it
-- leave. A commit that isn't released read what is released, and no commit before it that isn't released either writes what it had
-- read. So the commits are released as they are, and the history explains every read in it.
--
--     history      5 sets c/a to {n: 1}
--     unreleased   6 read c/a as {n: 1}, and writes c/b      7, behind it, read c/a too, and writes it: 6 doesn't
-- (Cloud Firestore documentation, "Transaction serializability and isolation".)
use Rattle.std.specs.Prelude.{◌≡◌, false, ⊤, List, [], ◌∷◌}
use Rattle.std.specs.List.{AllByRecursion}
use Rattle.fs_history.specs.History.{whole}
use Rattle.fs_history.specs.Serial.{AreSerial, AreShown}
use Rattle.fs_history.specs.Touches.{some_touched}
use Rattle.fs_history.specs.declared.batch.Batch.{Batch}
use Rattle.fs_history.specs.declared.read.Read.{Read}
use Rattle.fs_machine.specs.Past.{Past, batches}

-- a batch writes nothing that one of these reads goes over
abbrev pub Spares : List Read → Batch → Type 0
Spares rs b = some_touched b.writes rs ≡ false

-- each writes nothing that a later one had read
abbrev pub AreSpared : List Batch → Type 0
AreSpared [] = ⊤
AreSpared (b ∷ bs) = AllByRecursion (λ later. Spares later.reads b) bs × AreSpared bs

-- what a commit that comes may have read: what is released, which those that aren't released spare
pub record MayRead (p : Past) (rs : List Read) : Type 0 where
  pub shown : AreShown (whole p.history) rs
  pub spared : AllByRecursion (Spares rs) (batches p.unreleased)

pub record AreRead (h : List Batch) (bs : List Batch) : Type 0 where
  pub serial : AreSerial h
  pub shown : AllByRecursion (λ b. AreShown (whole h) b.reads) bs
  pub spared : AreSpared bs

abbrev pub ReadsHold : Past → Type 0
ReadsHold p = AreRead p.history (batches p.unreleased)
