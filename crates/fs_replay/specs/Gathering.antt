-- For private clauses: how bytes are read from a source, and why that stopped.
use Rattle.std.specs.Prelude.{◌≡◌, ℕ, ◌+◌, ◌<◌, ◌≤◌, Bool, true, false}
use Rattle.fs_edge.specs.declared.source.Took.{Took}
use Rattle.fs_edge.specs.declared.source.Took.TheVariants as took
use Rattle.fs_edge.specs.declared.status.Status.{Status}
use Rattle.fs_edge.specs.declared.status.Status.TheVariants as status
use Rattle.fs_replay.specs.declared.gather.Stop.{Stop}
use Rattle.fs_replay.specs.declared.gather.Stop.TheVariants.{End, Failed, Full}

-- A read adds what it gave to the bytes that were taken before, at least one and as many as the buffer holds.
abbrev pub GrowsBy : Took → ℕ → ℕ → ℕ → Type 0
GrowsBy (took.Bytes count) before room after = (after ≡ before + count) × (0 < count) × (count ≤ room)
GrowsBy took.End before room after = after ≡ before
GrowsBy took.Failed before room after = after ≡ before

-- whether the last line came whole
abbrev pub is_whole : Stop → Bool
is_whole End = true
is_whole Failed = false
is_whole Full = false

-- how a run ends that has carried out all that was read
abbrev pub status_of : Stop → Status
status_of End = status.Ok
status_of Failed = status.ReadFault
status_of Full = status.InputLimit
