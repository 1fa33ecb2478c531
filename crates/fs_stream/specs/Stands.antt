-- Always: a stream that has finished a batch keeps the response to its last one, and each session that owns a stream owns one that
-- was opened, and that no other session owns.
use Rattle.std.specs.Prelude.{◌≡◌, ◌↔◌, ◌<◌, ◌≤◌, ℕ, Some, None, length}
use Rattle.std.specs.FinMap.{get}
use Rattle.fs_pairs.specs.Pairs.{AreDistinct}
use Rattle.fs_stream.specs.Streams.{Streams, stream_of}

pub record Stands (m : Streams) : Type 0 where
  pub kept : (n : ℕ) → ((stream_of n m).kept ≡ None) ↔ ((stream_of n m).finished ≡ 0)
  pub opened : (session n : ℕ) → get m.owners session ≡ Some n → (0 < n) × (n ≤ length m.opened)
  pub distinct : AreDistinct m.owners
