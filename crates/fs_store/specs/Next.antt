-- The next release of a store, up to a time: it begins where the last one ended.
use Rattle.std.specs.Prelude.{ℤ, List}
use Rattle.fs_write.specs.declared.timed_change.TimedChange.{TimedChange}
use Rattle.fs_store.specs.Stored.{Stored}
use Rattle.fs_store.specs.declared.release.Release.{Release}

abbrev pub next_release : Stored → ℤ → List TimedChange → Release
next_release s to changes = record { from = s.absorbed; to = to; changes = changes }
