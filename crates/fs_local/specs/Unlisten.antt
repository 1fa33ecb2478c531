-- A client listens to a target no longer: the documents go that no other target has.
use Rattle.std.specs.Prelude.{ℕ}
use Rattle.std.specs.FinMap.{remove}
use Rattle.fs_cache.specs.Cached.{forgotten}
use Rattle.fs_local.specs.Ask.{asking, remove_request}
use Rattle.fs_local.specs.State.{Client, Targets}

abbrev pub without_target : ℕ → Targets → Targets
without_target id ts = record ts { listened = remove ts.listened id }

abbrev pub unlistened : ℕ → Client → Client
unlistened id c = record c { cache = forgotten id c.cache; targets = without_target id c.targets; hand = asking (remove_request c.root id) c.hand }
