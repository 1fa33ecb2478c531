use Rattle.std.proofs.Common.{◌≡◌, ◌++◌}
use Rattle.std.specs.FinMap.{get}
use Rattle.fs_path.specs.declared.name.DocName.{DocName}
use Rattle.fs_cache.specs.Cached.{documents}
use Rattle.fs_queue.specs.Overlay.{laid}
use Rattle.fs_path.proofs.NamesOnce.{names_at}
use Rattle.fs_client.proofs.StandingAt.{standing_at}
use Rattle.fs_client.proofs.shown.named.Given as goal

-- the documents so far, and then those at the names that are left, are the whole
abbrev pub invariant-loop-name : goal.invariant-loop-name
invariant-loop-name l =
    let there = λ (name : DocName). laid (get l.left name) (get (documents l.cache) name) in
    l.docs ++ standing_at there (names_at l.name-iterator) ≡ standing_at there (names_at l.initial.name-iterator)
