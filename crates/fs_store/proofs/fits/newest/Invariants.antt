use Rattle.std.proofs.Common.{◌≡◌, ◌-◌, length, take}
use Rattle.fs_versions.specs.Chain.{last_document}
use Rattle.fs_versions.specs.Chains.{chain_of}
use Rattle.fs_store.specs.Stored.{all_installed}
use Rattle.fs_store.proofs.fits.newest.Given as goal

-- the commits so far have no change of this name
abbrev pub invariant-loop-i : goal.invariant-loop-i
invariant-loop-i l =
    last_document (chain_of (all_installed l.versions.chains l.commits) l.name)
    ≡ last_document (chain_of (all_installed l.versions.chains (take (length l.commits - l.i) l.commits)) l.name)
