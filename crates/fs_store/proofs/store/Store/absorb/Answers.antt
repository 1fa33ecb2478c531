use Rattle.std.proofs.Common.{◌≡◌, sym, subst}
use Rattle.fs_versions.specs.Chains.{Chains}
use Rattle.fs_versions.specs.Shows.{Shows as VersionsShow}
use Rattle.fs_store.specs.Fits.{Fits}
use Rattle.fs_store.specs.Held.{IsHeld}
use Rattle.fs_path.specs.Scope.{AreShards}
use Rattle.fs_store.specs.Room.{HasPlaces, HasRoomFor, Housed, change_count}
use Rattle.fs_store.specs.Shows.{Shows}
use Rattle.fs_store.specs.Stored.{Stored, absorbed}
use Rattle.fs_store.proofs.Holding.{can_absorb, held_absorbed, shows_absorbed}
use Rattle.fs_store.proofs.store.Store.absorb.Goals as goal

pub install_all-requires : goal.install_all-requires
install_all-requires c =
    let s : Stored = record { chains = c.self.inside.versions.chains; absorbed = c.self.inside.absorbed; shards = c.self.inside.logs.shards; logs = c.self.inside.logs.logs } in
    record {
      can = can_absorb s c.args.release c.self.invariant.0 (subst (λ (h : Housed). Fits h.stored c.args.release) (sym c.self.view_is) c.requires.fits);
      room = subst (λ (h : Housed). HasRoomFor h.room c.args.release.changes) (sym c.self.view_is) c.requires.room;
      ends = c.self.invariant.1.by;
      places = subst (λ (h : Housed). HasPlaces h (change_count c.args.release.changes)) (sym c.self.view_is) c.requires.places;
    }

pub invariant_of-self : goal.invariant_of-self
invariant_of-self c =
    let s : Stored = record { chains = c.self.inside.versions.chains; absorbed = c.self.inside.absorbed; shards = c.self.inside.logs.shards; logs = c.self.inside.logs.logs } in (
      subst (λ (v : Chains). IsHeld v c.args.release.to) (sym c.install_all.ensures.value)
          (held_absorbed s c.args.release c.self.invariant.0 (subst (λ (h : Housed). Fits h.stored c.args.release) (sym c.self.view_is) c.requires.fits)),
      record { are = subst AreShards (sym c.install_all.ensures.shards) c.self.invariant.1.are; by = c.install_all.ensures.ends },
    )

pub returns-clause-shows : goal.returns-clause-shows
returns-clause-shows c = λ h k shows brings.
    let s : Stored = record { chains = c.self.inside.versions.chains; absorbed = c.self.inside.absorbed; shards = c.self.inside.logs.shards; logs = c.self.inside.logs.logs } in
    let seen = subst (λ (t : Housed). Shows h t.stored) (sym c.self.view_is) shows in
    let versions = subst (VersionsShow k) c.install_all.ensures.value (c.install_all.ensures.shows h k seen.versions brings) in
    let then : Stored = record { chains = c.install_all.new.versions.chains; absorbed = c.args.release.to; shards = c.install_all.new.logs.shards; logs = c.install_all.new.logs.logs } in
    let same : then ≡ absorbed s c.args.release =
    λ i. record { chains = c.install_all.ensures.value i; absorbed = c.args.release.to; shards = c.install_all.ensures.shards i; logs = c.install_all.ensures.noted i } in
    subst (Shows k) (sym same)
    (shows_absorbed s c.args.release c.self.invariant.0 (subst (λ (t : Housed). Fits t.stored c.args.release) (sym c.self.view_is) c.requires.fits) h k c.self.invariant.1.are seen brings versions)
