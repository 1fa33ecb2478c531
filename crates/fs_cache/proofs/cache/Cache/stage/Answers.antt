use Rattle.std.proofs.Common.{ap, ◌∙◌}
use Rattle.fs_cache.specs.Cached.{Cached, with_cached}
use Rattle.fs_cache.proofs.Naming.{kept_staged, staged_at}
use Rattle.fs_cache.proofs.cache.Cache.stage.Goals as goal

pub invariant_of-self-2 : goal.invariant_of-self-2
invariant_of-self-2 c =
    let made = c.in_ok-make_place.ensures in
    kept_staged c.self.inside.taken.entries c.self.inside.changes.entries c.self.invariant c.make_place.new.places.entries c.insert.new.places.entries c.args.name.now c.args.next
    made.same c.in_ok-insert.ensures.ok made.kept made.ok c.requires

pub returns-clause-ok : goal.returns-clause-ok
returns-clause-ok c =
    let made = c.in_ok-make_place.ensures in
    let staged = staged_at c.self.inside.taken.entries c.self.inside.changes.entries c.self.invariant c.make_place.new.places.entries c.insert.new.places.entries c.args.name.now c.args.next
    made.same c.in_ok-insert.ensures.ok in
    (λ i. record { taken = made.same i; staged = staged i; snapshot = c.self.inside.snapshot })
    ∙ ap (λ (v : Cached). record v { staged = with_cached v.staged c.args.name.now c.args.next }) c.self.view_is
