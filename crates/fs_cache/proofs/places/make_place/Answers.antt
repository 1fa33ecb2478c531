use Rattle.std.proofs.Common.{None, sym, ◌∙◌}
use Rattle.fs_cache.specs.Places.{place_at}
use Rattle.fs_cache.proofs.Laid.{none_there, standing_made, there_put}
use Rattle.fs_cache.proofs.places.make_place.Goals as goal

pub returns-clause-same : goal.returns-clause-same
returns-clause-same c =
    let es = c.args.places.now.entries in
    standing_made es c.insert.new.places.entries c.args.name.now c.in_ok-insert.ensures.ok
    (none_there (place_at es c.args.name.now) (sym c.contains_key.ensures ∙ c.if-contains_key.false))

pub returns-clause-ok : goal.returns-clause-ok
returns-clause-ok c = there_put c.args.places.now.entries c.insert.new.places.entries c.args.name.now None c.in_ok-insert.ensures.ok
