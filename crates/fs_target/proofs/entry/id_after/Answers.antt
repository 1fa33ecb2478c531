use Rattle.std.proofs.Common.{◌∙◌}
use Rattle.fs_target.proofs.Entries.{id_at, none_at}
use Rattle.fs_target.proofs.entry.id_after.Goals as goal

pub returns-in-Some : goal.returns-in-Some
returns-in-Some c =
    let at = c.in-Some.ensures.lookup in
    id_at c.args.entries.now c.place_after.result c.in-Some.entry.now at.3.0 at.1 ∙ c.place_after.ensures

pub returns-in-None : goal.returns-in-None
returns-in-None c = none_at c.args.entries.now c.place_after.result c.in-None.ensures.lookup.3 ∙ c.place_after.ensures
