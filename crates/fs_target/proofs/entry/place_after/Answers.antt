use Rattle.std.proofs.Common.{sym, ap, ◌∙◌}
use Rattle.std.specs.Prelude.{map}
use Rattle.fs_target.specs.Entries.{ids_of}
use Rattle.fs_target.specs.Held.{id_after}
use Rattle.fs_target.specs.Seen.{seen}
use Rattle.fs_target.proofs.Entries.{id_after_none}
use Rattle.fs_target.proofs.entry.place_after.Goals as goal

pub returns-in-None : goal.returns-in-None
returns-in-None c =
    let ids = ids_of (map seen c.args.entries.now) in
    id_after_none ids ∙ ap (λ o. id_after o ids) (sym c.in-None.is)
