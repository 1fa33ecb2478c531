use Rattle.std.proofs.Common.{Some, ap, ◌∙◌}
use Rattle.std.specs.Prelude.{map}
use Rattle.fs_target.specs.Entries.{ids_of}
use Rattle.fs_target.specs.Held.{id_after}
use Rattle.fs_target.specs.Seen.{seen}
use Rattle.fs_target.proofs.Entries.{id_after_absent, id_after_there}
use Rattle.fs_target.proofs.entry.place_behind.Goals as goal

pub returns-in-Ok : goal.returns-in-Ok
returns-in-Ok c =
    let ss = map seen c.args.entries.now in
    id_after_there c.from.result ss c.in-Ok.i c.requires c.in-Ok.ensures ∙ ap (λ k. id_after (Some k) (ids_of ss)) c.from.ensures

pub returns-in-Err : goal.returns-in-Err
returns-in-Err c =
    let ss = map seen c.args.entries.now in
    id_after_absent c.from.result ss c.in-Err.i c.in-Err.ensures ∙ ap (λ k. id_after (Some k) (ids_of ss)) c.from.ensures
