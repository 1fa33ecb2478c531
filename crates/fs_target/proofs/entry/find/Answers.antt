use Rattle.std.proofs.Common.{sym, ap, ◌∙◌}
use Rattle.std.specs.Prelude.{map}
use Rattle.fs_target.specs.Entries.{found}
use Rattle.fs_target.specs.Seen.{seen}
use Rattle.fs_target.proofs.Entries.{entry_there, found_absent}
use Rattle.fs_target.proofs.entry.find.Goals as goal

pub returns-in-Ok : goal.returns-in-Ok
returns-in-Ok c =
    sym (entry_there c.from.result c.args.entries.now c.in-Ok.i c.index-entries-i.result c.requires c.in-Ok.ensures c.index-entries-i.is)
    ∙ ap (λ k. found k (map seen c.args.entries.now)) c.from.ensures

pub returns-in-Err : goal.returns-in-Err
returns-in-Err c =
    sym (found_absent c.from.result (map seen c.args.entries.now) c.in-Err.field-0 c.in-Err.ensures)
    ∙ ap (λ k. found k (map seen c.args.entries.now)) c.from.ensures
