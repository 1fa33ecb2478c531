use Rattle.fs_listen.specs.Cuts.{first_loading}
use Rattle.std.specs.Prelude.{map}
use Rattle.fs_target.specs.Seen.{listed_in, seen}
use Rattle.fs_target.proofs.Cutting.{loading_here}
use Rattle.fs_target.proofs.cuts.first_loading.Goals as goal

pub returns-then-is_none : goal.returns-then-is_none
returns-then-is_none c =
    let l = c.loop-entry in
    let e = c.entry-item.result in
    loading_here (first_loading (map listed_in (map seen c.args.entries.now))) c.args.entries.now l.entry-index e c.loop-entry-test.true l.invariant c.entry-item.is c.if-is_none.ensures
