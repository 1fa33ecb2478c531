use Rattle.std.proofs.Common.{refl, ap, ◌∙◌}
use Rattle.fs_listen.specs.Cuts.{least_before}
use Rattle.fs_target.proofs.Cutting.{least_next, least_of_entries, least_of_entry}
use Rattle.fs_target.proofs.Joined.{joined_all, joined_more, least_alone, least_thrice}
use Rattle.fs_target.proofs.cuts.least_of_all.Goals as goal

pub loop-entry-preserved : goal.loop-entry-preserved
loop-entry-preserved c =
    let l = c.loop-entry in
    joined_more least_before least_thrice least_alone least_of_entries least_of_entry least_next refl (least_of_entries c.args.entries.now) l.least c.lesser-least.result c.args.entries.now
    l.entry-index c.entry-item.result c.loop-entry-test.true l.invariant c.entry-item.is (c.lesser-least.ensures ∙ ap (least_before l.least) c.least_position.ensures)

pub returns : goal.returns
returns c =
    let l = c.loop-entry in
    joined_all least_before least_thrice least_alone least_of_entries least_of_entry least_next refl (least_of_entries c.args.entries.now) l.least c.args.entries.now l.entry-index
    c.loop-entry-test.false l.invariant
