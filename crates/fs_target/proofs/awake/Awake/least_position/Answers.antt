use Rattle.std.proofs.Common.{ap, ◌∙◌, sym}
use Rattle.fs_listen.specs.Cuts.{least_position}
use Rattle.fs_target.specs.Held.{Held}
use Rattle.fs_target.specs.Prepared.{held_in}
use Rattle.fs_target.proofs.Cutting.{least_of, least_of_entries}
use Rattle.fs_target.proofs.awake.Awake.least_position.Goals as goal

pub returns : goal.returns
returns c =
    c.least_of_all.ensures
    ∙ ap least_of_entries c.as_slice.ensures.value
    ∙ sym (least_of c.self.inside.raised c.self.inside.entries.items c.self.invariant.1.0)
    ∙ ap (λ (h : Held). least_position h.listening) (ap held_in c.self.view_is)
