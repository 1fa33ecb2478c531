use Rattle.std.proofs.Common.{List, map, ap, ◌∙◌}
use Rattle.fs_listen.specs.Cuts.{cut}
use Rattle.fs_target.specs.Held.{Held}
use Rattle.fs_target.specs.Prepared.{held_in}
use Rattle.fs_target.specs.Seen.{listening_of, seen}
use Rattle.fs_target.specs.declared.entry.Entry.{Entry}
use Rattle.fs_target.proofs.awake.Awake.cut.Goals as goal

pub returns : goal.returns
returns c =
    c.cut.ensures c.self.inside.raised
    ∙ ap (λ (es : List Entry). cut (listening_of c.self.inside.raised (map seen es))) c.as_slice.ensures.value
    ∙ ap (λ (h : Held). cut h.listening) (ap held_in c.self.view_is)
