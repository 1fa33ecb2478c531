use Rattle.std.proofs.Common.{List, map, ap, ◌∙◌}
use Rattle.std.specs.FinMap.{keys}
use Rattle.fs_target.specs.Entries.{ids_of}
use Rattle.fs_target.specs.Held.{Held, id_after}
use Rattle.fs_target.specs.Prepared.{held_in}
use Rattle.fs_target.specs.Seen.{seen}
use Rattle.fs_target.specs.declared.entry.Entry.{Entry}
use Rattle.fs_target.proofs.Asked.{ids_are}
use Rattle.fs_target.proofs.awake.Awake.after.Goals as goal

pub returns : goal.returns
returns c =
    c.id_after.ensures
    ∙ ap (λ (es : List Entry). id_after c.args.id (ids_of (map seen es))) c.as_slice.ensures.value
    ∙ ap (id_after c.args.id) (ids_are c.self.inside.raised (map seen c.self.inside.entries.items) c.self.invariant.1.0)
    ∙ ap (λ (h : Held). id_after c.args.id (keys h.listening.targets)) (ap held_in c.self.view_is)
