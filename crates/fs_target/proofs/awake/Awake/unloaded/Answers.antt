use Rattle.std.proofs.Common.{List, map, sym, ap, ◌∙◌}
use Rattle.std.specs.FinMap.{entries}
use Rattle.fs_listen.specs.Cuts.{first_loading}
use Rattle.fs_target.specs.Held.{Held}
use Rattle.fs_target.specs.Prepared.{held_in}
use Rattle.fs_target.specs.Seen.{Seen, listed_in, seen}
use Rattle.fs_target.specs.declared.entry.Entry.{Entry}
use Rattle.fs_target.proofs.Entries.{entries_of}
use Rattle.fs_target.proofs.awake.Awake.unloaded.Goals as goal

pub returns : goal.returns
returns c =
    c.first_loading.ensures
    ∙ ap (λ (es : List Entry). first_loading (map listed_in (map seen es))) c.as_slice.ensures.value
    ∙ ap first_loading (sym (entries_of (λ (s : Seen). s.listened) (map seen c.self.inside.entries.items) c.self.invariant.1.0))
    ∙ ap (λ (h : Held). first_loading (entries h.listening.targets)) (ap held_in c.self.view_is)
