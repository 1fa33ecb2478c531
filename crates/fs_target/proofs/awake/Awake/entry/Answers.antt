use Rattle.std.proofs.Common.{List, map, ap, ◌∙◌}
use Rattle.std.specs.FinMap.{get}
use Rattle.fs_target.specs.Entries.{found}
use Rattle.fs_target.specs.Held.{Held}
use Rattle.fs_target.specs.Prepared.{held_in}
use Rattle.fs_target.specs.Seen.{Seen, seen}
use Rattle.fs_target.specs.declared.entry.Entry.{Entry}
use Rattle.fs_target.proofs.Asked.{found_as}
use Rattle.fs_target.proofs.awake.Awake.entry.Goals as goal

pub returns-clause-listened : goal.returns-clause-listened
returns-clause-listened c =
    found_as (λ e. seen e.now) (λ (s : Seen). s.listened) c.find.result c.args.id (map seen c.self.inside.entries.items)
    (c.find.ensures ∙ ap (λ (es : List Entry). found c.args.id (map seen es)) c.as_slice.ensures.value)
    ∙ ap (λ (h : Held). get h.listening.targets c.args.id) (ap held_in c.self.view_is)

pub returns-clause-kept : goal.returns-clause-kept
returns-clause-kept c =
    found_as (λ e. seen e.now) (λ (s : Seen). s.kept) c.find.result c.args.id (map seen c.self.inside.entries.items)
    (c.find.ensures ∙ ap (λ (es : List Entry). found c.args.id (map seen es)) c.as_slice.ensures.value)
    ∙ ap (λ (h : Held). get h.kept c.args.id) (ap held_in c.self.view_is)
