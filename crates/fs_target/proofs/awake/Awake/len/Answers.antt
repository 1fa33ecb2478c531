use Rattle.std.proofs.Common.{ap, ◌∙◌, sym, map}
use Rattle.std.specs.FinMap.{len}
use Rattle.std.proofs.lemmas.List.{length-map}
use Rattle.fs_target.specs.Held.{Held}
use Rattle.fs_target.specs.Prepared.{held_in}
use Rattle.fs_target.specs.Seen.{seen}
use Rattle.fs_target.proofs.Asked.{len_is}
use Rattle.fs_target.proofs.awake.Awake.len.Goals as goal

pub returns : goal.returns
returns c =
    c.len.ensures
    ∙ c.self.inside.entries.ok.0
    ∙ sym (length-map c.self.inside.entries.items seen)
    ∙ sym (len_is c.self.inside.shards c.self.inside.limit c.self.inside.raised 0 (map seen c.self.inside.entries.items) c.self.invariant.1.0)
    ∙ ap (λ (h : Held). len h.listening.targets) (ap held_in c.self.view_is)
