use Rattle.std.proofs.Common.{sym, ap, ◌∙◌, Bor}
use Rattle.std.specs.FinMap.{get}
use Rattle.std.specs.Option.{option_map}
use Rattle.fs_target.specs.declared.event.TimedEvent.{TimedEvent}
use Rattle.fs_target.proofs.Lent.{get-seen}
use Rattle.fs_target.proofs.latest.Latest.get.Goals as goal

pub returns : goal.returns
returns c =
    let see = λ (b : Bor TimedEvent). b.now in
    ap (option_map see) (c.copied.ensures ∙ c.get.ensures.value)
    ∙ sym (get-seen see c.self.inside.events.entries c.args.name.now)
    ∙ ap (λ m. get m c.args.name.now) c.self.view_is
