use Rattle.std.proofs.Common.{◌≡◌, Option, None, Some, refl, sym, ap, ◌∙◌, Bor}
use Rattle.std.specs.Prelude.{is_some}
use Rattle.std.specs.FinMap.{get}
use Rattle.std.specs.Option.{option_map}
use Rattle.std.proofs.lemmas.Result.{on_ok_weaker}
use Rattle.fs_target.specs.declared.event.TimedEvent.{TimedEvent}
use Rattle.fs_target.proofs.Lent.{get-seen}
use Rattle.fs_target.proofs.latest.Latest.add_names.Goals as goal

see : Bor TimedEvent → TimedEvent
see b = b.now

some_seen : (o : Option (Bor TimedEvent)) → is_some o ≡ is_some (option_map see o)
some_seen None = refl
some_seen (Some b) = refl

pub returns-clause-added : goal.returns-clause-added
unfolding see
returns-clause-added c =
    on_ok_weaker c.add_keys.result
    (λ added name some. added name
    (some_seen _ ∙ ap is_some (sym (get-seen see c.self.inside.events.entries name) ∙ ap (λ m. get m name) c.self.view_is) ∙ some))
    c.add_keys.ensures.added
