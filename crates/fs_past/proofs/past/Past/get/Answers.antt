use Rattle.std.proofs.Common.{◌≤ℤ◌, sym, ap, ◌∙◌, subst}
use Rattle.std.specs.FinMap.{get}
use Rattle.fs_history.specs.History.{at}
use Rattle.fs_machine.specs.Past.{Past}
use Rattle.fs_past.proofs.past.Past.get.Goals as goal

pub get-requires-clause-from : goal.get-requires-clause-from
get-requires-clause-from c = subst (λ (p : Past). p.floor ≤ℤ c.args.time) (sym c.self.view_is) c.requires.from

pub get-requires-clause-to : goal.get-requires-clause-to
get-requires-clause-to c = subst (λ (p : Past). c.args.time ≤ℤ p.released) (sym c.self.view_is) c.requires.to

pub returns : goal.returns
returns c =
    c.get.ensures.shows c.self.inside.journal.history c.self.invariant.shows
    ∙ ap (λ (p : Past). get (at p.history c.args.time) c.args.name.now) c.self.view_is
