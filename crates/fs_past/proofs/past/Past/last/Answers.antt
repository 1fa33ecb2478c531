use Rattle.std.proofs.Common.{subst}
use Rattle.fs_machine.specs.Facts.{PastFacts}
use Rattle.fs_machine.specs.Past.{Past}
use Rattle.fs_past.specs.Bringing.{IsBrought}
use Rattle.fs_past.proofs.past.Past.last.Goals as goal

pub returns-clause-facts : goal.returns-clause-facts
returns-clause-facts c = subst PastFacts c.self.view_is c.self.invariant.facts

pub returns-clause-brought : goal.returns-clause-brought
returns-clause-brought c =
    let shows = c.self.invariant.shows in
    subst (λ (p : Past). IsBrought p.history) c.self.view_is (shows.commits, shows.brought)
