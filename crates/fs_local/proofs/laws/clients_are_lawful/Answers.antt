use Rattle.fs_local.proofs.Acknowledging.{acknowledged_stays}
use Rattle.fs_local.proofs.ExchangeStays.{exchange_stays}
use Rattle.fs_local.proofs.Gathering.{gathered_is_staged, members_are_staged}
use Rattle.fs_local.proofs.LostLink.{connected_shows_the_same, lost_shows_the_same}
use Rattle.fs_local.proofs.ShownViews.{shows_what_it_took}
use Rattle.fs_local.proofs.Standing.{always_stands}
use Rattle.fs_local.proofs.laws.clients_are_lawful.Goals as goal

pub returns-clause-stands : goal.returns-clause-stands
returns-clause-stands c = always_stands

pub returns-clause-acknowledged : goal.returns-clause-acknowledged
returns-clause-acknowledged c = acknowledged_stays

pub returns-clause-lost : goal.returns-clause-lost
returns-clause-lost c = lost_shows_the_same

pub returns-clause-connected : goal.returns-clause-connected
returns-clause-connected c = connected_shows_the_same

pub returns-clause-taken : goal.returns-clause-taken
returns-clause-taken c = shows_what_it_took

pub returns-clause-gathered : goal.returns-clause-gathered
returns-clause-gathered c = gathered_is_staged

pub returns-clause-members : goal.returns-clause-members
returns-clause-members c = members_are_staged

pub returns-clause-exchange : goal.returns-clause-exchange
returns-clause-exchange c = exchange_stays
