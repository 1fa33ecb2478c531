mod Acknowledged
pub mod Asking
pub mod Batches
pub mod Behind
pub mod Carried
mod CommitsOnce
mod Cuts
pub mod Desks
mod DesksSaid
pub mod Holders
pub mod Holding
pub mod FloorIsReleased
pub mod Grows
pub mod Settings
pub mod Heard
mod Given
pub mod HistoryRises
pub mod IdsAreDrawn
pub mod Listening
pub mod ListenersHold
mod InProgress
pub mod Moved
pub mod NamesApart
pub mod OutcomesStay
mod OwnersTold
pub mod Pending
pub mod Places
pub mod Refused
pub mod ReleasedOnce
pub mod Reordered
mod Repeats
pub mod Replies
pub mod ReadsHold
pub mod ResultsHold
pub mod Retried
pub mod Runs
pub mod SessionsNumbered
pub mod SettledInAnyOrder
mod Told
mod Streaming
pub mod StreamsHold
mod StreamsAsked
mod StreamRuns
mod StreamsInOrder
mod StreamsMove
mod Tallies
mod Tokens
pub mod TransactionsHold
pub mod UnreleasedRise
pub mod Verdicts
mod ResultsStand
mod Ordinary
mod PreparedStands
mod Causes
mod OldNumbers
mod NotBothCommit
mod ReadsAreTrue
mod TimesOfReadsStay
mod RefusalsStand
mod Resets
mod Says
mod Raises
mod Fronts
mod ListenRuns
