pub mod Mapped
mod Numbers
mod TargetsAt
mod Holding
mod Uncovered
mod OnLink
mod Numbered
mod Snapshots
pub mod Standing
mod Acknowledging
mod LostLink
mod HadOf
mod Staging
mod Gathering
mod Placed
mod Fronts
mod Parts
mod SameAnswers
mod ShownViews
mod Exchanging
mod ExchangeStays
