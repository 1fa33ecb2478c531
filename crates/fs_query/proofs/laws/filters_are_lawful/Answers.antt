use Rattle.fs_query.proofs.FittingDisjuncts.{fits_a_disjunct}
use Rattle.fs_query.proofs.JoiningMembers.{joining_rise, joining_are_unordered}
use Rattle.fs_query.proofs.laws.filters_are_lawful.Goals as goal

pub returns-clause-disjuncts : goal.returns-clause-disjuncts
returns-clause-disjuncts c = fits_a_disjunct

pub returns-clause-rise : goal.returns-clause-rise
returns-clause-rise c = joining_rise

pub returns-clause-joining : goal.returns-clause-joining
returns-clause-joining c = joining_are_unordered
