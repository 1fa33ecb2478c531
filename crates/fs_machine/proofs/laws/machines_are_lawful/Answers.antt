use Rattle.fs_machine.proofs.Cuts.{cuts_are_consistent, raises_never_fall, served_are_raised}
use Rattle.fs_machine.proofs.Acknowledged.{acknowledged_is_committed}
use Rattle.fs_machine.proofs.Causes.{aborts_name_their_cause, waits_name_their_cause}
use Rattle.fs_machine.proofs.CommitsOnce.{requests_commit_once}
use Rattle.fs_machine.proofs.Holders.{aborted_by_the_least, held_by_the_least, read_only_commits, read_only_goes_on}
use Rattle.fs_machine.proofs.Given.{messages_are_taken, said_is_given}
use Rattle.fs_machine.proofs.Grows.{documents_stay}
use Rattle.fs_machine.proofs.OwnersTold.{owners_are_told}
use Rattle.fs_machine.proofs.OutcomesStay.{outcomes_stay}
use Rattle.fs_machine.proofs.NotBothCommit.{not_both_commit}
use Rattle.fs_machine.proofs.PreparedStands.{prepared_stands}
use Rattle.fs_machine.proofs.ReadsAreTrue.{reads_are_true}
use Rattle.fs_machine.proofs.Refused.{refused_is_never_seen}
use Rattle.fs_machine.proofs.RefusalsStand.{refusals_stand}
use Rattle.fs_machine.proofs.Repeats.{repeats_are_told}
use Rattle.fs_machine.proofs.Replies.{replies_come_once}
use Rattle.fs_machine.proofs.ResultsStand.{results_stand}
use Rattle.fs_machine.proofs.Retried.{retried_as_if_it_came}
use Rattle.fs_machine.proofs.Runs.{begins, all_grow, all_kept, serial_always}
use Rattle.fs_machine.proofs.SettledInAnyOrder.{same_replies_in_any_order, settled_in_any_order}
use Rattle.fs_machine.proofs.StreamRuns.{batches_once, committed_once, repeats_alike, kept_token, once_per_token}
use Rattle.fs_machine.proofs.Resets.{floor_stays, resets_are_of_lost_loads, resets_follow_compaction}
use Rattle.fs_machine.proofs.Raises.{others_stay_quiet, quiet_unless_ready, raised_once_due, raised_when_ready}
use Rattle.fs_machine.proofs.Fronts.{consistent_at_each, raises_end, told_goes_on}
use Rattle.fs_machine.proofs.ListenRuns.{current_is_told_once, loads_come_first, versions_rise}
use Rattle.fs_machine.proofs.TimesOfReadsStay.{times_of_reads_stay}
use Rattle.fs_machine.proofs.laws.machines_are_lawful.Goals as goal

pub returns-clause-kept : goal.returns-clause-kept
returns-clause-kept c = λ config limits start events. all_kept _ events (begins config limits start)

pub returns-clause-grows : goal.returns-clause-grows
returns-clause-grows c = λ m events facts. all_grow m events facts

pub returns-clause-unchanged : goal.returns-clause-unchanged
returns-clause-unchanged c = λ old new t grows within. documents_stay old new t grows within

pub returns-clause-outcomes : goal.returns-clause-outcomes
returns-clause-outcomes c = λ m e id o facts comes some. outcomes_stay m e id o facts comes some

pub returns-clause-results : goal.returns-clause-results
returns-clause-results c = results_stand

pub returns-clause-refusals : goal.returns-clause-refusals
returns-clause-refusals c = refusals_stand

pub returns-clause-prepared : goal.returns-clause-prepared
returns-clause-prepared c = prepared_stands

pub returns-clause-any_order : goal.returns-clause-any_order
returns-clause-any_order c = λ m ids other facts moved. settled_in_any_order m ids other facts moved

pub returns-clause-same_replies : goal.returns-clause-same_replies
returns-clause-same_replies c = λ m ids other facts moved none. same_replies_in_any_order m ids other facts moved none

pub returns-clause-held : goal.returns-clause-held
returns-clause-held c = λ m r. held_by_the_least m r

pub returns-clause-aborted : goal.returns-clause-aborted
returns-clause-aborted c = λ mode p ts t ws. aborted_by_the_least mode p ts t ws

pub returns-clause-told_aborted : goal.returns-clause-told_aborted
returns-clause-told_aborted c = aborts_name_their_cause

pub returns-clause-told_held : goal.returns-clause-told_held
returns-clause-told_held c = waits_name_their_cause

pub returns-clause-not_both : goal.returns-clause-not_both
returns-clause-not_both c = not_both_commit

pub returns-clause-goes_on : goal.returns-clause-goes_on
returns-clause-goes_on c = λ m r is none. read_only_goes_on m r is none

pub returns-clause-commits : goal.returns-clause-commits
returns-clause-commits c = λ m r ws id t is ro. read_only_commits m r ws id t is ro

pub returns-clause-serial : goal.returns-clause-serial
returns-clause-serial c = λ config limits start events. serial_always config limits start events

pub returns-clause-retried : goal.returns-clause-retried
returns-clause-retried c = λ m place r is goes. retried_as_if_it_came m place r is goes

pub returns-clause-reads : goal.returns-clause-reads
returns-clause-reads c = reads_are_true

pub returns-clause-read_times : goal.returns-clause-read_times
returns-clause-read_times c = times_of_reads_stay

pub returns-clause-replies : goal.returns-clause-replies
returns-clause-replies c = λ m events. replies_come_once m events

pub returns-clause-refused : goal.returns-clause-refused
returns-clause-refused c = λ m id u refusal events facts is comes. refused_is_never_seen m id u refusal events facts is comes

pub returns-clause-cuts : goal.returns-clause-cuts
returns-clause-cuts c = cuts_are_consistent c.listening_is_lawful.ensures.cuts

pub returns-clause-times : goal.returns-clause-times
returns-clause-times c = raises_never_fall c.listening_is_lawful.ensures.times

pub returns-clause-served : goal.returns-clause-served
returns-clause-served c = served_are_raised c.listening_is_lawful.ensures.served

pub returns-clause-batches_once : goal.returns-clause-batches_once
returns-clause-batches_once c = λ config limits start events n. batches_once config limits start events n

pub returns-clause-committed_once : goal.returns-clause-committed_once
returns-clause-committed_once c = λ m events n. committed_once m events n

pub returns-clause-repeats : goal.returns-clause-repeats
returns-clause-repeats c = λ config limits start events n. repeats_alike config limits start events n

pub returns-clause-resets : goal.returns-clause-resets
returns-clause-resets c = resets_are_of_lost_loads

pub returns-clause-floor : goal.returns-clause-floor
returns-clause-floor c = floor_stays

pub returns-clause-compacted : goal.returns-clause-compacted
returns-clause-compacted c = resets_follow_compaction

pub returns-clause-raised : goal.returns-clause-raised
returns-clause-raised c = raised_when_ready

pub returns-clause-quiet : goal.returns-clause-quiet
returns-clause-quiet c = quiet_unless_ready

pub returns-clause-others : goal.returns-clause-others
returns-clause-others c = others_stay_quiet

pub returns-clause-goes_further : goal.returns-clause-goes_further
returns-clause-goes_further c = told_goes_on

pub returns-clause-last : goal.returns-clause-last
returns-clause-last c = raises_end

pub returns-clause-each_cut : goal.returns-clause-each_cut
returns-clause-each_cut c = consistent_at_each c.listening_is_lawful.ensures.cuts

pub returns-clause-currents : goal.returns-clause-currents
returns-clause-currents c = current_is_told_once c.listening_is_lawful.ensures.currents

pub returns-clause-positions : goal.returns-clause-positions
returns-clause-positions c = loads_come_first c.listening_is_lawful.ensures.positions

pub returns-clause-versions : goal.returns-clause-versions
returns-clause-versions c = versions_rise c.listening_is_lawful.ensures.versions

pub returns-clause-once_per_token : goal.returns-clause-once_per_token
returns-clause-once_per_token c = λ config limits start events n token. once_per_token config limits start events n token

pub returns-clause-acknowledged : goal.returns-clause-acknowledged
returns-clause-acknowledged c = λ m events more n d time facts done is. acknowledged_is_committed m events more n d time facts done is

pub returns-clause-kept_token : goal.returns-clause-kept_token
returns-clause-kept_token c = λ config limits start events n. kept_token config limits start events n

pub returns-clause-owners_told : goal.returns-clause-owners_told
returns-clause-owners_told c = λ m e n session facts now. owners_are_told m e n session facts now

pub returns-clause-messages : goal.returns-clause-messages
returns-clause-messages c = λ m events session facts. messages_are_taken m events session facts

pub returns-clause-said : goal.returns-clause-said
returns-clause-said c = λ m e session facts. said_is_given m e session facts

pub returns-clause-requests_once : goal.returns-clause-requests_once
returns-clause-requests_once c = λ m events. requests_commit_once m events

pub returns-clause-repeat_told : goal.returns-clause-repeat_told
returns-clause-repeat_told c = λ m session n kept e database token writes owns keeps next is none. repeats_are_told m session n kept e database token writes owns keeps next is none

pub returns-clause-due : goal.returns-clause-due
returns-clause-due c = raised_once_due c.listening_is_lawful.ensures.together c.listening_is_lawful.ensures.ready
