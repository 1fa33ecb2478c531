use Rattle.fs_listen.specs.Runs.{begun}
use Rattle.fs_listen.proofs.Events.{all_keep, begins, one_time}
use Rattle.fs_listen.proofs.Served.{served_raised}
use Rattle.fs_listen.proofs.ViewAnswers.{from_view, ordered_view, to_view, view_of_names}
use Rattle.fs_listen.proofs.Currents.{all_counted, current_once, none_counted}
use Rattle.fs_listen.proofs.LoadTimes.{all_from_loads, none_loaded}
use Rattle.fs_listen.proofs.Ready.{ready_once_due, together_at_the_least}
use Rattle.fs_listen.proofs.Versions.{all_rise, begun_rises}
use Rattle.fs_listen.proofs.laws.listening_is_lawful.Goals as goal

pub returns-clause-cuts : goal.returns-clause-cuts
returns-clause-cuts c = λ shards h released floor es may time ended. one_time _ time (all_keep c.histories_are_lawful.ensures.own_names shards es (begun h released floor) (begins h released floor) may) ended

pub returns-clause-times : goal.returns-clause-times
returns-clause-times c = λ shards h released floor es may. (all_keep c.histories_are_lawful.ensures.own_names shards es (begun h released floor) (begins h released floor) may).falls

pub returns-clause-answers : goal.returns-clause-answers
returns-clause-answers c = λ q docs answer named is d. (from_view q docs named answer is d, to_view q docs named answer is d)

pub returns-clause-ordered : goal.returns-clause-ordered
returns-clause-ordered c = λ q docs answer named is. ordered_view q docs named answer is

pub returns-clause-names : goal.returns-clause-names
returns-clause-names c = view_of_names

pub returns-clause-told : goal.returns-clause-told
returns-clause-told c = λ shards h released floor es may. (all_keep c.histories_are_lawful.ensures.own_names shards es (begun h released floor) (begins h released floor) may).told

pub returns-clause-currents : goal.returns-clause-currents
returns-clause-currents c = λ shards h released floor es may.
    current_once _ (all_keep c.histories_are_lawful.ensures.own_names shards es (begun h released floor) (begins h released floor) may) (all_counted shards es (begun h released floor) (none_counted h released floor) may)

pub returns-clause-positions : goal.returns-clause-positions
returns-clause-positions c = λ shards h released floor es id l found. all_from_loads shards es (begun h released floor) (none_loaded h released floor) id l found

pub returns-clause-versions : goal.returns-clause-versions
returns-clause-versions c = λ shards h released floor es name may rise.
    (all_rise c.histories_are_lawful.ensures.own_names shards name es (begun h released floor) (begins h released floor) may rise (begun_rises name h released floor)).falls

pub returns-clause-served : goal.returns-clause-served
returns-clause-served c = λ shards h released floor es may. served_raised c.histories_are_lawful.ensures.own_names shards h released floor es may

pub returns-clause-together : goal.returns-clause-together
returns-clause-together c = together_at_the_least

pub returns-clause-ready : goal.returns-clause-ready
returns-clause-ready c = ready_once_due
