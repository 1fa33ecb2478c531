use Rattle.std.proofs.Common.{true, map, ap, ◌∙◌}
use Rattle.fs_listen.specs.Raised.{stands_at, views_of}
use Rattle.fs_listen.specs.Sent.{sent}
use Rattle.fs_target.specs.Laws.{with_deleted}
use Rattle.fs_target.proofs.Changing.{adding_keeps, loading_keeps, none_keep, removing_keeps}
use Rattle.fs_target.proofs.Commits.{whole_named}
use Rattle.fs_target.proofs.Deleted.{sent_with_deleted}
use Rattle.fs_target.proofs.Fed.{feeding_keeps}
use Rattle.fs_target.proofs.Growing.{all_grown}
use Rattle.fs_target.proofs.Raises.{raising_keeps, views_are}
use Rattle.fs_target.proofs.laws.targets_are_lawful.Goals as goal

pub returns-clause-views : goal.returns-clause-views
returns-clause-views c = λ h known time held is.
    let own_names = c.histories_are_lawful.ensures.own_names in
    views_are c.matching_is_lawful.ensures.maps c.answers_are_lawful.ensures.some c.answers_are_lawful.ensures.fit c.matching_is_lawful.ensures.by_name own_names
    (whole_named own_names c.histories_are_lawful.ensures.at_whole) h known time held is

pub returns-clause-told : goal.returns-clause-told
returns-clause-told c = λ h known time held is.
    let own_names = c.histories_are_lawful.ensures.own_names in
    let views = views_are c.matching_is_lawful.ensures.maps c.answers_are_lawful.ensures.some c.answers_are_lawful.ensures.fit c.matching_is_lawful.ensures.by_name own_names
    (whole_named own_names c.histories_are_lawful.ensures.at_whole) h known time held is in
    ap (λ vs. map (with_deleted (stands_at h time)) (sent (λ _. true) time held.listening vs)) views
    ∙ sent_with_deleted (stands_at h time) time held.listening (views_of h time held.listening)

pub returns-clause-none : goal.returns-clause-none
returns-clause-none c = none_keep

pub returns-clause-raising : goal.returns-clause-raising
returns-clause-raising c = λ h known time held is.
    let own_names = c.histories_are_lawful.ensures.own_names in
    raising_keeps c.matching_is_lawful.ensures.maps c.answers_are_lawful.ensures.some c.answers_are_lawful.ensures.fit c.matching_is_lawful.ensures.by_name own_names
    (whole_named own_names c.histories_are_lawful.ensures.at_whole) h known time held is

pub returns-clause-growth : goal.returns-clause-growth
returns-clause-growth c = λ h k commits known later held keeps brings rising above order.
    all_grown c.histories_are_lawful.ensures.later h k commits known later brings above order held keeps rising

pub returns-clause-adding : goal.returns-clause-adding
returns-clause-adding c = λ h known held id t token keeps by. adding_keeps h known held keeps id t token by

pub returns-clause-removing : goal.returns-clause-removing
returns-clause-removing c = λ h known held id keeps. removing_keeps h known held keeps id

pub returns-clause-loading : goal.returns-clause-loading
returns-clause-loading c = λ h known held id l sent reset docs time keeps there unloaded by is_sent are_docs.
    loading_keeps h known held keeps id l sent reset docs time by is_sent are_docs there

pub returns-clause-feeding : goal.returns-clause-feeding
returns-clause-feeding c = feeding_keeps
