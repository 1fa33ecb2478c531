-- What holds of the runs of a session's own holds of each session over every run of a server.
use Rattle.std.proofs.Common.{sym, ap, ◌∙◌, subst}
use Rattle.std.specs.FinMap.{get}
use Rattle.fs_history.specs.History.{IsRising}
use Rattle.fs_listen.specs.Gathered.{NeverFalls}
use Rattle.fs_listen.specs.Laws.{CurrentsComeOnce, IsCurrentOnce, PositionsFollowLoads, VersionsNeverFall}
use Rattle.fs_listen.specs.Runs.{World}
use Rattle.fs_listen.specs.Versions.{versions_told}
use Rattle.fs_machine.specs.ListenLaws.{CurrentIsToldOnce, LoadsComeFirst, VersionsRise}
use Rattle.fs_machine.specs.State.{started}
use Rattle.fs_machine.proofs.Cuts.{led_in}
use Rattle.fs_machine.proofs.Runs.{all_kept, begins}

pub current_is_told_once : CurrentsComeOnce → CurrentIsToldOnce
current_is_told_once law config limits start events session is =
    let led = led_in config limits start events session is in
    subst IsCurrentOnce led.leads (law config.shards led.history led.released led.floor led.events led.may)

pub loads_come_first : PositionsFollowLoads → LoadsComeFirst
loads_come_first law config limits start events session id l is found =
    let led = led_in config limits start events session is in
    law config.shards led.history led.released led.floor led.events id l (ap (λ (w : World). get w.listening.targets id) led.leads ∙ found)

pub versions_rise : VersionsNeverFall → VersionsRise
versions_rise law config limits start events session name is =
    let led = led_in config limits start events session is in
    let facts = all_kept (started config limits start) events (begins config limits start) in
    subst (λ (w : World). NeverFalls (versions_told name w.said)) led.leads
    (law config.shards led.history led.released led.floor led.events name led.may (subst (λ (w : World). IsRising w.history) (sym led.leads) facts.past.history.rising))
