use Rattle.std.proofs.Common.{◌<◌, [], ◌∷◌, length, take, get_or, sym, ap, ◌∙◌, arith, Bor}
use Rattle.std.specs.FinMap.{empty}
use Rattle.std.specs.Prelude.{int_le}
use Rattle.std.proofs.lemmas.List.{take_all, take_more}
use Rattle.std.proofs.lemmas.List.Elements.{filter-append}
use Rattle.fs_target.specs.Latest.{latest_of, with_latest}
use Rattle.fs_target.specs.Staged.{up_to}
use Rattle.fs_target.specs.declared.event.TimedEvent.{TimedEvent}
use Rattle.fs_target.proofs.GoneOver.{with_latest-append}
use Rattle.fs_target.proofs.Lent.{seen}
use Rattle.fs_target.proofs.latest.Latest.of.Goals as goal

pub loop-event-init : goal.loop-event-init
loop-event-init c = ap (seen (λ (b : Bor TimedEvent). b.now)) c.new-events.ensures.empty

pub loop-event-preserved : goal.loop-event-preserved
loop-event-preserved c =
    let l = c.loop-event in
    let staged = c.args.staged.now in
    let event = c.event-item.result in
    let here = get_or staged l.event-index event in
    let within : l.event-index < length staged = omega arith in
    c.in_ok-note.ensures
    ∙ ap (λ (e : TimedEvent). with_latest (up_to c.args.time (e ∷ [])) (seen (λ (b : Bor TimedEvent). b.now) l.events.entries)) c.event-item.is
    ∙ ap (with_latest (up_to c.args.time (here ∷ []))) l.invariant
    ∙ sym (with_latest-append (up_to c.args.time (take l.event-index staged)) (up_to c.args.time (here ∷ [])) empty)
    ∙ ap latest_of (sym (filter-append (λ (e : TimedEvent). int_le e.time c.args.time) (take l.event-index staged) (here ∷ [])))
    ∙ ap (λ es. latest_of (up_to c.args.time es)) (sym (take_more staged l.event-index event within))

pub returns : goal.returns
returns c =
    let l = c.loop-event in
    l.invariant ∙ ap (λ es. latest_of (up_to c.args.time es)) (take_all l.event-index c.args.staged.now c.loop-event-test.false)
