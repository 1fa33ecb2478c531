use Rattle.std.proofs.Common.{◌<◌, [], ◌∷◌, ◌++◌, length, take, sym, ap, ◌∙◌, subst, arith}
use Rattle.std.specs.List.{AllByRecursion}
use Rattle.std.proofs.lemmas.List.{take_all, take_more}
use Rattle.fs_target.specs.Entries.{Rises}
use Rattle.fs_target.specs.Prepared.{IsPrepared}
use Rattle.fs_target.specs.Staged.{IsNamed}
use Rattle.fs_target.specs.declared.event.TimedEvent.{TimedEvent}
use Rattle.fs_target.proofs.Each.{each_at}
use Rattle.fs_target.proofs.feed.prepare_all.Goals as goal

pub loop-event-init : goal.loop-event-init
loop-event-init c = record {
  same = c.forget_all.ensures.same;
  ready = c.forget_all.ensures.none c.args.shard;
}

pub prepare_event-requires-clause-rise : goal.prepare_event-requires-clause-rise
prepare_event-requires-clause-rise c = subst Rises (sym c.loop-event.invariant.same) c.requires.rise

pub prepare_event-requires-clause-named : goal.prepare_event-requires-clause-named
prepare_event-requires-clause-named c =
    let l = c.loop-event in
    subst IsNamed (sym c.event-item.is) (each_at (λ (e : TimedEvent). IsNamed e) c.args.events.now l.event-index c.event-item.result (omega arith) c.requires.named)

pub loop-event-preserved : goal.loop-event-preserved
loop-event-preserved c =
    let l = c.loop-event in
    let events = c.args.events.now in
    let event = c.event-item.result in
    let entries = c.prepare_event.new.entries in
    let within : l.event-index < length events = omega arith in
    record {
      same = c.in_ok-prepare_event.ensures.same ∙ l.invariant.same;
      ready = subst (λ es. AllByRecursion (IsPrepared c.args.shard es) entries)
          (ap (λ e. take l.event-index events ++ e ∷ []) c.event-item.is ∙ sym (take_more events l.event-index event within))
          (c.in_ok-prepare_event.ensures.ok (take l.event-index events) l.invariant.ready);
    }

pub returns-clause-ok : goal.returns-clause-ok
returns-clause-ok c =
    let l = c.loop-event in
    subst (λ es. AllByRecursion (IsPrepared c.args.shard es) l.entries) (take_all l.event-index c.args.events.now c.loop-event-test.false) l.invariant.ready
