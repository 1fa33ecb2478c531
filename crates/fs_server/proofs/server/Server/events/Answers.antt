use Rattle.std.proofs.Common.{◌≡◌, ℤ, ◌≤ℤ◌, false, Some, None, sym, ap, ◌∙◌, subst, arith}
use Rattle.fs_target.specs.declared.event.TimedEvent.{TimedEvent}
use Rattle.std.specs.List.{AllByRecursion, flat_map}
use Rattle.std.specs.Option.{IfSome}
use Rattle.std.specs.Ordering.{int_cmp, is_lt}
use Rattle.std.proofs.lemmas.Int.{ints}
use Rattle.fs_history.specs.Brings.{AreChangesIn}
use Rattle.fs_path.specs.Scope.{in_shard}
use Rattle.fs_machine.specs.State.{Machine}
use Rattle.fs_server.specs.Events.{AreEvents, IsOwed}
use Rattle.fs_sessions.specs.Heard.{listeners_of}
use Rattle.fs_sessions.specs.Matched.{ear_events, least_in}
use Rattle.fs_server.proofs.EventsNamed.{IsEvent, all_named, all_until, are_events, changes_told}
use Rattle.fs_server.proofs.EventsOwed.{all_owed}
use Rattle.fs_server.proofs.EventsTold.{are_none, are_told}
use Rattle.fs_server.proofs.Positions.{least_readable}
use Rattle.fs_server.proofs.server.Server.events.Goals as goal
use Rattle.fs_server.proofs.server.Server.events.Goals.{in_default-via-in-Some+else-lt, in_default-via-in_default}

not_before : (a b : ℤ) → false ≡ is_lt (int_cmp a b) → b ≤ℤ a
not_before a b is = grind (arith, ints)

pub changes-requires-clause-from : goal.changes-requires-clause-from
changes-requires-clause-from c =
    let s = c.self.inside in
    subst (λ o. IfSome o (λ t. s.past.floor ≤ℤ t)) (sym c.in-Some.ensures) (least_readable s.past c.args.shard s.listeners c.self.invariant.listened.times)

pub returns-in_ok-events-in-Some-clause-events : goal.returns-in_ok-events-in-Some-clause-events
returns-in_ok-events-in-Some-clause-events c =
    let s = c.self.inside in
    let shard = c.args.shard in
    let from = c.in-Some.from in
    let commits = c.in_ok-commits-in-Some.commits in
    let es = c.in_ok-events-in-Some.field-0 in
    let is : es ≡ flat_map (ear_events shard commits) s.listeners = c.in_ok-events-in-Some.ensures ∙ ap (λ cs. flat_map (ear_events shard cs) s.listeners) c.as_slice.ensures in
    let changed = subst (λ n. AreChangesIn s.past.history (in_shard n shard) from s.past.released commits) c.self.invariant.shards c.in_ok-commits-in-Some.ensures in
    let listened = c.self.invariant.listened in
    subst (λ (k : Machine). AreEvents k shard k.past.released es) c.self.view_is
    (are_told s.past.history s.config.shards shard from s.past.released commits changed es s.numbers.targets s.listeners is (sym c.in-Some.ensures) listened.differ listened.numbers)

pub returns-in_ok-events-in-Some-clause-owed : goal.returns-in_ok-events-in-Some-clause-owed
returns-in_ok-events-in-Some-clause-owed c =
    let s = c.self.inside in
    let shard = c.args.shard in
    let commits = c.in_ok-commits-in-Some.commits in
    let es = c.in_ok-events-in-Some.field-0 in
    let is : es ≡ flat_map (ear_events shard commits) s.listeners = c.in_ok-events-in-Some.ensures ∙ ap (λ cs. flat_map (ear_events shard cs) s.listeners) c.as_slice.ensures in
    subst (λ (k : Machine). AllByRecursion (IsOwed shard k.listeners) es) c.self.view_is
    (subst (AllByRecursion (IsOwed shard (listeners_of s.listeners))) (sym is) (all_owed shard commits s.listeners))

pub returns-in_ok-events-in-Some-clause-named : goal.returns-in_ok-events-in-Some-clause-named
returns-in_ok-events-in-Some-clause-named c =
    let s = c.self.inside in
    let shard = c.args.shard in
    let to = s.past.released in
    let commits = c.in_ok-commits-in-Some.commits in
    let es = c.in_ok-events-in-Some.field-0 in
    let is : es ≡ flat_map (ear_events shard commits) s.listeners = c.in_ok-events-in-Some.ensures ∙ ap (λ cs. flat_map (ear_events shard cs) s.listeners) c.as_slice.ensures in
    let told = changes_told s.past.history (in_shard s.past.shards shard) c.in-Some.from to commits c.in_ok-commits-in-Some.ensures in
    all_named to es (subst (AllByRecursion (IsEvent to)) (sym is) (are_events to shard commits told s.listeners))

pub returns-in_ok-events-in-Some-clause-until : goal.returns-in_ok-events-in-Some-clause-until
returns-in_ok-events-in-Some-clause-until c =
    let s = c.self.inside in
    let shard = c.args.shard in
    let to = s.past.released in
    let commits = c.in_ok-commits-in-Some.commits in
    let es = c.in_ok-events-in-Some.field-0 in
    let is : es ≡ flat_map (ear_events shard commits) s.listeners = c.in_ok-events-in-Some.ensures ∙ ap (λ cs. flat_map (ear_events shard cs) s.listeners) c.as_slice.ensures in
    let told = changes_told s.past.history (in_shard s.past.shards shard) c.in-Some.from to commits c.in_ok-commits-in-Some.ensures in
    subst (λ (k : Machine). AllByRecursion (λ (x : TimedEvent). x.time ≤ℤ k.past.released) es) c.self.view_is
    (all_until to es (subst (AllByRecursion (IsEvent to)) (sym is) (are_events to shard commits told s.listeners)))

pub returns-in_default-clause-events : goal.returns-in_default-clause-events
returns-in_default-clause-events c =
    let s = c.self.inside in
    let shard = c.args.shard in
    let to = s.past.released in
    let late : (k : ℤ) → least_in shard s.listeners ≡ Some k → to ≤ℤ k =
    λ k is. elim c.in_default.branch [
      | in_default-via-in-Some+else-lt w ↦
          let one : Some w.in-Some.from ≡ Some k = w.in-Some.ensures ∙ is in
          let same : w.in-Some.from ≡ k = cc in
          let low = not_before w.in-Some.from c.released-to.result w.if-lt.ensures in
          subst (λ t. t ≤ℤ k) c.released-to.ensures.value (subst (λ t. c.released-to.result ≤ℤ t) same low)
      | in_default-via-in_default w ↦
          let both : None ≡ Some k = w.in_default.ensures ∙ is in
          absurd (cc)
    ]
    in
    subst (λ (k : Machine). AreEvents k shard k.past.released c.new.result) c.self.view_is
    (are_none s.past.history s.config.shards shard to c.new.result s.listeners late)
