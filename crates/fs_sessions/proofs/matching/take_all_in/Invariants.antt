use Rattle.std.proofs.Common.{List}
use Rattle.std.specs.List.{AllByRecursion}
use Rattle.fs_target.specs.declared.event.TimedEvent.{TimedEvent}
use Rattle.fs_sessions.specs.Heard.{heard_fed, heard_of}
use Rattle.fs_sessions.specs.Matching.{IsEarReady}
use Rattle.fs_sessions.specs.declared.listeners.Ear.{Ear}
use Rattle.fs_sessions.proofs.InPlace.{Changed}
use Rattle.fs_sessions.proofs.matching.take_all_in.Given as goal

-- those so far have taken theirs in
abbrev pub invariant-loop-i : goal.invariant-loop-i
invariant-loop-i l = (es : List TimedEvent) → AllByRecursion (IsEarReady l.shard es) l.initial.ears → Changed heard_of (λ (e : Ear). heard_fed l.shard es l.to (heard_of e)) l.initial.ears l.ears l.i
