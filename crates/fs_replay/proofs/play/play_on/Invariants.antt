use Rattle.std.proofs.Common.{◌≡◌, ℕ, ◌+◌, ◌≤◌, List, [], ◌++◌, length}
use Rattle.fs_replay.specs.Moved.{Gained}
use Rattle.fs_replay.specs.Transcript.{played}
use Rattle.fs_replay.proofs.play.play_on.Given as goal

-- what was given, what is to be given and what the rest writes are what the script writes
abbrev pub invariant-lines : goal.invariant-lines
invariant-lines g l =
    (given : List ℕ) × record {
      gained : Gained (g.K.Sink.given l.fn.sink) (g.K.Sink.given l.sink) given;
      told : given ++ (l.out.items ++ played l.whole l.state l.number l.rest) ≡ played l.whole l.initial.state 1 l.script;
      count : l.number + length l.rest ≤ length l.script + 1;
      faults : g.K.Sink.faults l.sink ≡ g.K.Sink.faults l.fn.sink;
      unasked : played l.whole l.initial.state 1 l.script ≡ [] → l.sink ≡ l.fn.sink;
    }

abbrev pub decreases-lines : goal.decreases-lines
decreases-lines g l = length l.rest
