use Rattle.std.proofs.Common.{◌≡◌, ℕ, List, [], ◌++◌, length}
use Rattle.fs_replay.specs.Moved.{Gained}
use Rattle.fs_replay.proofs.output.put.Given as goal

-- the piece is what was given so far, and then the rest
abbrev pub invariant-loop-rest : goal.invariant-loop-rest
invariant-loop-rest g l =
    (so_far : List ℕ) × record {
      piece : l.piece ≡ so_far ++ l.rest;
      gained : Gained (g.K.Sink.given l.fn.sink) (g.K.Sink.given l.sink) so_far;
      faults : g.K.Sink.faults l.sink ≡ g.K.Sink.faults l.fn.sink;
      unasked : l.piece ≡ [] → l.sink ≡ l.fn.sink;
    }

abbrev pub decreases-loop-rest : goal.decreases-loop-rest
decreases-loop-rest g l = length l.rest
