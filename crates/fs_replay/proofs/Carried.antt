-- A line that was read is carried out.
use Rattle.std.proofs.Common.{◌≡◌, ℕ, List, ◌++◌, subst}
use Rattle.fs_replay.specs.Line.{line_of}
use Rattle.fs_replay.specs.Played.{Plays}
use Rattle.fs_replay.specs.Step.{after_line, line_output, line_played}
use Rattle.fs_replay.specs.declared.request.Line.{Line}
use Rattle.fs_replay.specs.declared.state.State.{State}

pub carried_output : (s t : State) (n : ℕ) (bytes out next : List ℕ) (l : Line) → l ≡ line_of s.server.config.root bytes → Plays (line_played s n l) t out next → next ≡ out ++ line_output s n bytes
unfolding line_output
carried_output s t n bytes out next l is plays = subst (λ k. next ≡ out ++ (line_played s n k).output) is plays.output

pub carried_state : (s t : State) (n : ℕ) (bytes out next : List ℕ) (l : Line) → l ≡ line_of s.server.config.root bytes → Plays (line_played s n l) t out next → t ≡ after_line s n bytes
unfolding after_line
carried_state s t n bytes out next l is plays = subst (λ k. t ≡ (line_played s n k).state) is plays.state
