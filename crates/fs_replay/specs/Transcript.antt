-- What a script writes: each line's output, one after another, and at its end a line for each request that still waits.
use Rattle.std.specs.Prelude.{ℕ, ◌+◌, ◌==◌, Bool, true, false, List, [], ◌∷◌, ◌++◌}
use Rattle.std.specs.List.{slice_split}
use Rattle.fs_machine.specs.Event.{Event}
use Rattle.fs_machine.specs.declared.config.Config.{Config}
use Rattle.fs_machine.specs.declared.limits.Limits.{Limits}
use Rattle.fs_replay.specs.Held.{held_lines}
use Rattle.fs_replay.specs.declared.state.State.{State}
use Rattle.fs_replay.specs.Step.{start, after_line, line_events, line_output}

-- The lines of a script are its parts between newlines. What stands after the last newline is a line too, and an
-- empty line where nothing does.
abbrev pub lines_of : List ℕ → List (List ℕ)
lines_of bytes = slice_split (λ b. b == 10) bytes

-- those that have their newline
abbrev pub all_but_last : List (List ℕ) → List (List ℕ)
all_but_last [] = []
all_but_last (line ∷ []) = []
all_but_last (line ∷ next ∷ lines) = line ∷ all_but_last (next ∷ lines)

-- what lines write from a state on, where the first of them has this number
abbrev pub written : State → ℕ → List (List ℕ) → List ℕ
written state number [] = []
written state number (line ∷ lines) = line_output state number line ++ written (after_line state number line) (number + 1) lines

-- the state after them
abbrev pub after_lines : State → ℕ → List (List ℕ) → State
after_lines state number [] = state
after_lines state number (line ∷ lines) = after_lines (after_line state number line) (number + 1) lines

-- the events of the server that they are, the first of them first
abbrev pub events_of : State → ℕ → List (List ℕ) → List Event
events_of state number [] = []
events_of state number (line ∷ lines) = line_events state number line ++ events_of (after_line state number line) (number + 1) lines

-- what the lines of a text write from a state on: a whole text with its last line, and the requests that still wait then, and one that
-- was cut off without them
abbrev pub played : Bool → State → ℕ → List ℕ → List ℕ
played true state number text = written state number (lines_of text) ++ held_lines (after_lines state number (lines_of text))
played false state number text = written state number (all_but_last (lines_of text))

-- what a whole script writes
abbrev pub transcript : Config → Limits → List ℕ → List ℕ
transcript config limits script = played true (start config limits) 1 script

-- what a script that was cut off writes: the output of the lines that have their newline
abbrev pub begun : Config → Limits → List ℕ → List ℕ
begun config limits script = played false (start config limits) 1 script
