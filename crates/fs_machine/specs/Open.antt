-- A session opens. (The number of sessions is this project's own limit.)
use Rattle.std.specs.Prelude.{◌+◌, ℕ, Bool, false, ◌||◌, [], ◌∷◌, ◌++◌, Result, Ok, Err, length, nat_le, codes, if◌then◌else◌}
use Rattle.fs_status.specs.Refusal.{at_limit}
use Rattle.fs_status.specs.declared.refusal.Refusal.{Refusal}
use Rattle.fs_machine.specs.Limits.{session_numbers}
use Rattle.fs_machine.specs.Listeners.{unlistening}
use Rattle.fs_machine.specs.State.{Machine}

-- as many are open as may be, or there is no number left
abbrev pub is_full : Machine → Bool
is_full m = nat_le m.limits.sessions (length m.sessions) || nat_le session_numbers m.numbers.sessions

-- with one more, behind the others
abbrev pub with_session : Machine → Machine
with_session m = record m {
  sessions = m.sessions ++ record { number = m.numbers.sessions; outbox = []; has_owned = false } ∷ [];
  listeners = m.listeners ++ unlistening m.numbers.sessions ∷ [];
  numbers = record m.numbers { sessions = m.numbers.sessions + 1 };
}

-- its number
abbrev pub open_answer : Machine → Result ℕ Refusal
open_answer m = if is_full m then Err (at_limit (codes "sessions") m.limits.sessions) else Ok m.numbers.sessions

abbrev pub opened : Machine → Machine
opened m = if is_full m then m else with_session m
