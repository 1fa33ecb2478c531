-- How often a session was told that a target is current, since the target was last added: as often as CURRENT named it.
--
--     told                     of target 1
--     ADD 1                    0
--     CURRENT 1 and 2 at 4     1
--     NO_CHANGE at 4           1
--     REMOVE 1, then ADD 1     0
use Rattle.std.specs.Prelude.{ℕ, ◌+◌, ◌==◌, List, [], ◌∷◌, if◌then◌else◌}
use Rattle.fs_query.specs.declared.listen.ListenMessage.{ListenMessage}
use Rattle.fs_query.specs.declared.listen.ListenMessage.TheVariants as message
use Rattle.fs_listen.specs.Gathered.{is_in}

-- how often a number is among some
abbrev pub count_in : ℕ → List ℕ → ℕ
count_in id [] = 0
count_in id (k ∷ ids) = (if id == k then 1 else 0) + count_in id ids

-- with one message more
abbrev pub currents_with : ℕ → ListenMessage → ℕ → ℕ
currents_with id (message.Add ids) n = if is_in id ids then 0 else n
currents_with id (message.Current ids time token) n = n + count_in id ids
currents_with id (message.Remove ids cause) n = n
currents_with id (message.Reset ids) n = n
currents_with id (message.NoChange time token) n = n
currents_with id (message.Changed d ids left) n = n
currents_with id (message.Deleted name time left) n = n
currents_with id (message.Removed name time left) n = n

abbrev pub currents_from : ℕ → List ListenMessage → ℕ → ℕ
currents_from id [] n = n
currents_from id (m ∷ ms) n = currents_from id ms (currents_with id m n)

abbrev pub currents_since : ℕ → List ListenMessage → ℕ
currents_since id ms = currents_from id ms 0
