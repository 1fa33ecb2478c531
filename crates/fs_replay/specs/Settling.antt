-- What goes on by itself after each line, unless the script settles by hand: turns are made until one does nothing. In a turn the
-- earliest pending commit is settled, and then each request that waits is tried once, in the order of arrival.
--
--     1 writes c/a and 2 writes c/b, both pending; two more commits of c/a wait
--     turn 1    1 is settled: it is released. The first that waits goes on as 3, the second waits for it
--     turn 2    2 is settled, and the second waits on
--     turn 3    3 is settled, and the second goes on as 4
--     turn 4    4 is settled
--     turn 5    nothing
--
-- What an open transaction keeps waiting waits on.
--
--     1 is open, and has read c/a; a commit of c/a waits      nothing, on each line, until 1 ends
--     1 is rolled back
--     turn 1    the one that waits goes on as 2
--     turn 2    2 is settled
--     turn 3    nothing
--
-- Then each target that isn't loaded is loaded, the sessions in the order of opening, each shard is matched up to what is released, and each
-- session is raised. So each session is told what the line changed of its targets, and there is nothing left to do.
use Rattle.std.specs.Prelude.{ℕ, ◌+◌, ◌*◌, Bool, true, false, nat_lt, not, suc, zero, List, [], ◌∷◌, length, map, Option, Some, None, slice_get, if◌then◌else◌}
use Rattle.std.specs.FinMap.{entries}
use Rattle.std.specs.List.{count_by}
use Rattle.std.specs.Option.{option_map_or}
use Rattle.fs_listen.specs.Cuts.{first_loading, is_loaded}
use Rattle.fs_listen.specs.Listening.{Listened}
use Rattle.fs_machine.specs.Event.{Event}
use Rattle.fs_machine.specs.Listen.{listening_of}
use Rattle.fs_machine.specs.Outbox.{outbox_of}
use Rattle.fs_machine.specs.Past.{is_pending}
use Rattle.fs_machine.specs.Pending.{next_pending}
use Rattle.fs_machine.specs.Retry.{retry_answer, tried_answer}
use Rattle.fs_machine.specs.State.{Machine}
use Rattle.fs_machine.specs.declared.answer.Answer.{Answer}
use Rattle.fs_machine.specs.declared.answer.Answer.TheVariants.{Reply, Prepared, Held, InProgress, Refused}
use Rattle.fs_machine.specs.declared.parked_request.ParkedRequest.{ParkedRequest}
use Rattle.fs_replay.specs.Directory.{name_of}
use Rattle.fs_replay.specs.Outboxes.{drained, drain_output, message_lines, reply_output}
use Rattle.fs_replay.specs.Played.{Played, followed_by, happens, nothing}
use Rattle.fs_replay.specs.declared.directory.Named.{Named}
use Rattle.fs_replay.specs.declared.state.State.{State}

-- the outboxes are emptied
abbrev pub emptied : State → Played
emptied s = record {
  state = record s { server = drained s.directory s.server };
  output = drain_output s.directory s.server;
  events = map (λ n. Event.taking n.number) s.directory;
}

-- ---- commits

-- a commit is settled
abbrev pub settles : State → ℕ → Played
settles s id = followed_by (followed_by (happens s (Event.deciding id) []) (λ t. happens t Event.releasing [])) emptied

abbrev pub settles_if : State → Option ℕ → Played
settles_if s None = nothing s
settles_if s (Some id) = settles s id

-- the earliest that is pending
abbrev pub settles_next : State → Played
settles_next s = settles_if s (next_pending s.server.past)

-- ---- requests that wait

-- what a request is told that was tried again: what a read answers, or why it is refused. A commit is answered as it is released, and of a batch
-- the owner of its stream is told, by the outbox
abbrev pub told_in : List Named → ParkedRequest → Answer → Option ℕ → List ℕ
told_in ns r answer None = option_map_or (λ name. reply_output name r.envelope.id answer) (name_of r.session ns) []
told_in ns r answer (Some stream) = []

abbrev pub retry_output : List Named → ParkedRequest → Answer → List ℕ
retry_output ns r answer = told_in ns r answer r.stream

abbrev pub tries_it : State → ℕ → ParkedRequest → Played
tries_it s place r =
    followed_by (happens s (Event.retrying place) (retry_output s.directory r (tried_answer s.server r))) emptied

abbrev pub tries_if : State → ℕ → Option ParkedRequest → Played
tries_if s place None = nothing s
tries_if s place (Some r) = tries_it s place r

-- the one at a place is tried again
abbrev pub tries : State → ℕ → Played
tries s place = tries_if s place (slice_get s.server.parked place)

abbrev pub waits_on : Option Answer → Bool
waits_on None = false
waits_on (Some (Reply message)) = false
waits_on (Some (Prepared id time)) = false
waits_on (Some (Held id)) = true
waits_on (Some (InProgress finished)) = false
waits_on (Some (Refused refusal)) = false

-- where the next one stands then: one that waits on stays where it is, and any other is taken out
abbrev pub place_after : Machine → ℕ → ℕ
place_after m place = if waits_on (retry_answer m place) then place + 1 else place

-- so many of them, from a place on
abbrev pub tries_from : ℕ → ℕ → State → Played
tries_from zero place s = nothing s
tries_from (suc n) place s = followed_by (tries s place) (tries_from n (place_after s.server place))

-- each once
abbrev pub tries_all : State → Played
tries_all s = tries_from (length s.server.parked) 0 s

-- ---- turns

abbrev pub turn : State → Played
turn s = followed_by (settles_next s) tries_all

-- twice the requests that wait, and the pending commits: what a turn does makes it less
abbrev pub left_to_do : Machine → ℕ
left_to_do m = 2 * length m.parked + count_by is_pending m.past.unreleased

abbrev pub did_something : State → State → Bool
did_something before after = nat_lt (left_to_do after.server) (left_to_do before.server)

-- so many turns at most
abbrev pub turns : ℕ → State → Played
turns zero s = nothing s
turns (suc n) s = followed_by (turn s) (λ t. if did_something s t then turns n t else nothing t)

-- until one does nothing
abbrev pub settling : State → Played
settling s = turns (left_to_do s.server) s

-- ---- targets

-- a session's messages are taken, where no other has any
abbrev pub tells : Named → State → Played
tells n s = happens s (Event.taking n.number) (message_lines n.name (outbox_of s.server n.number))

-- a target of a session is loaded, at what is released
abbrev pub loads_one : Named → ℕ → State → Played
loads_one n id s = followed_by (happens s (Event.loading n.number id None) []) (tells n)

-- how many of a session's aren't
abbrev pub unloaded_count : Machine → ℕ → ℕ
unloaded_count m number = count_by (λ (e : ℕ × Listened). not (is_loaded e.1.loaded)) (entries (listening_of m number).targets)

-- the first of them, and then others
abbrev pub loads_next : Named → State → (State → Played) → Option ℕ → Played
loads_next n s others None = nothing s
loads_next n s others (Some id) = followed_by (loads_one n id s) others

-- so many of them, by their ids
abbrev pub loads_from : ℕ → Named → State → Played
loads_from zero n s = nothing s
loads_from (suc k) n s = loads_next n s (loads_from k n) (first_loading (entries (listening_of s.server n.number).targets))

abbrev pub loads_of : Named → State → Played
loads_of n s = loads_from (unloaded_count s.server n.number) n s

-- those of each session
abbrev pub loads_each : List Named → State → Played
loads_each [] s = nothing s
loads_each (n ∷ ns) s = followed_by (loads_of n s) (loads_each ns)

-- so many shards are matched up to what is released, from one on
abbrev pub matches_from : ℕ → ℕ → State → Played
matches_from zero shard s = nothing s
matches_from (suc k) shard s = followed_by (happens s (Event.matching shard s.server.past.released) []) (matches_from k (shard + 1))

abbrev pub matches_all : State → Played
matches_all s = matches_from s.server.config.shards 0 s

abbrev pub raises_each : List Named → State → Played
raises_each [] s = nothing s
raises_each (n ∷ ns) s = followed_by (followed_by (happens s (Event.raising n.number) []) (tells n)) (raises_each ns)

-- all of it
abbrev pub serves : State → Played
serves s = followed_by (followed_by (loads_each s.directory s) matches_all) (λ t. raises_each t.directory t)

-- ---- after each line

abbrev pub unless_by_hand : State → Played
unless_by_hand s = if s.manual then nothing s else followed_by (settling s) serves

abbrev pub closed : State → Played
closed s = followed_by (emptied s) unless_by_hand
