-- What is told at the end of the requests that still wait, in the order of arrival: by what each is held then.
--
--     {"held":"1","id":"9","session":"s"}      that of s with the id 9 waits for the commit or the transaction of number 1
--     {"held":"1","stream":"2"}                and a batch of stream 2 does, whose request had no id
use Rattle.std.specs.Prelude.{ℕ, List, [], ◌∷◌, ◌++◌, Option, Some, None, option_map, codes, decimal}
use Rattle.std.specs.Option.{option_map_or}
use Rattle.serde_json.specs.Data.{Data, string, object, Members, no_members, member}
use Rattle.fs_rpc.specs.MessageJson.{with_id}
use Rattle.fs_machine.specs.Retry.{parked_of}
use Rattle.fs_machine.specs.State.{Machine}
use Rattle.fs_machine.specs.declared.parked.Parked.{Parked}
use Rattle.fs_machine.specs.declared.parked_request.ParkedRequest.{ParkedRequest}
use Rattle.fs_replay.specs.Directory.{name_of}
use Rattle.fs_replay.specs.Reply.{json_line}
use Rattle.fs_replay.specs.declared.directory.Named.{Named}
use Rattle.fs_replay.specs.declared.state.State.{State}

-- by the number of what holds it, if something does
abbrev pub with_held : Option ℕ → Members → Members
with_held None ms = ms
with_held (Some id) ms = member (codes "held") (string (decimal id)) ms

-- who asks, as the member that tells it: a stream, where it is a batch of one, and else a session by its name
abbrev pub asker_by : List Named → ℕ → Option ℕ → Option (List ℕ × List ℕ)
asker_by ns session None = option_map (λ name. (codes "session", name)) (name_of session ns)
asker_by ns session (Some n) = Some (codes "stream", decimal n)

abbrev pub asker_of : List Named → ParkedRequest → Option (List ℕ × List ℕ)
asker_of ns r = asker_by ns r.session r.stream

abbrev pub held_json : List ℕ × List ℕ → Parked → Data
held_json asker p = object (with_held p.held (with_id p.id (member asker.0 (string asker.1) no_members)))

abbrev pub held_line : List Named → Machine → ParkedRequest → List ℕ
held_line ns m r = option_map_or (λ asker. json_line (held_json asker (parked_of m r))) (asker_of ns r) []

abbrev pub held_among : List Named → Machine → List ParkedRequest → List ℕ
held_among ns m [] = []
held_among ns m (r ∷ rs) = held_line ns m r ++ held_among ns m rs

abbrev pub held_lines : State → List ℕ
held_lines s = held_among s.directory s.server s.server.parked
