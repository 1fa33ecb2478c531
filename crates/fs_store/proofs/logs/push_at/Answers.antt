use Rattle.std.proofs.Common.{◌<◌, ◌-◌, ◌++◌, ◌∷◌, [], List, length, get_or, map, sym, ap, ◌∙◌, subst, arith}
use Rattle.std.specs.Prelude.{ℕ}
use Rattle.std.proofs.Math.ListN.{set}
use Rattle.std.proofs.lemmas.List.{get_or-map, length-map, map-set}
use Rattle.fs_store.specs.Logged.{AreBy}
use Rattle.fs_store.specs.declared.log.Log.{Log}
use Rattle.fs_store.specs.declared.noted.Noted.{Noted}
use Rattle.fs_store.proofs.logs.push_at.Goals as goal

entries_of : Log → List Noted
entries_of l = l.entries

room_of : Log → ℕ
room_of l = l.room

pub push-requires-clause-later : goal.push-requires-clause-later
unfolding entries_of
push-requires-clause-later c =
    let logs = c.args.logs.now in
    let i = c.args.i in
    let x = c.index-logs-i.result in
    let a = entries_of (get_or logs i x) in
    let within : i < length (map entries_of logs) = omega (arith, length-map logs entries_of, c.requires.place) in
    subst (λ ns. AreBy ns c.args.noted.time) (get_or-map entries_of logs i x a c.requires.place) (c.requires.later i a within)

pub push-requires-clause-room : goal.push-requires-clause-room
unfolding room_of
push-requires-clause-room c =
    let logs = c.args.logs.now in
    let i = c.args.i in
    let x = c.index-logs-i.result in
    let there = get_or-map room_of logs i x 0 c.requires.place in
    omega (arith, there, c.requires.room)

pub returns-clause-entries : goal.returns-clause-entries
unfolding entries_of
returns-clause-entries c =
    let logs = c.args.logs.now in
    let i = c.args.i in
    let x = c.index-logs-i.result in
    map-set entries_of logs i c.push.new.self
    ∙ ap (λ (l : Log). set (map entries_of logs) i (entries_of l)) c.push.ensures
    ∙ ap (λ ns. set (map entries_of logs) i (ns ++ c.args.noted ∷ [])) (sym (get_or-map entries_of logs i x [] c.requires.place))

pub returns-clause-rooms : goal.returns-clause-rooms
unfolding room_of
returns-clause-rooms c =
    let logs = c.args.logs.now in
    let i = c.args.i in
    let x = c.index-logs-i.result in
    map-set room_of logs i c.push.new.self
    ∙ ap (λ (l : Log). set (map room_of logs) i (room_of l)) c.push.ensures
    ∙ ap (λ n. set (map room_of logs) i (n - 1)) (sym (get_or-map room_of logs i x 0 c.requires.place))
