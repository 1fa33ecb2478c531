-- What holds of all scripts.
use Rattle.std.proofs.Common.{◌≡◌, inl, inr, ℕ, ◌+◌, ◌<◌, Bool, true, false, cond, eqb, List, [], ◌∷◌, ◌++◌, length, Option, Some, None, pos, ◌+ℤ◌, refl, sym, ap, ◌∙◌, subst, arith}
use Rattle.std.specs.Prelude.{codes, nat_le}
use Rattle.std.proofs.lemmas.Bool.{or_parts}
use Rattle.std.proofs.lemmas.Bool.Decides.{nat_tests}
use Rattle.std.proofs.lemmas.List.Splits.{length-slice_split}
use Rattle.std.specs.FinMap.{get}
use Rattle.std.specs.List.{onto_first}
use Rattle.fs_path.specs.declared.name.DocName.{DocName}
use Rattle.fs_request.specs.declared.message.Message.{Message}
use Rattle.fs_request.specs.declared.message.Message.TheVariants as message
use Rattle.fs_request.specs.declared.request.Request.TheVariants.{GetDocument}
use Rattle.fs_request.specs.declared.when.When.TheVariants.{Released}
use Rattle.fs_value.specs.declared.document.Document.{Document}
use Rattle.fs_write.specs.WrittenName.{is_written}
use Rattle.fs_history.specs.History.{at, whole}
use Rattle.fs_history.specs.Serial.{IsSerial}
use Rattle.fs_history.proofs.Serial.{serial_is}
use Rattle.fs_machine.specs.Grows.{Grows}
use Rattle.fs_machine.specs.Laws.{AlwaysGrows, AlwaysKept}
use Rattle.fs_machine.specs.Limits.{AreAllowed}
use Rattle.fs_machine.specs.Read.{document_answer}
use Rattle.fs_machine.specs.Refusing.{outbox_refusal, passed}
use Rattle.fs_machine.specs.Request.{answered, answered_unless, arrived}
use Rattle.fs_machine.specs.declared.answer.Answer.TheVariants.{Reply}
use Rattle.fs_machine.specs.declared.config.Config.{Config}
use Rattle.fs_machine.specs.declared.limits.Limits.{Limits}
use Rattle.fs_machine.proofs.Grows.{grows_on, grows_same}
use Rattle.fs_replay.specs.Held.{held_lines}
use Rattle.fs_replay.specs.BetweenLines.{IsBetweenLines}
use Rattle.fs_replay.specs.Commits.{asked_writes, is_commit, is_written_in, may_move, will_be_written}
use Rattle.fs_replay.specs.Lines.{IsOneLine, is_answered, is_silent, keeps_waiting, line_in_state, may_let_on, nobody_listens}
use Rattle.fs_replay.specs.Step.{after_line, line_output, start}
use Rattle.fs_replay.specs.Transcript.{after_lines, lines_of, transcript, written}
use Rattle.fs_replay.specs.declared.state.State.{State}
use Rattle.fs_replay.proofs.Ended.{line_between}
use Rattle.fs_replay.proofs.Following.{answered_once, rises, silent, unmoved}
use Rattle.fs_replay.proofs.Growing.{line_grows}
use Rattle.fs_replay.proofs.Quiet.{nobody_served}
use Rattle.fs_replay.proofs.Staying.{nobody_waits}
use Rattle.fs_replay.proofs.Untouched.{Untouched, Unwritten, line_leaves, untouched}
use Rattle.fs_replay.proofs.Waiting.{nothing_in}

-- ---- the start

pub starts_between : AlwaysKept → (config : Config) (limits : Limits) → AreAllowed limits → IsBetweenLines (start config limits)
starts_between kept config limits allowed = record {
  settled = λ _. record { released = refl; held = tt };
  served = λ _. nobody_served (start config limits).server refl;
  released = refl;
  empty = tt;
  known = refl;
  waiting = tt;
  facts = kept config limits (start config limits).moment [];
  limits = allowed;
}

-- ---- lines

pub nobody_keeps : (s : State) → IsBetweenLines s → s.manual ≡ false → keeps_waiting s.server ≡ false → s.server.parked ≡ []
nobody_keeps s between manual none = nobody_waits s.server (between.settled manual) none

pub stays_between : (s : State) (n : ℕ) (bytes : List ℕ) → IsBetweenLines s → IsBetweenLines (after_line s n bytes)
unfolding after_line
stays_between s n bytes between = line_between s n (line_in_state s bytes) between

grows_once : AlwaysGrows → (s : State) (n : ℕ) (bytes : List ℕ) → IsBetweenLines s → Grows s.server.past (after_line s n bytes).server.past
unfolding after_line
grows_once grow s n bytes between = line_grows grow s n (line_in_state s bytes) between.facts

pub lines_grow : AlwaysGrows → (s : State) (n : ℕ) (lines : List (List ℕ)) → IsBetweenLines s → Grows s.server.past (after_lines s n lines).server.past
lines_grow grow s n [] between = grows_same _ _ refl refl
lines_grow grow s n (bytes ∷ lines) between =
    let next = after_line s n bytes in
    grows_on s.server.past next.server.past (after_lines next (n + 1) lines).server.past (grows_once grow s n bytes between) (lines_grow grow next (n + 1) lines (stays_between s n bytes between))

pub all_between : (s : State) (n : ℕ) (lines : List (List ℕ)) → IsBetweenLines s → IsBetweenLines (after_lines s n lines)
all_between s n [] between = between
all_between s n (bytes ∷ lines) between = all_between (after_line s n bytes) (n + 1) lines (stays_between s n bytes between)

pub lines_serial : (s : State) (n : ℕ) (lines : List (List ℕ)) → IsBetweenLines s → IsSerial (after_lines s n lines).server.past.history
lines_serial s n lines between =
    let past = (all_between s n lines between).facts.past in
    serial_is (after_lines s n lines).server.past.history past.history.rising past.reads.serial

pub past_unmoved : (s : State) (n : ℕ) (bytes : List ℕ) → IsBetweenLines s → may_move s (line_in_state s bytes) ≡ false → (after_line s n bytes).server.past ≡ s.server.past
unfolding after_line
past_unmoved s n bytes between is = unmoved s n (line_in_state s bytes) is between

pub times_rise : (s : State) (n : ℕ) (bytes : List ℕ) → IsBetweenLines s → is_commit s (line_in_state s bytes) ≡ true → may_let_on s (line_in_state s bytes) ≡ false → (after_line s n bytes).server.past.last ≡ (s.server.past.last +ℤ pos 1)
unfolding after_line
times_rise s n bytes between is lets = rises s n (line_in_state s bytes) is lets between

leaves_once : Unwritten → (name : DocName) (found : Option Document) (s : State) (n : ℕ) (bytes : List ℕ) → is_written name (asked_writes (line_in_state s bytes)) ≡ false → Untouched name found s.server
    → Untouched name found (after_line s n bytes).server
unfolding after_line
leaves_once unwritten name found s n bytes leaves is = line_leaves unwritten name found s n (line_in_state s bytes) leaves is

all_leave : Unwritten → (name : DocName) (found : Option Document) (s : State) (n : ℕ) (lines : List (List ℕ)) → is_written_in name s n lines ≡ false → Untouched name found s.server
    → Untouched name found (after_lines s n lines).server
all_leave unwritten name found s n [] e is = is
all_leave unwritten name found s n (bytes ∷ lines) e is =
    let next = after_line s n bytes in
    let both = or_parts (is_written name (asked_writes (line_in_state s bytes))) (is_written_in name next (n + 1) lines) e in
    all_leave unwritten name found next (n + 1) lines both.1 (leaves_once unwritten name found s n bytes both.0 is)

pub lines_keep : Unwritten → (s : State) (n : ℕ) (lines : List (List ℕ)) (name : DocName) → IsBetweenLines s → will_be_written name s.server ≡ false → is_written_in name s n lines ≡ false
    → get (whole (after_lines s n lines).server.past.history) name ≡ get (whole s.server.past.history) name
lines_keep unwritten s n lines name between will e = (all_leave unwritten name (get (whole s.server.past.history) name) s n lines e (untouched name s.server will)).stays

pub one_line : (s : State) (n : ℕ) (bytes : List ℕ) → IsBetweenLines s → s.manual ≡ false → keeps_waiting s.server ≡ false → nobody_listens (after_line s n bytes).server ≡ true
    → is_answered (line_in_state s bytes) ≡ true → IsOneLine (line_output s n bytes)
unfolding line_output after_line
one_line s n bytes between manual keeps nobody is = answered_once s n (line_in_state s bytes) is manual (nobody_keeps s between manual keeps) nobody (inl keeps) between

pub one_line_where_none_waits : (s : State) (n : ℕ) (bytes : List ℕ) → IsBetweenLines s → s.manual ≡ false → s.server.parked ≡ [] → (after_line s n bytes).server.parked ≡ [] → nobody_listens (after_line s n bytes).server ≡ true
    → is_answered (line_in_state s bytes) ≡ true → IsOneLine (line_output s n bytes)
unfolding line_output after_line
one_line_where_none_waits s n bytes between manual none after nobody is = answered_once s n (line_in_state s bytes) is manual none nobody (inr after) between

pub no_line : (s : State) (n : ℕ) (bytes : List ℕ) → IsBetweenLines s → is_silent s (line_in_state s bytes) ≡ true → line_output s n bytes ≡ []
unfolding line_output
no_line s n bytes between is = silent s n (line_in_state s bytes) is between

-- ---- what a read answers

none_full : (limit : ℕ) → 0 < limit → nat_le limit 0 ≡ false
none_full limit some = grind (arith, nat_tests)

has_room : (s : State) (session : ℕ) → IsBetweenLines s → 0 < s.server.limits.outbox → outbox_refusal s.server session None ≡ None
has_room s session b some =
    let limit = s.server.limits.outbox in
    ap (λ (ms : List Message). passed (nat_le limit (length ms)) (codes "outbox") limit None) (nothing_in s.server.sessions session b.empty)
    ∙ ap (λ full. passed full (codes "outbox") limit None) (none_full limit some)

pub shows_what_stands : (s : State) (session : ℕ) (id : Option (List ℕ)) (name : DocName) (d : Document) → IsBetweenLines s → 0 < s.server.limits.outbox
    → get (at s.server.past.history s.server.past.released) name ≡ Some d → answered s.server session (record { id = id; request = GetDocument name None Released }) ≡ Reply (message.GetDocument id d)
shows_what_stands s session id name d b some there =
    let r = arrived s.server session (record { id = id; request = GetDocument name None Released }) in
    ap (λ refusal. answered_unless refusal s.server r) (has_room s session b some) ∙ ap (document_answer id s.server.past.released None) there

-- ---- a last newline

one_more : (x : ℕ) (b : Bool) (ls more : List (List ℕ)) → 0 < length ls → more ≡ ls ++ [] ∷ [] → cond b ([] ∷ more) (onto_first x more) ≡ cond b ([] ∷ ls) (onto_first x ls) ++ [] ∷ []
one_more x true ls more some e = ap (λ l. [] ∷ l) e
one_more x false [] more some e = absurd (omega (arith, some))
one_more x false (l ∷ ls) more some e = ap (onto_first x) e

lines_more : (text : List ℕ) → lines_of (text ++ 10 ∷ []) ≡ lines_of text ++ [] ∷ []
lines_more [] = refl
lines_more (x ∷ xs) = one_more x (eqb x 10) (lines_of xs) (lines_of (xs ++ 10 ∷ [])) (omega (arith, length-slice_split (λ b. eqb b 10) xs)) (lines_more xs)

nothing_written : (s : State) (n : ℕ) → line_output s n [] ≡ []
unfolding line_output
nothing_written s n = refl

nothing_done : (s : State) (n : ℕ) → after_line s n [] ≡ s
unfolding after_line
nothing_done s n = refl

written_more : (s : State) (n : ℕ) (lines : List (List ℕ)) → written s n (lines ++ [] ∷ []) ≡ written s n lines
written_more s n [] = ap (λ t. t ++ []) (nothing_written s n)
written_more s n (bytes ∷ lines) = ap (λ t. line_output s n bytes ++ t) (written_more (after_line s n bytes) (n + 1) lines)

after_more : (s : State) (n : ℕ) (lines : List (List ℕ)) → after_lines s n (lines ++ [] ∷ []) ≡ after_lines s n lines
after_more s n [] = nothing_done s n
after_more s n (bytes ∷ lines) = after_more (after_line s n bytes) (n + 1) lines

pub last_newline : (config : Config) (limits : Limits) (script : List ℕ) → transcript config limits (script ++ 10 ∷ []) ≡ transcript config limits script
last_newline config limits script =
    let s = start config limits in
    ap (λ lines. written s 1 lines ++ held_lines (after_lines s 1 lines)) (lines_more script)
    ∙ (λ i. written_more s 1 (lines_of script) i ++ held_lines (after_more s 1 (lines_of script) i))
