-- The lines of a script: what each is read as.
use Rattle.std.specs.Prelude.{ℕ, Bool, ◌&&◌, List, [], ◌∷◌, length, Option, Some, None, Result, Ok, Err, codes, is_some, nat_lt, if◌then◌else◌}
use Rattle.std.specs.Cmp.Lexicographic.{slice_cmp}
use Rattle.std.specs.List.{list_any}
use Rattle.std.specs.Ordering.{nat_cmp, match_ordering}
use Rattle.std.specs.Str.{is_utf8}
use Rattle.serde_json.specs.Data.{Data, null, boolean, number, string, array, object, Members, no_members, member}
use Rattle.serde_json.specs.Find.{get}
use Rattle.serde_json.specs.Read.{read}
use Rattle.fs_path.specs.declared.name.Root.{Root}
use Rattle.fs_json.specs.Answer.{made}
use Rattle.fs_json.specs.Members.{is_there}
use Rattle.fs_json.specs.Scalars.{text_at, truth_at}
use Rattle.fs_json.specs.Time.{time_at}
use Rattle.fs_json.specs.declared.bad.Bad.{Bad}
use Rattle.fs_json.specs.declared.bad.Bad.TheVariants.{At, Method, Memory}
use Rattle.fs_rpc.specs.Envelope.{session_request_at}
use Rattle.fs_status.specs.declared.reason.Reason.{Reason}
use Rattle.fs_status.specs.declared.reason.Reason.TheVariants as reasons
use Rattle.fs_status.specs.declared.reason.LineFault.TheVariants.{NotAnObject, HasBytes}
use Rattle.fs_rpc.specs.Decimal.{decimal_at}
use Rattle.fs_replay.specs.Forms.{leave_at, load_at, number_at, sole_as, true_at}
use Rattle.fs_replay.specs.Limits.{longest_line}
use Rattle.fs_replay.specs.declared.request.Line.{Line}
use Rattle.fs_replay.specs.declared.request.Line.TheVariants as line

-- the forms of lines that aren't built, each told by a member, whatever it holds
abbrev pub unbuilt_forms : List (List ℕ)
unbuilt_forms = codes "client" ∷ []

abbrev pub has_any : List (List ℕ) → Data → Bool
has_any names d = list_any (λ name. is_some (get name d)) names

abbrev pub is_unbuilt_form : Data → Bool
is_unbuilt_form d = has_any unbuilt_forms d

-- why what isn't read is refused
abbrev pub reason_of : Bad → Reason
reason_of (At rule place) = reasons.Rule rule place
reason_of (Method name) = reasons.Method name
reason_of (Memory e) = reasons.Memory

-- why a line that isn't read is refused; one whose own place is at fault is no object of any form
abbrev pub line_reason : Bad → Reason
line_reason (At rule []) = reasons.Line NotAnObject
line_reason (At rule (b ∷ bs)) = reasons.Rule rule (b ∷ bs)
line_reason bad = reason_of bad

-- ---- which form a line has: the members that are there tell it, and one that is null isn't there
--
--     {"clock":"2024-01-01T00:00:00Z"}                   of the clock
--     {"settle":"12"}                                    a commit that is settled by hand
--     {"session":"s","leave":true}                       a session that leaves
--     {"session":"s","leave":null,"getDocument":{..}}    a request, as without its leave
--     {"clock":null}, {"leave":true}, {}                 of no form

-- a session that leaves has both
abbrev pub leaves_session : Data → Bool
leaves_session d = is_there (codes "session") d && is_there (codes "leave") d

-- the members without the one of this name
abbrev pub without_member : List ℕ → Members → Members
without_member name no_members = no_members
without_member name (member key d ms) = match_ordering (slice_cmp nat_cmp name key) (member key d (without_member name ms)) ms (member key d (without_member name ms))

-- and without those of each of these names
abbrev pub without_each : List (List ℕ) → Members → Members
without_each [] ms = ms
without_each (name ∷ names) ms = without_each names (without_member name ms)

-- the members that tell the forms of lines other than requests; `leave` does beside a session
abbrev pub form_members : List (List ℕ)
form_members =
    codes "clock" ∷ codes "compact" ∷ codes "manual" ∷ codes "settle" ∷ codes "retry" ∷ codes "load" ∷ codes "match" ∷ codes "raise" ∷ codes "leave" ∷ []

-- a line without those members
abbrev pub bare : Data → Data
bare null = null
bare (boolean b) = boolean b
bare (number n) = number n
bare (string s) = string s
bare (array ds) = array ds
bare (object ms) = object (without_each form_members ms)

-- What no other form tells is read as a request, whatever of those members it has: they are null, or a leave without a
-- session. So where it has no session, a member that no form has is at fault at its place, and else the line itself.
abbrev pub form_at : Root → Data → Result Line Bad
form_at root d =
    if is_unbuilt_form d then Ok line.NotBuilt
    else if is_there (codes "clock") d then made line.Clock (sole_as time_at (codes "clock") d)
    else if is_there (codes "compact") d then made line.Compact (sole_as time_at (codes "compact") d)
    else if is_there (codes "manual") d then made line.Manual (sole_as truth_at (codes "manual") d)
    else if is_there (codes "settle") d then made line.Settle (sole_as decimal_at (codes "settle") d)
    else if is_there (codes "retry") d then made (λ _. line.Retry) (sole_as true_at (codes "retry") d)
    else if is_there (codes "load") d then sole_as load_at (codes "load") d
    else if is_there (codes "match") d then made line.Match (sole_as number_at (codes "match") d)
    else if is_there (codes "raise") d then made line.Raise (sole_as text_at (codes "raise") d)
    else if leaves_session d then made line.Leave (leave_at d)
    else made line.Asked (session_request_at root (bare d))

-- what was read, or why it isn't
abbrev pub line_read : Result Line Bad → Line
line_read (Ok l) = l
line_read (Err bad) = line.Refused (line_reason bad)

abbrev pub form_of : Root → Data → Line
form_of root d = line_read (form_at root d)

abbrev pub line_in : Root → Option Data → Line
line_in root None = line.Refused (reasons.Line NotAnObject)
line_in root (Some d) = form_of root d

-- the value of a line that is JSON
abbrev pub json_of : List ℕ → Option Data
json_of bytes = if is_utf8 bytes then read bytes else None

-- why a line of so many bytes isn't read
abbrev pub too_long : ℕ → Reason
too_long bytes = reasons.Line (HasBytes bytes)

-- what a line is read as
abbrev pub line_of : Root → List ℕ → Line
line_of root [] = line.Empty
line_of root (b ∷ bs) = if nat_lt longest_line (length (b ∷ bs)) then line.Refused (too_long (length (b ∷ bs))) else line_in root (json_of (b ∷ bs))

-- for private clauses: a fault, and not want of memory
abbrev pub IsFault : Bad → Type 0
IsFault (At rule place) = Unit {0}
IsFault (Method name) = Unit {0}
IsFault (Memory e) = ⊥
