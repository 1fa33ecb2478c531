-- The messages of refusals.
use Rattle.std.specs.Prelude.{ℕ, ℤ, Option, Some, None, List, ◌++◌, codes, decimal}
use Rattle.std.specs.Fmt.{signed_decimal}
use Rattle.fs_path.specs.declared.place.Rule.{Rule}
use Rattle.fs_path.specs.declared.place.Rule.TheVariants.{G, T, P, E, Q}
use Rattle.fs_time.specs.Rfc3339.{time_text}
use Rattle.fs_status.specs.declared.reason.LineFault.{LineFault}
use Rattle.fs_status.specs.declared.reason.LineFault.TheVariants.{NotAnObject, DoesNotApply, HasBytes}
use Rattle.fs_status.specs.declared.reason.Reason.{Reason}
use Rattle.fs_status.specs.declared.reason.Reason.TheVariants as reasons

-- a letter and its number, and the number that it carries: `T1`, `P7 1501`
abbrev pub numbered_text : List ℕ → ℕ → Option ℕ → List ℕ
numbered_text letter n None = letter ++ decimal n
numbered_text letter n (Some carried) = letter ++ (decimal n ++ (codes " " ++ decimal carried))

abbrev pub rule_text : Rule → List ℕ
rule_text G = codes "G"
rule_text (T n) = numbered_text (codes "T") n None
rule_text (P n carried) = numbered_text (codes "P") n carried
rule_text (E n) = numbered_text (codes "E") n None
rule_text (Q n carried) = numbered_text (codes "Q") n carried

abbrev pub line_text : LineFault → List ℕ
line_text NotAnObject = codes "line is not a JSON object"
line_text DoesNotApply = codes "line does not apply"
line_text (HasBytes n) = codes "line has " ++ decimal n ++ codes " bytes"

-- what is told of a write, which is named by its number
abbrev pub write_text : ℕ → List ℕ → List ℕ
write_text write what = codes "write " ++ decimal write ++ (codes ": " ++ what)

-- the update time that a write found, or that there was none
abbrev pub update_time_text : ℕ → Option ℤ → List ℕ
update_time_text write (Some time) = write_text write (codes "update time is " ++ time_text time)
update_time_text write None = write_text write (codes "update time is none")

-- a time that was asked for, and the bound on whose wrong side it is
abbrev pub read_time_text : ℤ → List ℕ → ℤ → List ℕ
read_time_text time side bound = codes "read time " ++ time_text time ++ (codes " is " ++ (side ++ (codes " " ++ time_text bound)))

-- the time that a resume token shows, and the latest that can be read
abbrev pub token_ahead_text : ℤ → ℤ → List ℕ
token_ahead_text time released = codes "token time " ++ time_text time ++ (codes " is after " ++ time_text released)

-- a stream token, how it stands to the stream, and the token of the next batch
abbrev pub stream_token_text : ℕ → List ℕ → ℕ → List ℕ
stream_token_text token how next = codes "stream token " ++ decimal token ++ (codes " " ++ (how ++ (codes ", next " ++ decimal next)))

-- what is told of a transaction, which is named by its number
abbrev pub transaction_text : ℕ → List ℕ → List ℕ
transaction_text n what = codes "transaction " ++ decimal n ++ (codes " " ++ what)

-- since when the time of a transaction ran that expired, and when it had run out
abbrev pub expired_text : ℤ → ℤ → List ℕ
expired_text since now = codes "expired: since " ++ time_text since ++ (codes ", now " ++ time_text now)

abbrev pub message_text : Reason → List ℕ
message_text (reasons.Rule rule place) = rule_text rule ++ (codes " at " ++ place)
message_text (reasons.Missing write) = write_text write (codes "document missing")
message_text (reasons.Exists write) = write_text write (codes "document exists")
message_text (reasons.OtherTime write time) = update_time_text write time
message_text (reasons.DeepAfter write) = write_text write (codes "E6")
message_text (reasons.LargeAfter write bytes) = write_text write (codes "document has " ++ decimal bytes ++ codes " bytes")
message_text (reasons.NoDocument time) = codes "no document at " ++ time_text time
message_text (reasons.TooOld time floor) = read_time_text time (codes "before") floor
message_text (reasons.TooNew time released) = read_time_text time (codes "after") released
message_text (reasons.NotOpen n) = transaction_text n (codes "is not open")
message_text (reasons.Expired n since now) = transaction_text n (expired_text since now)
message_text (reasons.ReadOnly n) = transaction_text n (codes "is read-only")
message_text (reasons.Conflict n) = codes "conflict with " ++ decimal n
message_text (reasons.TokenLength n) = codes "token length " ++ decimal n
message_text reasons.TokenMark = codes "token mark"
message_text reasons.TokenTime = codes "token time"
message_text (reasons.TokenAhead time released) = token_ahead_text time released
message_text (reasons.TargetInUse n) = codes "target " ++ decimal n ++ codes " in use"
message_text (reasons.TargetUnknown n) = codes "target " ++ signed_decimal n ++ codes " unknown"
message_text reasons.NoStream = codes "no stream"
message_text (reasons.StreamUnknown n) = codes "stream " ++ decimal n ++ codes " unknown"
message_text reasons.NotOwner = codes "stream not owned"
message_text reasons.SecondStream = codes "second stream"
message_text (reasons.Stale token next) = stream_token_text token (codes "stale") next
message_text (reasons.Ahead token next) = stream_token_text token (codes "ahead") next
message_text (reasons.AtLimit name number) = codes "limit " ++ name ++ (codes " " ++ decimal number)
message_text (reasons.Method name) = codes "method " ++ name
message_text (reasons.Line line) = line_text line
message_text reasons.Memory = codes "out of memory"
