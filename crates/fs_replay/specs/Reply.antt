-- What is written for lines, as JSON. (`google.rpc.Status` as REST prints it.)
use Rattle.std.specs.Prelude.{ℕ, List, [], ◌∷◌, ◌++◌, codes}
use Rattle.serde_json.specs.Data.{Data, unsigned, number, object, no_members, member}
use Rattle.serde_json.specs.Written.{compact_text}
use Rattle.fs_rpc.specs.MessageJson.{error_json}
use Rattle.fs_status.specs.Message.{message_text}
use Rattle.fs_status.specs.Refusal.{refusal_of}
use Rattle.fs_status.specs.declared.reason.Reason.{Reason}
use Rattle.fs_status.specs.declared.refusal.Refusal.{Refusal}

abbrev pub refusal_json : Refusal → Data
refusal_json refusal = error_json refusal.code (message_text refusal.reason)

abbrev pub refused_json : Reason → Data
refused_json reason = refusal_json (refusal_of reason)

-- `{"error":{..},"line":1}`
abbrev pub line_error : Data → ℕ → Data
line_error error n = object (member (codes "error") error (member (codes "line") (number (unsigned n)) no_members))

-- a value on a line of its own
abbrev pub json_line : Data → List ℕ
json_line d = compact_text d ++ 10 ∷ []
