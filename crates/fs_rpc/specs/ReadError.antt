-- The error of a refusal: its code, whose number in HTTP and whose status have to fit, and its message.
-- (v1 reference: `google.rpc.Status` as REST prints it.)
--
--     {"code":404,"message":"..","status":"NOT_FOUND"}    `NotFound`, and its message
--     {"code":400,"message":"..","status":"NOT_FOUND"}    at fault at its code
use Rattle.std.specs.Prelude.{ℕ, ℤ, pos, List, [], ◌∷◌, Option, Some, None, Result, Ok, codes, find, if◌then◌else◌, option_and_then}
use Rattle.std.specs.Ordering.{int_eq}
use Rattle.std.specs.Str.{bytes_eq}
use Rattle.serde_json.specs.Data.{Data}
use Rattle.serde_json.specs.Find.{as_i64, as_number}
use Rattle.fs_path.specs.Place.{member_place}
use Rattle.fs_path.specs.declared.place.Rule.TheVariants.{G}
use Rattle.fs_json.specs.Answer.{or_fault, ◌>>=◌}
use Rattle.fs_json.specs.Members.{required_as, required_at, only_at}
use Rattle.fs_json.specs.Scalars.{text_at}
use Rattle.fs_json.specs.declared.bad.Bad.{Bad}
use Rattle.fs_status.specs.Status.{http_of, status_text}
use Rattle.fs_status.specs.declared.code.Code.{Code}
use Rattle.fs_status.specs.declared.code.Code.TheVariants.{InvalidArgument, FailedPrecondition, NotFound, AlreadyExists, Aborted, ResourceExhausted, Unimplemented, OutOfMemory}

-- the codes that refusals have
abbrev pub all_codes : List Code
all_codes = InvalidArgument ∷ FailedPrecondition ∷ NotFound ∷ AlreadyExists ∷ Aborted ∷ ResourceExhausted ∷ Unimplemented ∷ OutOfMemory ∷ []

-- the code whose status this text is
abbrev pub code_named : List ℕ → Option Code
code_named text = find (λ code. bytes_eq (status_text code) text) all_codes

-- that code, if this is its number in HTTP
abbrev pub if_numbered : ℤ → Code → Option Code
if_numbered number code = if int_eq number (pos (http_of code)) then Some code else None

-- a number that is an integer
abbrev pub json_integer : Data → Option ℤ
json_integer d = option_and_then as_i64 (as_number d)

-- such a number, which has to be there
abbrev pub required_integer_at : List ℕ → Data → List ℕ → Result ℤ Bad
required_integer_at name d place = required_at name d place >>= λ x. or_fault G (member_place place name) (json_integer x)

-- the members of an error, of which none may be absent
abbrev pub error_members : List (List ℕ)
error_members = codes "code" ∷ codes "message" ∷ codes "status" ∷ []

-- the code and the message of a refusal
unfoldable pub refusal_at : Data → List ℕ → Result (Code × List ℕ) Bad
refusal_at d place = do
  _ ← only_at error_members d place
  number ← required_integer_at (codes "code") d place
  message ← required_as text_at (codes "message") d place
  status ← required_as text_at (codes "status") d place
  named ← or_fault G (member_place place (codes "status")) (code_named status)
  code ← or_fault G (member_place place (codes "code")) (if_numbered number named)
  Ok (code, message)
