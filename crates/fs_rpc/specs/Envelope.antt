-- What stands round a request: its id, and on a line of a script its session. A fault there is one of the line; a fault of
-- the method's content is answered with the session and the id that were read.
use Rattle.std.specs.Prelude.{ℕ, List, [], ◌++◌, Result, Ok, codes}
use Rattle.serde_json.specs.Data.{Data}
use Rattle.serde_json.specs.Read.{read}
use Rattle.fs_path.specs.declared.name.Root.{Root}
use Rattle.fs_path.specs.declared.place.Rule.TheVariants.{G}
use Rattle.fs_json.specs.Answer.{or_fault, ◌>>=◌}
use Rattle.fs_json.specs.Members.{member_at, only_at, one_of_at}
use Rattle.fs_json.specs.Scalars.{text_at}
use Rattle.fs_json.specs.declared.bad.Bad.{Bad}
use Rattle.fs_rpc.specs.Id.{id_at}
use Rattle.fs_rpc.specs.Methods.{methods, envelope_head, session_head}
use Rattle.fs_rpc.specs.ByMethod.{request_at}
use Rattle.fs_rpc.specs.declared.envelope.SessionRequest.{SessionRequest}
use Rattle.fs_request.specs.declared.request.Envelope.{Envelope}

unfoldable pub envelope_at : Root → Data → Result Envelope Bad
envelope_at root d = do
  _ ← only_at (envelope_head ++ methods) d []
  id ← id_at d
  one ← one_of_at methods d []
  request ← request_at root one.0 one.1
  Ok (record { id = id; request = request })

-- A request on a session. A line without a session is of no form, so the line itself is at fault.
unfoldable pub session_request_at : Root → Data → Result SessionRequest Bad
session_request_at root d = do
  _ ← only_at (session_head ++ methods) d []
  found ← member_at (codes "session") d []
  session ← or_fault G [] found
  name ← text_at session (codes "session")
  id ← id_at d
  one ← one_of_at methods d []
  Ok (record { session = name; id = id; request = request_at root one.0 one.1 })

-- a text, as an envelope
abbrev pub request_of : Root → List ℕ → Result Envelope Bad
request_of root text = or_fault G [] (read text) >>= envelope_at root
