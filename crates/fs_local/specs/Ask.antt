-- What a client asks for on its link. Its requests have no id, as they are answered by target and by stream.
use Rattle.std.specs.Prelude.{ℕ, pos, List, [], ◌∷◌, ◌++◌, Option, Some, None}
use Rattle.fs_path.specs.declared.name.Root.{Root}
use Rattle.fs_query.specs.declared.target.Target.{Target}
use Rattle.fs_request.specs.declared.request.Envelope.{Envelope}
use Rattle.fs_request.specs.declared.request.Request.TheVariants as request
use Rattle.fs_request.specs.declared.stream_request.StreamRequest.{StreamRequest}
use Rattle.fs_request.specs.declared.stream_request.StreamRequest.TheVariants.{Batch, Open, Resume}
use Rattle.fs_write.specs.declared.write.Write.{Write}
use Rattle.fs_local.specs.State.{Hand, Link}

abbrev pub add_request : Root → ℕ → Target → Option (List ℕ) → Envelope
add_request root id t token = record { id = None; request = request.AddTarget root id t token }

abbrev pub remove_request : Root → ℕ → Envelope
remove_request root id = record { id = None; request = request.RemoveTarget root (pos id) }

-- opens the stream, or resumes the one that is held
abbrev pub greeting : Option ℕ → ℕ → StreamRequest
greeting None token = Open
greeting (Some stream) token = Resume stream token

abbrev pub stream_request : Root → Hand → Envelope
stream_request root h = record { id = None; request = request.Write root (greeting h.stream h.token) }

abbrev pub batch_request : Root → ℕ → List Write → Envelope
batch_request root token writes = record { id = None; request = request.Write root (Batch token writes) }

-- it is to be sent on the present link, if there is one
abbrev pub out_on : Option Link → List Envelope → Envelope → List Envelope
out_on None out e = out
out_on (Some link) out e = out ++ e ∷ []

abbrev pub asking : Envelope → Hand → Hand
asking e h = record h { out = out_on h.link h.out e }
