-- What is written of a request of a write stream is read as the same.
use Rattle.std.proofs.Common.{◌≡◌, ℕ, List, [], ◌∷◌, Option, Some, None, Ok, codes, refl}
use Rattle.fs_path.specs.Database.{database_text, IsDatabase}
use Rattle.fs_path.specs.Place.{member_place}
use Rattle.fs_path.specs.declared.name.Root.{Root}
use Rattle.fs_path.proofs.Databases.{database_taken}
use Rattle.serde_json.specs.Data.{Members, no_members, member, object}
use Rattle.fs_write.specs.declared.write.Write.{Write}
use Rattle.fs_rpc.specs.Decimal.{IsDecimalHeld}
use Rattle.fs_rpc.specs.Eight.{IsEightHeld}
use Rattle.fs_rpc.specs.Envelope.{envelope_at}
use Rattle.fs_rpc.specs.Id.{with_id_put}
use Rattle.fs_rpc.specs.ReadStreams.{stream_request_at}
use Rattle.fs_rpc.specs.RequestJson.{stream_request_json, writes_json}
use Rattle.fs_rpc.specs.RequestSteps.{IsAskedHeld}
use Rattle.fs_rpc.specs.ValidRequest.{IsAskedOf}
use Rattle.fs_request.specs.declared.request.Request.{Request}
use Rattle.fs_request.specs.declared.request.Request.TheVariants as requests
use Rattle.fs_request.specs.declared.stream_request.StreamRequest.{StreamRequest}
use Rattle.fs_request.specs.declared.stream_request.StreamRequest.TheVariants.{Open, Resume, Batch, Ask, Mixed}
use Rattle.fs_rpc.proofs.CommitAgain.{AllDrafted, all_drafted, judged}

-- ---- without writes

open_again : (root : Root) (place : List ℕ) → IsDatabase root → stream_request_at root (stream_request_json root Open) place ≡ Ok (requests.Write root Open)
unfolding stream_request_at
open_again root place named = rw ((database_taken root (database_text root)).1 (named, refl)) refl

resume_again : (root : Root) (stream token : ℕ) (place : List ℕ) → IsDatabase root → IsDecimalHeld stream → IsEightHeld token
    → stream_request_at root (stream_request_json root (Resume stream token)) place ≡ Ok (requests.Write root (Resume stream token))
unfolding stream_request_at
resume_again root stream token place named s t =
    rw ((database_taken root (database_text root)).1 (named, refl), s (member_place place (codes "streamId")), t (member_place place (codes "streamToken"))) refl

ask_again : (root : Root) (token : ℕ) (place : List ℕ) → IsDatabase root → IsEightHeld token
    → stream_request_at root (stream_request_json root (Ask token)) place ≡ Ok (requests.Write root (Ask token))
unfolding stream_request_at
ask_again root token place named t = rw ((database_taken root (database_text root)).1 (named, refl), t (member_place place (codes "streamToken"))) refl

-- ---- batches

batch_again : (root : Root) (token : ℕ) (w : Write) (ws : List Write) (place : List ℕ) → IsDatabase root → IsEightHeld token
    → AllDrafted root (writes_json (w ∷ ws)) 0 (member_place place (codes "writes")) (w ∷ ws)
    → stream_request_at root (stream_request_json root (Batch token (w ∷ ws))) place ≡ Ok (requests.Write root (Batch token (w ∷ ws)))
unfolding stream_request_at
batch_again root token w ws place named t all =
    rw (
      (database_taken root (database_text root)).1 (named, refl),
      all.read,
      t (member_place place (codes "streamToken")),
      judged root (writes_json (w ∷ ws)) (member_place place (codes "writes")) (w ∷ ws) all,
    ) refl

mixed_again : (root : Root) (stream token : ℕ) (w : Write) (ws : List Write) (place : List ℕ) → IsDatabase root → IsDecimalHeld stream → IsEightHeld token
    → AllDrafted root (writes_json (w ∷ ws)) 0 (member_place place (codes "writes")) (w ∷ ws)
    → stream_request_at root (stream_request_json root (Mixed stream token (w ∷ ws))) place ≡ Ok (requests.Write root (Mixed stream token (w ∷ ws)))
unfolding stream_request_at
mixed_again root stream token w ws place named s t all =
    rw (
      (database_taken root (database_text root)).1 (named, refl),
      s (member_place place (codes "streamId")),
      all.read,
      t (member_place place (codes "streamToken")),
      judged root (writes_json (w ∷ ws)) (member_place place (codes "writes")) (w ∷ ws) all,
    ) refl

pub stream_again : (root : Root) (asked : StreamRequest) (place : List ℕ) → IsDatabase root → IsAskedHeld asked → IsAskedOf root asked
    → stream_request_at root (stream_request_json root asked) place ≡ Ok (requests.Write root asked)
stream_again root Open place named held valid = open_again root place named
stream_again root (Resume stream token) place named held valid = resume_again root stream token place named held.stream held.token
stream_again root (Ask token) place named held valid = ask_again root token place named held.token
stream_again root (Batch token []) place named held valid = absurd (valid.1 refl)
stream_again root (Batch token (w ∷ ws)) place named held valid =
    batch_again root token w ws place named held.token (all_drafted root (w ∷ ws) 0 (member_place place (codes "writes")) held.writes valid.0)
stream_again root (Mixed stream token []) place named held valid = absurd (valid.1 refl)
stream_again root (Mixed stream token (w ∷ ws)) place named held valid =
    mixed_again root stream token w ws place named held.stream held.token (all_drafted root (w ∷ ws) 0 (member_place place (codes "writes")) held.writes valid.0)

-- ---- with its id

pub stream_read : (root : Root) (id : Option (List ℕ)) (ms : Members) (r : Request) → stream_request_at root (object ms) (codes "write") ≡ Ok r
    → envelope_at root (object (with_id_put id (member (codes "write") (object ms) no_members))) ≡ Ok (record { id = id; request = r })
unfolding envelope_at
stream_read root None ms r h = rw h refl
stream_read root (Some id) ms r h = rw h refl
