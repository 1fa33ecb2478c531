-- What is written of the read of one document is read as the same.
use Rattle.std.proofs.Common.{◌≡◌, ℕ, List, Option, Some, None, Ok, codes, refl}
use Rattle.fs_path.specs.Document.{document_text, IsDocumentOf}
use Rattle.fs_path.proofs.Documents.{document_only}
use Rattle.fs_path.specs.Place.{member_place}
use Rattle.fs_path.specs.declared.field.FieldPath.{FieldPath}
use Rattle.fs_path.specs.declared.name.DocName.{DocName}
use Rattle.fs_path.specs.declared.name.Root.{Root}
use Rattle.serde_json.specs.Data.{Members, no_members, member, object}
use Rattle.fs_rpc.specs.Envelope.{envelope_at}
use Rattle.fs_rpc.specs.Id.{with_id_put}
use Rattle.fs_rpc.specs.RequestJson.{get_json}
use Rattle.fs_rpc.specs.RequestSteps.{IsMaskHeld, IsWhenHeld}
use Rattle.fs_rpc.specs.Requests.{get_at}
use Rattle.fs_rpc.specs.When.{when_at}
use Rattle.fs_request.specs.declared.request.Request.{Request}
use Rattle.fs_request.specs.declared.request.Request.TheVariants.{GetDocument}
use Rattle.fs_request.specs.declared.when.When.{When}
use Rattle.fs_request.specs.declared.when.When.TheVariants.{Released, At, In}

pub get_again : (root : Root) (name : DocName) (mask : Option (List FieldPath)) (when : When) (place : List ℕ) → IsDocumentOf root name → IsMaskHeld mask → IsWhenHeld when
    → get_at root (get_json name mask when) place ≡ Ok (GetDocument name mask when)
unfolding get_at when_at
get_again root name None Released place valid held told = rw (document_only root (document_text name) name valid refl) refl
get_again root name None (At time) place valid held told =
    rw (document_only root (document_text name) name valid refl, told (member_place place (codes "readTime"))) refl
get_again root name None (In n) place valid held told =
    rw (document_only root (document_text name) name valid refl, told (member_place place (codes "transaction"))) refl
get_again root name (Some paths) Released place valid held told =
    rw (document_only root (document_text name) name valid refl, held.again (member_place place (codes "mask"))) refl
get_again root name (Some paths) (At time) place valid held told =
    rw (document_only root (document_text name) name valid refl, held.again (member_place place (codes "mask")), told (member_place place (codes "readTime"))) refl
get_again root name (Some paths) (In n) place valid held told =
    rw (document_only root (document_text name) name valid refl, held.again (member_place place (codes "mask")), told (member_place place (codes "transaction"))) refl

-- ---- with its id

pub get_read : (root : Root) (id : Option (List ℕ)) (ms : Members) (r : Request) → get_at root (object ms) (codes "getDocument") ≡ Ok r
    → envelope_at root (object (with_id_put id (member (codes "getDocument") (object ms) no_members))) ≡ Ok (record { id = id; request = r })
unfolding envelope_at
get_read root None ms r h = rw h refl
get_read root (Some id) ms r h = rw h refl
