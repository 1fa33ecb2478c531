-- What is written of the read of several documents is read as the same.
use Rattle.std.proofs.Common.{◌≡◌, ℕ, ◌+◌, false, List, [], ◌∷◌, ◌++◌, Option, Some, None, Ok, codes, refl, ap, ◌∙◌}
use Rattle.std.specs.List.{list_any, AllByRecursion, IsDistinct}
use Rattle.std.proofs.lemmas.List.Folds.{list_any-append}
use Rattle.std.proofs.lemmas.Map.Keys.{IsDistinct-head, IsDistinct-tail}
use Rattle.fs_path.specs.Database.{database_text, IsDatabase}
use Rattle.fs_path.specs.Document.{document_text, IsDocumentOf}
use Rattle.fs_path.proofs.Documents.{document_only}
use Rattle.fs_path.specs.NameOrder.{name_eq, name_eq_equiv}
use Rattle.fs_path.specs.Place.{item_place, member_place}
use Rattle.fs_path.specs.declared.field.FieldPath.{FieldPath}
use Rattle.fs_path.specs.declared.name.DocName.{DocName}
use Rattle.fs_path.specs.declared.name.Root.{Root}
use Rattle.serde_json.specs.Data.{Members, no_members, member, object}
use Rattle.fs_json.specs.Answer.{◌>>=◌}
use Rattle.fs_json.specs.Paths.{document_name_at as name_at, path_at}
use Rattle.fs_json.specs.Walk.{each_at}
use Rattle.fs_rpc.specs.Envelope.{envelope_at}
use Rattle.fs_rpc.specs.Id.{with_id_put}
use Rattle.fs_rpc.specs.RequestJson.{batch_get_json, name_json, names_json}
use Rattle.fs_rpc.specs.RequestSteps.{IsMaskHeld, IsWhenHeld}
use Rattle.fs_rpc.specs.Requests.{batch_get_at, each_once_at, once, once_after}
use Rattle.fs_rpc.specs.When.{when_at}
use Rattle.fs_request.specs.declared.request.Request.{Request}
use Rattle.fs_request.specs.declared.request.Request.TheVariants.{BatchGetDocuments}
use Rattle.fs_request.specs.declared.when.When.{When}
use Rattle.fs_request.specs.declared.when.When.TheVariants.{Released, At, In}
use Rattle.fs_path.proofs.Databases.{database_taken}

-- ---- names, each once

-- none of these stands before
abbrev AreNew : List DocName → List DocName → Type 0
AreNew before ns = AllByRecursion (λ n. list_any (name_eq n) before ≡ false) ns

new_after : (before : List DocName) (x : DocName) (ns : List DocName) → AreNew before ns → AllByRecursion (λ n. name_eq x n ≡ false) ns → AreNew (before ++ x ∷ []) ns
new_after before x [] new other = tt
new_after before x (n ∷ ns) new other =
    let turned : name_eq n x ≡ false = name_eq_equiv.symm n x ∙ other.0 in
    (list_any-append (name_eq n) before (x ∷ []) ∙ rw (new.0, turned) refl, new_after before x ns new.1 other.1)

once_again : (before ns : List DocName) → AreNew before ns → IsDistinct name_eq ns → once_after before ns ≡ ns
once_again before [] new distinct = refl
once_again before (n ∷ ns) new distinct =
    let after = new_after before n ns new.1 (IsDistinct-head name_eq n ns distinct) in
    rw new.0 (ap (λ rest. n ∷ rest) (once_again (before ++ n ∷ []) ns after (IsDistinct-tail name_eq n ns distinct)))

all_new : (ns : List DocName) → AreNew [] ns
all_new [] = tt
all_new (n ∷ ns) = (refl, all_new ns)

-- ---- names that are read

name_read : (root : Root) (n : DocName) (place : List ℕ) → IsDocumentOf root n → name_at root (name_json n) place ≡ Ok n
name_read root n place valid = ap (path_at place) (document_only root (document_text n) n valid refl)

names_read : (root : Root) (ns : List DocName) (i : ℕ) (place : List ℕ) → AllByRecursion (IsDocumentOf root) ns → each_at (name_at root) (names_json ns) i place ≡ Ok ns
names_read root [] i place valid = refl
names_read root (n ∷ ns) i place valid = rw (name_read root n (item_place place i) valid.0, names_read root ns (i + 1) place valid.1) refl

pub names_again : (root : Root) (ns : List DocName) (place : List ℕ) → AllByRecursion (IsDocumentOf root) ns → IsDistinct name_eq ns → each_once_at root (names_json ns) 0 place ≡ Ok ns
names_again root ns place valid distinct =
    ap (λ r. r >>= λ names. Ok (once names)) (names_read root ns 0 place valid) ∙ ap Ok (once_again [] ns (all_new ns) distinct)

-- ---- the read

pub batch_get_again : (root : Root) (ns : List DocName) (mask : Option (List FieldPath)) (when : When) (place : List ℕ) → IsDatabase root → AllByRecursion (IsDocumentOf root) ns
    → IsDistinct name_eq ns → IsMaskHeld mask → IsWhenHeld when → batch_get_at root (batch_get_json root ns mask when) place ≡ Ok (BatchGetDocuments root ns mask when)
unfolding batch_get_at when_at
batch_get_again root ns None Released place named valid distinct held told =
    rw ((database_taken root (database_text root)).1 (named, refl), names_again root ns (member_place place (codes "documents")) valid distinct) refl
batch_get_again root ns None (At time) place named valid distinct held told =
    rw ((database_taken root (database_text root)).1 (named, refl), names_again root ns (member_place place (codes "documents")) valid distinct, told (member_place place (codes "readTime"))) refl
batch_get_again root ns None (In n) place named valid distinct held told =
    rw ((database_taken root (database_text root)).1 (named, refl), names_again root ns (member_place place (codes "documents")) valid distinct, told (member_place place (codes "transaction"))) refl
batch_get_again root ns (Some paths) Released place named valid distinct held told =
    rw ((database_taken root (database_text root)).1 (named, refl), names_again root ns (member_place place (codes "documents")) valid distinct, held.again (member_place place (codes "mask"))) refl
batch_get_again root ns (Some paths) (At time) place named valid distinct held told =
    rw ((database_taken root (database_text root)).1 (named, refl), names_again root ns (member_place place (codes "documents")) valid distinct, held.again (member_place place (codes "mask")), told (member_place place (codes "readTime"))) refl
batch_get_again root ns (Some paths) (In n) place named valid distinct held told =
    rw ((database_taken root (database_text root)).1 (named, refl), names_again root ns (member_place place (codes "documents")) valid distinct, held.again (member_place place (codes "mask")), told (member_place place (codes "transaction"))) refl

-- ---- with its id

pub batch_get_read : (root : Root) (id : Option (List ℕ)) (ms : Members) (r : Request) → batch_get_at root (object ms) (codes "batchGetDocuments") ≡ Ok r
    → envelope_at root (object (with_id_put id (member (codes "batchGetDocuments") (object ms) no_members))) ≡ Ok (record { id = id; request = r })
unfolding envelope_at
batch_get_read root None ms r h = rw h refl
batch_get_read root (Some id) ms r h = rw h refl
