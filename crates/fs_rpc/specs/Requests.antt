-- The requests that are built, as proto3 JSON: what each reads as, or the first place in the walk where it is at fault.
-- (v1 reference: `CommitRequest`, `GetDocumentRequest`, `BatchGetDocumentsRequest`, `RunQueryRequest`,
-- `BeginTransactionRequest`, `RollbackRequest`.)
--
--     under "beginTransaction"    {"database":"projects/p/databases/d"}                                  begins one that reads and writes
--     under "rollback"            {"database":"projects/p/databases/d","transaction":"AAAAAAAAAAI="}     ends transaction 2
use Rattle.std.specs.Prelude.{ℕ, List, [], ◌∷◌, ◌++◌, Option, Some, None, Result, Ok, codes, if◌then◌else◌, ⊤}
use Rattle.std.specs.List.{list_any}
use Rattle.serde_json.specs.Data.{Data, Items}
use Rattle.serde_json.specs.Find.{as_array}
use Rattle.fs_path.specs.Database.{database_of}
use Rattle.fs_path.specs.Document.{parent_of}
use Rattle.fs_path.specs.NameOrder.{name_eq}
use Rattle.fs_path.specs.Place.{member_place}
use Rattle.fs_path.specs.declared.field.FieldPath.{FieldPath}
use Rattle.fs_path.specs.declared.name.DocName.{DocName}
use Rattle.fs_path.specs.declared.name.Root.{Root}
use Rattle.fs_path.specs.declared.place.Rule.TheVariants.{G}
use Rattle.fs_json.specs.Answer.{made, or_fault, ◌>>=◌}
use Rattle.fs_json.specs.Members.{member_or, required_as, required_at, only_at}
use Rattle.fs_json.specs.Paths.{path_at, document_name_at as name_at}
use Rattle.fs_json.specs.Scalars.{text_at}
use Rattle.fs_json.specs.declared.bad.Bad.{Bad}
use Rattle.fs_query.specs.Asked.{Asked}
use Rattle.fs_queryjson.specs.Query.{permitted_at, walked_at}
use Rattle.fs_writejson.specs.Draft.{drafts_at}
use Rattle.fs_writejson.specs.Mask.{mask_at}
use Rattle.fs_writejson.specs.Rules.{judged_at}
use Rattle.fs_json.specs.Walk.{each_at}
use Rattle.fs_writejson.specs.declared.draft.Draft.{Draft}
use Rattle.fs_rpc.specs.Options.{options_in}
use Rattle.fs_rpc.specs.Eight.{optional_eight_at, eight_at}
use Rattle.fs_rpc.specs.When.{when_at, when_members}
use Rattle.fs_request.specs.declared.request.Request.{Request}
use Rattle.fs_request.specs.declared.request.Request.TheVariants.{Commit, GetDocument, BatchGetDocuments, RunQuery, BeginTransaction, Rollback}
use Rattle.fs_request.specs.declared.when.When.{When}

-- ---- members

-- the name of the root's database
abbrev pub database_at : Root → Data → List ℕ → Result ⊤ Bad
database_at root d place = required_at (codes "database") d place >>= λ x.
    text_at x (member_place place (codes "database")) >>= λ text. path_at (member_place place (codes "database")) (database_of root text)

-- an absent list has no writes
abbrev pub drafts_in : Root → Data → List ℕ → Result (List Draft) Bad
drafts_in root d place = member_or [] (drafts_at root) (codes "writes") d place

-- without a mask all fields are shown
abbrev pub mask_in : Data → List ℕ → Result (Option (List FieldPath)) Bad
mask_in d place = member_or None (λ x p. made Some (mask_at x p)) (codes "mask") d place

-- what has collections: the root's documents, or one of them, by its ids
abbrev pub parent_at : Root → Data → List ℕ → Result (List (List ℕ)) Bad
parent_at root d place = text_at d place >>= λ text. path_at place (parent_of root text)

-- names, each once, where it stands first
abbrev pub once_after : List DocName → List DocName → List DocName
once_after before [] = []
once_after before (n ∷ ns) = if list_any (name_eq n) before then once_after before ns else n ∷ once_after (before ++ n ∷ []) ns

abbrev pub once : List DocName → List DocName
once names = once_after [] names

abbrev pub each_once_at : Root → Items → ℕ → List ℕ → Result (List DocName) Bad
each_once_at root items i place = each_at (name_at root) items i place >>= λ names. Ok (once names)

abbrev pub names_at : Root → Data → List ℕ → Result (List DocName) Bad
names_at root d place = or_fault G place (as_array d) >>= λ items. each_once_at root items 0 place

-- ---- methods

abbrev pub commit_members : List (List ℕ)
commit_members = codes "database" ∷ codes "writes" ∷ codes "transaction" ∷ []

-- the rules of writes are tested after the walk
unfoldable pub commit_at : Root → Data → List ℕ → Result Request Bad
commit_at root d place = do
  _ ← only_at commit_members d place
  _ ← database_at root d place
  drafts ← drafts_in root d place
  transaction ← optional_eight_at (codes "transaction") d place
  writes ← judged_at drafts (member_place place (codes "writes"))
  Ok (Commit root writes transaction)

abbrev pub get_members : List (List ℕ)
get_members = codes "name" ∷ codes "mask" ∷ when_members

unfoldable pub get_at : Root → Data → List ℕ → Result Request Bad
get_at root d place = do
  _ ← only_at get_members d place
  text ← required_at (codes "name") d place
  name ← name_at root text (member_place place (codes "name"))
  mask ← mask_in d place
  when ← when_at d place
  Ok (GetDocument name mask when)

abbrev pub batch_get_members : List (List ℕ)
batch_get_members = codes "database" ∷ codes "documents" ∷ codes "mask" ∷ when_members

unfoldable pub batch_get_at : Root → Data → List ℕ → Result Request Bad
batch_get_at root d place = do
  _ ← only_at batch_get_members d place
  _ ← database_at root d place
  list ← required_at (codes "documents") d place
  names ← names_at root list (member_place place (codes "documents"))
  mask ← mask_in d place
  when ← when_at d place
  Ok (BatchGetDocuments root names mask when)

abbrev pub run_query_members : List (List ℕ)
run_query_members = codes "parent" ∷ codes "structuredQuery" ∷ when_members

-- a query below a parent, and when it is asked; its rules are tested after the walk of the whole request
unfoldable pub structured_at : List (List ℕ) → Data → List ℕ → Result (Asked × When) Bad
structured_at parent d place = do
  structured ← required_at (codes "structuredQuery") d place
  walked ← walked_at parent structured (member_place place (codes "structuredQuery"))
  when ← when_at d place
  query ← permitted_at walked (member_place place (codes "structuredQuery"))
  Ok (query, when)

unfoldable pub run_query_at : Root → Data → List ℕ → Result Request Bad
run_query_at root d place = do
  _ ← only_at run_query_members d place
  text ← required_at (codes "parent") d place
  parent ← parent_at root text (member_place place (codes "parent"))
  asked ← structured_at parent d place
  Ok (RunQuery root asked.0 asked.1)

abbrev pub begin_members : List (List ℕ)
begin_members = codes "database" ∷ codes "options" ∷ []

unfoldable pub begin_at : Root → Data → List ℕ → Result Request Bad
begin_at root d place = do
  _ ← only_at begin_members d place
  _ ← database_at root d place
  options ← options_in d place
  Ok (BeginTransaction root options)

abbrev pub rollback_members : List (List ℕ)
rollback_members = codes "database" ∷ codes "transaction" ∷ []

unfoldable pub rollback_at : Root → Data → List ℕ → Result Request Bad
rollback_at root d place = do
  _ ← only_at rollback_members d place
  _ ← database_at root d place
  transaction ← required_as eight_at (codes "transaction") d place
  Ok (Rollback root transaction)
