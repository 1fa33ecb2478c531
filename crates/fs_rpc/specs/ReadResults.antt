-- What a request was answered: the results of writes, and documents that were asked for, as proto3 JSON.
-- (v1 reference: `CommitResponse`, `BatchGetDocumentsResponse`, `RunQueryResponse`.)
use Rattle.std.specs.Prelude.{ℕ, ℤ, Bool, ◌&&◌, ◌||◌, ◌==◌, List, [], ◌∷◌, Option, Some, None, Result, Ok, codes, filter_map, is_some, length, option_map, if◌then◌else◌}
use Rattle.std.specs.List.{list_all}
use Rattle.std.specs.Ordering.{int_eq}
use Rattle.std.specs.Str.{bytes_eq}
use Rattle.serde_json.specs.Data as json
use Rattle.fs_path.specs.Place.{member_place}
use Rattle.fs_path.specs.declared.name.Root.{Root}
use Rattle.fs_json.specs.Answer.{◌>>=◌, made}
use Rattle.fs_json.specs.Members.{only_at, one_of_at, member_or}
use Rattle.fs_json.specs.Paths.{document_name_at}
use Rattle.fs_json.specs.declared.bad.Bad.{Bad}
use Rattle.fs_valjson.specs.Document.{document_at}
use Rattle.fs_value.specs.declared.document.Document.{Document}
use Rattle.fs_write.specs.declared.write_result.WriteResult.{WriteResult}
use Rattle.fs_json.specs.Walk.{all_at}
use Rattle.fs_json.specs.Time.{required_time_at}
use Rattle.fs_request.specs.declared.message.BatchAnswer.{BatchAnswer}
use Rattle.fs_request.specs.declared.message.BatchAnswer.TheVariants.{Found, Missing}
use Rattle.fs_writejson.specs.Results.{write_result_at}

-- ---- results of writes

-- an absent list has no results
abbrev pub results_in : json.Data → List ℕ → Result (List WriteResult) Bad
results_in d place = member_or [] (all_at write_result_at) (codes "writeResults") d place

-- ---- names that were asked for

-- the members of what is told of a name
abbrev pub batch_answer_members : List (List ℕ)
batch_answer_members = codes "found" ∷ codes "missing" ∷ codes "readTime" ∷ []

-- those of which just one is there
abbrev pub found_or_missing : List (List ℕ)
found_or_missing = codes "found" ∷ codes "missing" ∷ []

-- the document that stood there
abbrev pub found_at : Root → json.Data → json.Data → List ℕ → Result BatchAnswer Bad
found_at root content d place = do
  document ← document_at root content (member_place place (codes "found"))
  time ← required_time_at (codes "readTime") d place
  Ok (Found document time)

-- the name, where no document stood there
abbrev pub missing_at : Root → json.Data → json.Data → List ℕ → Result BatchAnswer Bad
missing_at root content d place = do
  name ← document_name_at root content (member_place place (codes "missing"))
  time ← required_time_at (codes "readTime") d place
  Ok (Missing name time)

-- what is told, by the name of its member
abbrev pub told_at : Root → List ℕ → json.Data → json.Data → List ℕ → Result BatchAnswer Bad
told_at root name content d place = if bytes_eq name (codes "found") then found_at root content d place else missing_at root content d place

-- what is told of one name
unfoldable pub batch_answer_at : Root → json.Data → List ℕ → Result BatchAnswer Bad
batch_answer_at root d place = do
  _ ← only_at batch_answer_members d place
  one ← one_of_at found_or_missing d place
  told_at root one.0 one.1 d place

-- ---- answers of queries

-- the members of one item
abbrev pub query_answer_members : List (List ℕ)
query_answer_members = codes "document" ∷ codes "readTime" ∷ []

-- the document of an item, which may be absent
abbrev pub document_in : Root → json.Data → List ℕ → Result (Option Document) Bad
document_in root d place = member_or None (λ x p. made Some (document_at root x p)) (codes "document") d place

-- one item: its document and the time of the read
unfoldable pub query_answer_at : Root → json.Data → List ℕ → Result (Option Document × ℤ) Bad
query_answer_at root d place = do
  _ ← only_at query_answer_members d place
  document ← document_in root d place
  time ← required_time_at (codes "readTime") d place
  Ok (document, time)

-- whether items are one answer: all are of this time, and one without a document stands alone
abbrev pub is_one_answer : ℤ → List (Option Document × ℤ) → Bool
is_one_answer time items = list_all (λ a. int_eq a.1 time) items && (list_all (λ a. is_some a.0) items || length items == 1)

-- the time of items that are one answer
abbrev pub answers_time : List (Option Document × ℤ) → Option ℤ
answers_time [] = None
answers_time (a ∷ items) = if is_one_answer a.1 (a ∷ items) then Some a.1 else None

-- its documents, and its time
abbrev pub answered : List (Option Document × ℤ) → Option (List Document × ℤ)
answered items = option_map (λ time. (filter_map (λ a. a.0) items, time)) (answers_time items)
