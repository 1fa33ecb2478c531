-- What is read as a request is a request of the root's documents.
use Rattle.std.proofs.Common.{ℕ, List, [], ◌∷◌, Option, Some, None, IfOk, codes, bytes_eq, refl, sym, subst}
use Rattle.std.specs.List.{AllByRecursion}
use Rattle.serde_json.specs.Data.{Data}
use Rattle.fs_path.specs.Database.{IsDatabase}
use Rattle.fs_path.specs.Document.{IsDocumentOf, IsParentOf}
use Rattle.fs_path.specs.Place.{member_place}
use Rattle.fs_path.specs.declared.name.Root.{Root}
use Rattle.fs_json.specs.Members.{only_at, required_as, required_at}
use Rattle.fs_json.specs.Scalars.{text_at}
use Rattle.fs_json.specs.Paths.{document_name_at as name_at}
use Rattle.fs_query.specs.Asked.{Asked}
use Rattle.fs_queryjson.specs.Query.{permitted_at, walked_at}
use Rattle.fs_queryjson.specs.Valid.{IsReadBelow, IsWalked}
use Rattle.fs_queryjson.proofs.QueryValid.{permitted_valid, walked_valid}
use Rattle.fs_json.proofs.Readings.{at_last_holds, either, in_turn_holds, member_holds}
use Rattle.fs_json.proofs.Named.{document_name_is, parent_is}
use Rattle.fs_write.specs.declared.write.Write.{Write}
use Rattle.fs_writejson.specs.Draft.{drafts_at}
use Rattle.fs_writejson.specs.Rules.{judged_at}
use Rattle.fs_writejson.specs.Valid.{IsDraftOf, IsWriteOf}
use Rattle.fs_writejson.proofs.RulesValid.{judged_valid}
use Rattle.fs_writejson.proofs.WriteValid.{drafts_valid}
use Rattle.fs_rpc.specs.ByMethod.{request_at}
use Rattle.fs_rpc.specs.Options.{options_in}
use Rattle.fs_rpc.specs.Requests.{batch_get_at, batch_get_members, begin_at, begin_members, commit_at, commit_members, database_at, drafts_in, get_at, get_members, mask_in, names_at, parent_at, rollback_at, rollback_members, run_query_at, run_query_members, structured_at}
use Rattle.fs_rpc.specs.Eight.{optional_eight_at, eight_at}
use Rattle.fs_rpc.specs.ReadStreams.{asked_with, stream_in, stream_request_at, token_for, write_members}
use Rattle.fs_rpc.specs.ReadTargets.{labels_in}
use Rattle.fs_rpc.specs.ValidRequest.{IsAskedOf, IsRequestOf}
use Rattle.fs_rpc.specs.When.{when_at}
use Rattle.fs_request.specs.declared.when.When.{When}
use Rattle.fs_rpc.proofs.NamesValid.{AreNames, database_valid, names_valid}
use Rattle.fs_rpc.proofs.TargetsValid.{listen_request_valid}

-- ---- methods

drafts_in_valid : (root : Root) (d : Data) (place : List ℕ) → IfOk (drafts_in root d place) (AllByRecursion (IsDraftOf root))
drafts_in_valid root d place =
    member_holds (AllByRecursion (IsDraftOf root)) [] (drafts_at root) (codes "writes") d place (drafts_valid root) tt

commit_valid : (root : Root) (d : Data) (place : List ℕ) → IfOk (commit_at root d place) (IsRequestOf root)
unfolding commit_at
commit_valid root d place =
    at_last_holds (IsRequestOf root) (only_at commit_members d place) _
    (λ u. in_turn_holds (λ v. IsDatabase root) (IsRequestOf root) (database_at root d place) _ (database_valid root d place)
    (λ v named. in_turn_holds (AllByRecursion (IsDraftOf root)) (IsRequestOf root) (drafts_in root d place) _ (drafts_in_valid root d place)
    (λ drafts are. at_last_holds (IsRequestOf root) (optional_eight_at (codes "transaction") d place) _
    (λ transaction. in_turn_holds (AllByRecursion (IsWriteOf root)) (IsRequestOf root) (judged_at drafts (member_place place (codes "writes"))) _
    (judged_valid root drafts (member_place place (codes "writes")) are) (λ writes allowed. record { same = refl; named = named; allowed = allowed })))))

get_valid : (root : Root) (d : Data) (place : List ℕ) → IfOk (get_at root d place) (IsRequestOf root)
unfolding get_at
get_valid root d place =
    at_last_holds (IsRequestOf root) (only_at get_members d place) _
    (λ u. at_last_holds (IsRequestOf root) (required_at (codes "name") d place) _
    (λ text. in_turn_holds (IsDocumentOf root) (IsRequestOf root) (name_at root text (member_place place (codes "name"))) _ (document_name_is root text (member_place place (codes "name")))
    (λ name is. at_last_holds (IsRequestOf root) (mask_in d place) _ (λ mask. at_last_holds (IsRequestOf root) (when_at d place) _ (λ when. is)))))

batch_get_valid : (root : Root) (d : Data) (place : List ℕ) → IfOk (batch_get_at root d place) (IsRequestOf root)
unfolding batch_get_at
batch_get_valid root d place =
    at_last_holds (IsRequestOf root) (only_at batch_get_members d place) _
    (λ u. in_turn_holds (λ v. IsDatabase root) (IsRequestOf root) (database_at root d place) _ (database_valid root d place)
    (λ v named. at_last_holds (IsRequestOf root) (required_at (codes "documents") d place) _
    (λ list. in_turn_holds (AreNames root) (IsRequestOf root) (names_at root list (member_place place (codes "documents"))) _ (names_valid root list (member_place place (codes "documents")))
    (λ names are. at_last_holds (IsRequestOf root) (mask_in d place) _
    (λ mask. at_last_holds (IsRequestOf root) (when_at d place) _ (λ when. record { same = refl; named = named; each = are.each; once = are.once }))))))

structured_valid : (parent : List (List ℕ)) (d : Data) (place : List ℕ) → IfOk (structured_at parent d place) (λ asked. IsReadBelow parent asked.0)
unfolding structured_at
structured_valid parent d place =
    let inside = member_place place (codes "structuredQuery") in
    let asks : Asked × When → Type 0 = λ asked. IsReadBelow parent asked.0 in
    at_last_holds asks (required_at (codes "structuredQuery") d place) _
    (λ s. in_turn_holds (IsWalked parent) asks (walked_at parent s inside) _ (walked_valid parent s inside)
    (λ walked is. at_last_holds asks (when_at d place) _
    (λ when. in_turn_holds (IsReadBelow parent) asks (permitted_at walked inside) _ (permitted_valid parent walked inside is) (λ q read. read))))

run_query_valid : (root : Root) (d : Data) (place : List ℕ) → IfOk (run_query_at root d place) (IsRequestOf root)
unfolding run_query_at
run_query_valid root d place =
    let inside = member_place place (codes "parent") in
    at_last_holds (IsRequestOf root) (only_at run_query_members d place) _
    (λ u. at_last_holds (IsRequestOf root) (required_at (codes "parent") d place) _
    (λ name. in_turn_holds (IsParentOf root) (IsRequestOf root) (parent_at root name inside) _
    (at_last_holds (IsParentOf root) (text_at name inside) _ (λ text. parent_is root text inside))
    (λ parent is. in_turn_holds (λ asked. IsReadBelow parent asked.0) (IsRequestOf root) (structured_at parent d place) _ (structured_valid parent d place)
    (λ asked read. record { same = refl; parent = subst (IsParentOf root) (sym read.below) is; valid = read.valid }))))

begin_valid : (root : Root) (d : Data) (place : List ℕ) → IfOk (begin_at root d place) (IsRequestOf root)
unfolding begin_at
begin_valid root d place =
    at_last_holds (IsRequestOf root) (only_at begin_members d place) _
    (λ u. in_turn_holds (λ v. IsDatabase root) (IsRequestOf root) (database_at root d place) _ (database_valid root d place)
    (λ v named. at_last_holds (IsRequestOf root) (options_in d place) _ (λ options. record { same = refl; named = named })))

rollback_valid : (root : Root) (d : Data) (place : List ℕ) → IfOk (rollback_at root d place) (IsRequestOf root)
unfolding rollback_at
rollback_valid root d place =
    at_last_holds (IsRequestOf root) (only_at rollback_members d place) _
    (λ u. in_turn_holds (λ v. IsDatabase root) (IsRequestOf root) (database_at root d place) _ (database_valid root d place)
    (λ v named. at_last_holds (IsRequestOf root) (required_as eight_at (codes "transaction") d place) _ (λ transaction. record { same = refl; named = named })))

-- what is asked of a stream: there is a batch only where there are writes
asked_valid : (root : Root) (stream token : Option ℕ) (ws : List Write) → AllByRecursion (IsWriteOf root) ws → IsAskedOf root (asked_with stream token ws)
asked_valid root stream None ws allowed = tt
asked_valid root None (Some token) [] allowed = tt
asked_valid root None (Some token) (w ∷ ws) allowed = (allowed, λ e. cc)
asked_valid root (Some stream) (Some token) [] allowed = tt
asked_valid root (Some stream) (Some token) (w ∷ ws) allowed = (allowed, λ e. cc)

stream_valid : (root : Root) (d : Data) (place : List ℕ) → IfOk (stream_request_at root d place) (IsRequestOf root)
unfolding stream_request_at
stream_valid root d place =
    let inside = member_place place (codes "writes") in
    at_last_holds (IsRequestOf root) (only_at write_members d place) _
    (λ u. in_turn_holds (λ v. IsDatabase root) (IsRequestOf root) (database_at root d place) _ (database_valid root d place)
    (λ v named. at_last_holds (IsRequestOf root) (stream_in d place) _
    (λ stream. in_turn_holds (AllByRecursion (IsDraftOf root)) (IsRequestOf root) (drafts_in root d place) _ (drafts_in_valid root d place)
    (λ drafts are. at_last_holds (IsRequestOf root) (token_for stream drafts d place) _
    (λ token. at_last_holds (IsRequestOf root) (labels_in d place) _
    (λ labels. in_turn_holds (AllByRecursion (IsWriteOf root)) (IsRequestOf root) (judged_at drafts inside) _ (judged_valid root drafts inside are)
    (λ writes allowed. record { database = record { same = refl; named = named }; asked = asked_valid root stream token writes allowed })))))))

-- what stands under a method
pub request_valid : (root : Root) (method : List ℕ) (d : Data) → IfOk (request_at root method d) (IsRequestOf root)
request_valid root method d =
    either (IsRequestOf root) (bytes_eq method (codes "commit")) _ _ (commit_valid root d method)
    (either (IsRequestOf root) (bytes_eq method (codes "getDocument")) _ _ (get_valid root d method)
    (either (IsRequestOf root) (bytes_eq method (codes "batchGetDocuments")) _ _ (batch_get_valid root d method)
    (either (IsRequestOf root) (bytes_eq method (codes "runQuery")) _ _ (run_query_valid root d method)
    (either (IsRequestOf root) (bytes_eq method (codes "beginTransaction")) _ _ (begin_valid root d method)
    (either (IsRequestOf root) (bytes_eq method (codes "rollback")) _ _ (rollback_valid root d method)
    (either (IsRequestOf root) (bytes_eq method (codes "listen")) _ _ (listen_request_valid root d method)
    (either (IsRequestOf root) (bytes_eq method (codes "write")) _ _ (stream_valid root d method) (record {}))))))))
