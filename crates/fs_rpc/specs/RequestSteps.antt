-- What only private clauses cite: a mask, a transaction, when documents are read, a target and its token, as the members of a
-- request are put in one after another, and that the parts of a request, as they are written, have no float and are read back.
use Rattle.std.specs.Prelude.{◌≡◌, ℕ, ℤ, pos, false, List, [], ◌∷◌, Option, Some, None, Result, Ok, IfSome, codes}
use Rattle.std.specs.List.{AllByRecursion}
use Rattle.fs_path.specs.Place.{member_place}
use Rattle.fs_path.specs.declared.field.FieldPath.{FieldPath}
use Rattle.fs_path.specs.declared.name.Root.{Root}
use Rattle.serde_json.specs.Data.{Data, Members, put}
use Rattle.fs_json.specs.Answer.{made, ◌>>=◌}
use Rattle.serde_json.specs.Written.{has_float}
use Rattle.fs_json.specs.Base64.{bytes_json}
use Rattle.fs_json.specs.Integer.{small_json, small_of}
use Rattle.fs_json.specs.Members.{unbuilt_at}
use Rattle.fs_json.specs.Time.{IsTimeHeld, time_json}
use Rattle.fs_json.specs.declared.bad.Bad.{Bad}
use Rattle.fs_query.specs.Asked.{Asked}
use Rattle.fs_query.specs.declared.target.Target.{Target}
use Rattle.fs_query.specs.declared.target.Target.TheVariants as target
use Rattle.fs_path.specs.Scope.{scope_parent}
use Rattle.fs_queryjson.specs.Query.{listened_at, query_at}
use Rattle.fs_queryjson.specs.Valid.{IsValid}
use Rattle.fs_queryjson.specs.Written.{query_json}
use Rattle.fs_write.specs.declared.write.Write.{Write}
use Rattle.fs_writejson.specs.Mask.{mask_at, mask_json}
use Rattle.fs_writejson.specs.Rules.{judged_at, write_at}
use Rattle.fs_writejson.specs.Valid.{IsWriteOf}
use Rattle.fs_writejson.specs.Written.{write_json}
use Rattle.fs_writejson.specs.declared.draft.Draft.{Draft}
use Rattle.fs_rpc.specs.MessageSteps.{IsTokenHeld}
use Rattle.fs_rpc.specs.ReadTargets.{expected_in, labels_in, permitted_request, token_in}
use Rattle.fs_rpc.specs.RequestJson.{documents_target_json, query_target_json, stream_of, token_of, writes_of}
use Rattle.fs_rpc.specs.Decimal.{IsDecimalHeld, decimal_json}
use Rattle.fs_rpc.specs.Eight.{IsEightHeld, eight_json, optional_eight_at}
use Rattle.fs_rpc.specs.ReadStreams.{asked_with, token_for}
use Rattle.fs_request.specs.declared.options.TransactionOptions.{TransactionOptions}
use Rattle.fs_request.specs.declared.options.TransactionOptions.TheVariants.{ReadWrite, ReadOnly}
use Rattle.fs_request.specs.declared.request.Request.{Request}
use Rattle.fs_request.specs.declared.request.Request.TheVariants.{Commit, GetDocument, BatchGetDocuments, RunQuery, BeginTransaction, Rollback, AddTarget, RemoveTarget}
use Rattle.fs_request.specs.declared.request.Request.TheVariants as requests
use Rattle.fs_request.specs.declared.stream_request.StreamRequest.{StreamRequest}
use Rattle.fs_request.specs.declared.when.When.{When}
use Rattle.fs_request.specs.declared.when.When.TheVariants.{Released, At, In}

-- ---- what is read

-- what comes behind a change of targets: the labels, and then the rules
abbrev pub behind_at : Request → Data → List ℕ → Result Request Bad
behind_at request d place = labels_in d place >>= λ _. permitted_request request place

-- the members beside a target that are ignored, and those that aren't built; then the database
abbrev pub ignored_at : Root → Data → List ℕ → Result Root Bad
ignored_at root d place = expected_in d place >>= λ _. unbuilt_at (codes "once" ∷ codes "readTime" ∷ []) d place >>= λ _. Ok root

-- what stands beside a target: its token, and then those members
abbrev pub beside_target_at : Root → Data → List ℕ → Result (Root × Option (List ℕ)) Bad
beside_target_at root d place = token_in d place >>= λ token. made (λ database. (database, token)) (ignored_at root d place)

-- a target that is added, with what stands beside it
abbrev pub added_at : Root → ℕ → Target → Data → List ℕ → Result Request Bad
added_at root id t d place = do
  token ← token_in d place
  _ ← expected_in d place
  _ ← unbuilt_at (codes "once" ∷ codes "readTime" ∷ []) d place
  Ok (AddTarget root id t token)

-- a commit of these writes, once its transaction is read
abbrev pub judged_commit_at : Root → List Draft → Option ℕ → List ℕ → Result Request Bad
judged_commit_at root drafts transaction place = judged_at drafts (member_place place (codes "writes")) >>= λ writes. Ok (Commit root writes transaction)

abbrev pub commit_of_at : Root → List Draft → Data → List ℕ → Result Request Bad
commit_of_at root drafts d place = optional_eight_at (codes "transaction") d place >>= λ transaction. judged_commit_at root drafts transaction place

-- what is asked of a stream with these writes, once its token and the labels are read
abbrev pub judged_stream_at : Root → Option ℕ → Option ℕ → List Draft → List ℕ → Result Request Bad
judged_stream_at root stream token drafts place = judged_at drafts (member_place place (codes "writes")) >>= λ writes. Ok (requests.Write root (asked_with stream token writes))

abbrev pub labelled_token_at : Option ℕ → List Draft → Data → List ℕ → Result (Option ℕ) Bad
labelled_token_at stream drafts d place = token_for stream drafts d place >>= λ token. labels_in d place >>= λ _. Ok token

abbrev pub stream_of_at : Root → Option ℕ → List Draft → Data → List ℕ → Result Request Bad
stream_of_at root stream drafts d place = token_for stream drafts d place >>= λ token. labels_in d place >>= λ _. judged_stream_at root stream token drafts place

-- ---- what is written

-- a mask, where there is one
abbrev pub with_mask_put : Option (List FieldPath) → Members → Members
with_mask_put None others = others
with_mask_put (Some paths) others = put (codes "mask") (mask_json paths) others

-- a number under this name, where there is one
abbrev pub with_eight_put : List ℕ → Option ℕ → Members → Members
with_eight_put name None others = others
with_eight_put name (Some n) others = put name (eight_json n) others

-- when documents are read, where it isn't as they are now
abbrev pub with_when_put : When → Members → Members
with_when_put Released others = others
with_when_put (At time) others = put (codes "readTime") (time_json time) others
with_when_put (In n) others = put (codes "transaction") (eight_json n) others

-- what is listened to
abbrev pub with_target_put : Root → Target → Members → Members
with_target_put database (target.Query query) others = put (codes "query") (query_target_json database query) others
with_target_put database (target.Documents names) others = put (codes "documents") (documents_target_json names) others

-- a token, where there is one
abbrev pub with_token_put : Option (List ℕ) → Members → Members
with_token_put None others = others
with_token_put (Some token) others = put (codes "resumeToken") (bytes_json token) others

-- the number of a stream, where there is one
abbrev pub with_stream_put : Option ℕ → Members → Members
with_stream_put None others = others
with_stream_put (Some n) others = put (codes "streamId") (decimal_json n) others

-- ---- what is read back

-- a write
pub record IsWriteHeld (w : Write) : Type 0 where
  pub float : has_float (write_json w) ≡ false
  pub again : (root : Root) (place : List ℕ) → IsWriteOf root w → write_at root (write_json w) place ≡ Ok w

-- a mask
pub record ArePathsHeld (paths : List FieldPath) : Type 0 where
  pub float : has_float (mask_json paths) ≡ false
  pub again : (place : List ℕ) → mask_at (mask_json paths) place ≡ Ok paths

abbrev pub IsMaskHeld : Option (List FieldPath) → Type 0
IsMaskHeld None = Unit {0}
IsMaskHeld (Some paths) = ArePathsHeld paths

-- a query
pub record IsQueryHeld (q : Asked) : Type 0 where
  pub float : has_float (query_json q) ≡ false
  pub again : (place : List ℕ) → IsValid q → query_at (scope_parent q.scope) (query_json q) place ≡ Ok q
  pub listened : (place : List ℕ) → IsValid q → (q.select ≡ None) × (q.offset ≡ pos 0) → listened_at (scope_parent q.scope) (query_json q) place ≡ Ok q

-- when documents are read
abbrev pub IsWhenHeld : When → Type 0
IsWhenHeld Released = Unit {0}
IsWhenHeld (At time) = IsTimeHeld time
IsWhenHeld (In n) = IsEightHeld n

-- the options of a transaction
abbrev pub AreOptionsHeld : TransactionOptions → Type 0
AreOptionsHeld ReadWrite = Unit {0}
AreOptionsHeld (ReadOnly time) = IfSome time IsTimeHeld

-- a target
abbrev pub IsTargetHeld : Target → Type 0
IsTargetHeld (target.Query query) = IsQueryHeld query
IsTargetHeld (target.Documents names) = Unit {0}

-- the number of one that is to be removed
abbrev pub IsNumberHeld : ℤ → Type 0
IsNumberHeld n = small_of (small_json n) ≡ Some n

-- the stream, the token and the writes of what is asked of a stream
pub record IsAskedHeld (asked : StreamRequest) : Type 0 where
  pub stream : IfSome (stream_of asked) IsDecimalHeld
  pub token : IfSome (token_of asked) IsEightHeld
  pub writes : AllByRecursion IsWriteHeld (writes_of asked)

-- the parts of a request
abbrev pub IsRequestHeld : Request → Type 0
IsRequestHeld (Commit database writes transaction) = AllByRecursion IsWriteHeld writes × IfSome transaction IsEightHeld
IsRequestHeld (GetDocument name mask when) = IsMaskHeld mask × IsWhenHeld when
IsRequestHeld (BatchGetDocuments database documents mask when) = IsMaskHeld mask × IsWhenHeld when
IsRequestHeld (RunQuery database query when) = IsQueryHeld query × IsWhenHeld when
IsRequestHeld (BeginTransaction database options) = AreOptionsHeld options
IsRequestHeld (Rollback database transaction) = IsEightHeld transaction
IsRequestHeld (AddTarget database id t token) = IsTargetHeld t × IfSome token IsTokenHeld
IsRequestHeld (RemoveTarget database id) = IsNumberHeld id
IsRequestHeld (requests.Write database asked) = IsAskedHeld asked
