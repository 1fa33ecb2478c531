-- The requests that are read back from what is written of them. A text is read only where its JSON nests no deeper than JSON
-- is read; that is asked beside this.
use Rattle.std.specs.Prelude.{◌≡◌, ◌≢◌, ℕ, ◌≤◌, ◌<◌, ◌^◌, pos, List, [], None}
use Rattle.std.specs.List.{AllByRecursion, IsDistinct}
use Rattle.fs_path.specs.Database.{IsDatabase}
use Rattle.fs_path.specs.Document.{IsDocumentOf, IsParentOf}
use Rattle.fs_path.specs.NameOrder.{name_eq}
use Rattle.fs_path.specs.declared.name.DocName.{DocName}
use Rattle.fs_path.specs.declared.name.Root.{Root}
use Rattle.fs_query.specs.Asked.{Asked}
use Rattle.fs_query.specs.declared.target.Target.{Target}
use Rattle.fs_query.specs.declared.target.Target.TheVariants as target
use Rattle.fs_path.specs.Scope.{scope_parent}
use Rattle.fs_queryjson.specs.Valid.{IsValid}
use Rattle.fs_write.specs.declared.write.Write.{Write}
use Rattle.fs_writejson.specs.Valid.{IsWriteOf}
use Rattle.fs_request.specs.declared.request.Request.{Request}
use Rattle.fs_request.specs.declared.request.Request.TheVariants.{Commit, GetDocument, BatchGetDocuments, RunQuery, BeginTransaction, Rollback, AddTarget, RemoveTarget}
use Rattle.fs_request.specs.declared.request.Request.TheVariants as requests
use Rattle.fs_request.specs.declared.stream_request.StreamRequest.{StreamRequest}
use Rattle.fs_request.specs.declared.stream_request.StreamRequest.TheVariants.{Open, Resume, Batch, Ask, Mixed}

-- writes of the root's documents, none of which breaks a rule of writes
pub record IsCommitOf (root : Root) (database : Root) (writes : List Write) : Type 0 where
  pub same : database ≡ root
  pub named : IsDatabase root
  pub allowed : AllByRecursion (IsWriteOf root) writes

-- names of the root's documents, each once
pub record IsBatchOf (root : Root) (database : Root) (documents : List DocName) : Type 0 where
  pub same : database ≡ root
  pub named : IsDatabase root
  pub each : AllByRecursion (IsDocumentOf root) documents
  pub once : IsDistinct name_eq documents

-- a query below the root's documents or one of them, which breaks no rule of queries
pub record IsQueryOf (root : Root) (database : Root) (query : Asked) : Type 0 where
  pub same : database ≡ root
  pub parent : IsParentOf root (scope_parent query.scope)
  pub valid : IsValid query

-- a database that is the root's
pub record IsOfRoot (root : Root) (database : Root) : Type 0 where
  pub same : database ≡ root
  pub named : IsDatabase root

-- a query below the root's documents or one of them that breaks no rule of queries, selects nothing and skips nothing; or names of the
-- root's documents, each once
abbrev pub IsTargetOf : Root → Target → Type 0
IsTargetOf root (target.Query q) = IsParentOf root (scope_parent q.scope) × IsValid q × (q.select ≡ None) × (q.offset ≡ pos 0)
IsTargetOf root (target.Documents names) = AllByRecursion (IsDocumentOf root) names × IsDistinct name_eq names × (names ≢ [])

-- a target of an id that JSON holds
pub record IsAddingOf (root : Root) (asked : Root) (id : ℕ) (t : Target) : Type 0 where
  pub database : IsOfRoot root asked
  pub least : 1 ≤ id
  pub most : id < 2 ^ 31
  pub target : IsTargetOf root t

-- any stream and any token, and of a batch writes of the root's documents, at least one, none of which breaks a rule of writes
abbrev pub IsAskedOf : Root → StreamRequest → Type 0
IsAskedOf root Open = Unit {0}
IsAskedOf root (Resume stream token) = Unit {0}
IsAskedOf root (Batch token writes) = AllByRecursion (IsWriteOf root) writes × (writes ≢ [])
IsAskedOf root (Ask token) = Unit {0}
IsAskedOf root (Mixed stream token writes) = AllByRecursion (IsWriteOf root) writes × (writes ≢ [])

-- a request of a stream of the root's
pub record IsStreamRequestOf (root : Root) (asking : Root) (request : StreamRequest) : Type 0 where
  pub database : IsOfRoot root asking
  pub asked : IsAskedOf root request

-- a request of the root's documents; any token, any mask, any time, any transaction and any options may be given
abbrev pub IsRequestOf : Root → Request → Type 0
IsRequestOf root (Commit database writes transaction) = IsCommitOf root database writes
IsRequestOf root (GetDocument name mask when) = IsDocumentOf root name
IsRequestOf root (BatchGetDocuments database documents mask when) = IsBatchOf root database documents
IsRequestOf root (RunQuery database query when) = IsQueryOf root database query
IsRequestOf root (BeginTransaction database options) = IsOfRoot root database
IsRequestOf root (Rollback database transaction) = IsOfRoot root database
IsRequestOf root (AddTarget database id t token) = IsAddingOf root database id t
IsRequestOf root (RemoveTarget database id) = IsOfRoot root database
IsRequestOf root (requests.Write database asked) = IsStreamRequestOf root database asked
