-- What is written of a request is read as the same request, with the same id.
use Rattle.std.proofs.Common.{◌≡◌, ℕ, List, Option, Ok, codes, sym, subst}
use Rattle.fs_path.specs.declared.name.Root.{Root}
use Rattle.fs_rpc.specs.ByMethod.{request_at}
use Rattle.fs_rpc.specs.Envelope.{envelope_at}
use Rattle.fs_rpc.specs.RequestJson.{envelope_json, method_of, request_json}
use Rattle.fs_rpc.specs.RequestSteps.{IsRequestHeld}
use Rattle.fs_rpc.specs.ValidRequest.{IsAddingOf, IsRequestOf}
use Rattle.fs_request.specs.declared.request.Envelope.{Envelope}
use Rattle.fs_request.specs.declared.request.Request.{Request}
use Rattle.fs_request.specs.declared.request.Request.TheVariants.{Commit, GetDocument, BatchGetDocuments, RunQuery, BeginTransaction, Rollback, AddTarget, RemoveTarget, Write}
use Rattle.fs_rpc.proofs.BatchGetAgain.{batch_get_again, batch_get_read}
use Rattle.fs_rpc.proofs.CommitAgain.{commit_again, commit_read}
use Rattle.fs_rpc.proofs.GetAgain.{get_again, get_read}
use Rattle.fs_rpc.proofs.RunQueryAgain.{run_query_again, run_query_read}
use Rattle.fs_rpc.proofs.StreamsAgain.{stream_again, stream_read}
use Rattle.fs_rpc.proofs.TargetsAgain.{listen_add_again, listen_read, listen_remove_again}
use Rattle.fs_rpc.proofs.TransactionAgain.{begin_again, begin_read, rollback_again, rollback_read}

-- what stands under the method
content_again : (root : Root) (r : Request) → IsRequestHeld r → IsRequestOf root r → request_at root (method_of r) (request_json r) ≡ Ok r
content_again root (Commit database writes transaction) held valid =
    subst (λ d. request_at root (codes "commit") (request_json (Commit d writes transaction)) ≡ Ok (Commit d writes transaction)) (sym valid.same)
    (commit_again root writes transaction (codes "commit") valid.named held.0 valid.allowed held.1)
content_again root (GetDocument name mask when) held valid = get_again root name mask when (codes "getDocument") valid held.0 held.1
content_again root (BatchGetDocuments database documents mask when) held valid =
    subst (λ d. request_at root (codes "batchGetDocuments") (request_json (BatchGetDocuments d documents mask when)) ≡ Ok (BatchGetDocuments d documents mask when)) (sym valid.same)
    (batch_get_again root documents mask when (codes "batchGetDocuments") valid.named valid.each valid.once held.0 held.1)
content_again root (RunQuery database query when) held valid =
    subst (λ d. request_at root (codes "runQuery") (request_json (RunQuery d query when)) ≡ Ok (RunQuery d query when)) (sym valid.same)
    (run_query_again root query when (codes "runQuery") valid.parent (λ place. held.0.again place valid.valid) held.1)
content_again root (BeginTransaction database options) held valid =
    subst (λ d. request_at root (codes "beginTransaction") (request_json (BeginTransaction d options)) ≡ Ok (BeginTransaction d options)) (sym valid.same)
    (begin_again root options (codes "beginTransaction") valid.named held)
content_again root (Rollback database transaction) held valid =
    subst (λ d. request_at root (codes "rollback") (request_json (Rollback d transaction)) ≡ Ok (Rollback d transaction)) (sym valid.same)
    (rollback_again root transaction (codes "rollback") valid.named held)
content_again root (AddTarget database id t token) held valid =
    subst (λ d. request_at root (codes "listen") (request_json (AddTarget d id t token)) ≡ Ok (AddTarget d id t token)) (sym valid.database.same)
    (listen_add_again root id t token (codes "listen") held.0 held.1 (subst (λ d. IsAddingOf root d id t) valid.database.same valid))
content_again root (RemoveTarget database id) held valid =
    subst (λ d. request_at root (codes "listen") (request_json (RemoveTarget d id)) ≡ Ok (RemoveTarget d id)) (sym valid.same)
    (listen_remove_again root id (codes "listen") valid.named held)
content_again root (Write database asked) held valid =
    subst (λ d. request_at root (codes "write") (request_json (Write d asked)) ≡ Ok (Write d asked)) (sym valid.database.same)
    (stream_again root asked (codes "write") valid.database.named held valid.asked)

-- a request with this id
abbrev with_id : Option (List ℕ) → Request → Envelope
with_id id r = record { id = id; request = r }

read_again : (root : Root) (id : Option (List ℕ)) (r : Request) → request_at root (method_of r) (request_json r) ≡ Ok r → envelope_at root (envelope_json (with_id id r)) ≡ Ok (with_id id r)
read_again root id (Commit database writes transaction) h = commit_read root id _ (Commit database writes transaction) h
read_again root id (GetDocument name mask when) h = get_read root id _ (GetDocument name mask when) h
read_again root id (BatchGetDocuments database documents mask when) h = batch_get_read root id _ (BatchGetDocuments database documents mask when) h
read_again root id (RunQuery database query when) h = run_query_read root id _ (RunQuery database query when) h
read_again root id (BeginTransaction database options) h = begin_read root id _ (BeginTransaction database options) h
read_again root id (Rollback database transaction) h = rollback_read root id _ (Rollback database transaction) h
read_again root id (AddTarget database n t token) h = listen_read root id _ (AddTarget database n t token) h
read_again root id (RemoveTarget database n) h = listen_read root id _ (RemoveTarget database n) h
read_again root id (Write database asked) h = stream_read root id _ (Write database asked) h

pub envelope_again : (root : Root) (e : Envelope) → IsRequestHeld e.request → IsRequestOf root e.request → envelope_at root (envelope_json e) ≡ Ok e
envelope_again root e held valid = read_again root e.id e.request (content_again root e.request held valid)
