-- What is written of the run of a query is read as the same.
use Rattle.std.proofs.Common.{◌≡◌, ℕ, true, List, Option, Some, None, Result, Ok, Err, codes, refl, ap, ◌∙◌}
use Rattle.fs_path.specs.Document.{document_text, under, IsParentOf}
use Rattle.fs_path.specs.Place.{member_place}
use Rattle.fs_path.specs.declared.name.Root.{Root}
use Rattle.serde_json.specs.Data.{Data, Members, no_members, member, object, string}
use Rattle.fs_json.specs.Answer.{◌>>=◌}
use Rattle.fs_json.specs.Members.{is_given, required_at}
use Rattle.fs_json.specs.declared.bad.Bad.{Bad}
use Rattle.fs_query.specs.Asked.{Asked}
use Rattle.fs_path.specs.Scope.{scope_parent}
use Rattle.fs_queryjson.specs.Query.{permitted_at, query_at, walked_at}
use Rattle.fs_queryjson.specs.Written.{query_json}
use Rattle.fs_rpc.specs.Envelope.{envelope_at}
use Rattle.fs_rpc.specs.Id.{with_id_put}
use Rattle.fs_rpc.specs.RequestJson.{run_query_json}
use Rattle.fs_rpc.specs.RequestSteps.{IsWhenHeld}
use Rattle.fs_rpc.specs.Requests.{run_query_at, structured_at}
use Rattle.fs_rpc.specs.Eight.{with_eight}
use Rattle.fs_request.specs.When.{time_of, transaction_of}
use Rattle.fs_rpc.specs.When.{when_at, with_read_time}
use Rattle.fs_request.specs.declared.request.Request.{Request}
use Rattle.fs_request.specs.declared.request.Request.TheVariants.{RunQuery}
use Rattle.fs_request.specs.declared.when.When.{When}
use Rattle.fs_request.specs.declared.when.When.TheVariants.{Released, At, In}
use Rattle.fs_path.proofs.Documents.{parent_only}
use Rattle.fs_rpc.proofs.Structured.{structured_gives, asked_when}

-- ---- the query

pub query_given : (key : List ℕ) (q : Asked) → is_given key (query_json q) ≡ true
unfolding query_json
query_given key q = refl

-- what is read as a query by itself is read so below its parent
permitted_again : (parent : List (List ℕ)) (d s : Data) (place : List ℕ) (q : Asked) (when : When) (walked : Result Asked Bad) → required_at (codes "structuredQuery") d place ≡ Ok s
    → when_at d place ≡ Ok when → walked_at parent s (member_place place (codes "structuredQuery")) ≡ walked → (walked >>= λ w. permitted_at w (member_place place (codes "structuredQuery"))) ≡ Ok q
    → structured_at parent d place ≡ Ok (q, when)
permitted_again parent d s place q when (Ok w) there told is h = structured_gives parent d s place w when there is told ∙ ap (asked_when when) h
permitted_again parent d s place q when (Err bad) there told is h = absurd (cc)

-- the members of a request whose query is this
abbrev asked_by : List ℕ → When → Data → Data
asked_by parent when s =
    object (member (codes "parent") (string parent) (with_read_time (time_of when) (member (codes "structuredQuery") s (with_eight (codes "transaction") (transaction_of when) no_members))))

query_there : (parent : List ℕ) (when : When) (s : Data) (place : List ℕ) → is_given (codes "structuredQuery") s ≡ true
    → required_at (codes "structuredQuery") (asked_by parent when s) place ≡ Ok s
query_there parent Released s place given = rw given refl
query_there parent (At time) s place given = rw given refl
query_there parent (In n) s place given = rw given refl

when_again : (parent : List ℕ) (when : When) (s : Data) (place : List ℕ) → is_given (codes "structuredQuery") s ≡ true → IsWhenHeld when → when_at (asked_by parent when s) place ≡ Ok when
unfolding when_at
when_again parent Released s place given told = rw given refl
when_again parent (At time) s place given told = rw (given, told (member_place place (codes "readTime"))) refl
when_again parent (In n) s place given told = rw (given, told (member_place place (codes "transaction"))) refl

-- ---- the run

query_run : (root : Root) (ids : List (List ℕ)) (s : Data) (q : Asked) (when : When) (place : List ℕ) → is_given (codes "structuredQuery") s ≡ true → IsParentOf root ids
    → structured_at ids (asked_by (document_text (under root ids)) when s) place ≡ Ok (q, when)
    → run_query_at root (asked_by (document_text (under root ids)) when s) place ≡ Ok (RunQuery root q when)
unfolding run_query_at
query_run root ids s q Released place given is h = rw (given, parent_only root (document_text (under root ids)) ids is refl, h) refl
query_run root ids s q (At time) place given is h = rw (given, parent_only root (document_text (under root ids)) ids is refl, h) refl
query_run root ids s q (In n) place given is h = rw (given, parent_only root (document_text (under root ids)) ids is refl, h) refl

pub run_query_again : (root : Root) (q : Asked) (when : When) (place : List ℕ) → IsParentOf root (scope_parent q.scope)
    → ((p : List ℕ) → query_at (scope_parent q.scope) (query_json q) p ≡ Ok q) → IsWhenHeld when → run_query_at root (run_query_json root q when) place ≡ Ok (RunQuery root q when)
run_query_again root q when place is again told =
    let ids = scope_parent q.scope in
    let parent = document_text (under root ids) in
    let given = query_given (codes "structuredQuery") q in
    query_run root ids (query_json q) q when place given is
    (permitted_again ids (asked_by parent when (query_json q)) (query_json q) place q when (walked_at ids (query_json q) (member_place place (codes "structuredQuery")))
    (query_there parent when (query_json q) place given) (when_again parent when (query_json q) place given told) refl (again (member_place place (codes "structuredQuery"))))

-- ---- with its id

pub run_query_read : (root : Root) (id : Option (List ℕ)) (ms : Members) (r : Request) → run_query_at root (object ms) (codes "runQuery") ≡ Ok r
    → envelope_at root (object (with_id_put id (member (codes "runQuery") (object ms) no_members))) ≡ Ok (record { id = id; request = r })
unfolding envelope_at
run_query_read root None ms r h = rw h refl
run_query_read root (Some id) ms r h = rw h refl
