-- Whom a request waits for, and what a transaction is in conflict with: the least of their numbers is told. And one that only reads does
-- neither.
use Rattle.std.proofs.Common.{◌≡◌, ◌⊎◌, inl, inr, ℕ, Bool, true, false, cond, List, [], ◌∷◌, ◌++◌, Option, Some, None, refl, sym, ap, ◌∙◌}
use Rattle.std.specs.Prelude.{◌==◌, ◌&&◌, ◌||◌, IsTrue, int_lt}
use Rattle.std.specs.List.{list_any}
use Rattle.std.specs.Option.{option_map_or}
use Rattle.std.proofs.lemmas.Bool.{or_left, or_right}
use Rattle.std.proofs.lemmas.List.Folds.{list_any-append}
use Rattle.fs_history.specs.Touches.{some_touched}
use Rattle.fs_history.specs.declared.read.Read.{Read}
use Rattle.fs_request.specs.declared.message.Message.TheVariants as message
use Rattle.fs_request.specs.declared.request.Request.{Request}
use Rattle.fs_request.specs.declared.request.Request.TheVariants.{Commit, GetDocument, BatchGetDocuments, RunQuery, BeginTransaction, Rollback, AddTarget, RemoveTarget}
use Rattle.fs_request.specs.declared.request.Request.TheVariants as request
use Rattle.fs_request.specs.declared.when.When.{When}
use Rattle.fs_request.specs.declared.when.When.TheVariants.{Released, At, In}
use Rattle.fs_request.specs.When.{transaction_of}
use Rattle.fs_status.specs.declared.refusal.Refusal.{Refusal}
use Rattle.fs_txn.specs.Transactions.{is_read_write, txn_of}
use Rattle.fs_txn.specs.declared.txn.Txn.{Txn}
use Rattle.fs_write.specs.declared.write.Write.{Write}
use Rattle.fs_machine.specs.Behind.{least, write_same, writing_same}
use Rattle.fs_machine.specs.Commit.{author_refusal, committed_answer, committed_answer_in, committed_answer_unless, only_reads, unless_closed, writing_refusal}
use Rattle.fs_machine.specs.Conflict.{conflict, is_reader, others, plain_behind, read_behind, readers_of}
use Rattle.fs_machine.specs.Laws.{IsConflict, IsHolder, IsHolderOfRead, IsLeastOf, IsPlainHolder, IsReadHolder, IsReader, IsWriter}
use Rattle.fs_machine.specs.Numbered.{transaction_in}
use Rattle.fs_machine.specs.Past.{Past, batches}
use Rattle.fs_machine.specs.Read.{is_noted, reader_behind, shown_at}
use Rattle.fs_machine.specs.Request.{Decision, check_refusal, decision, held_by, unless_held, unless_refused, writer_behind}
use Rattle.fs_machine.specs.State.{Machine}
use Rattle.fs_machine.specs.Transact.{closed_refusal}
use Rattle.fs_machine.specs.declared.answer.Answer.TheVariants.{Reply}
use Rattle.fs_machine.specs.declared.config.Mode.{Mode}
use Rattle.fs_machine.specs.declared.config.Mode.TheVariants.{Pessimistic, Optimistic}
use Rattle.fs_machine.specs.declared.parked_request.ParkedRequest.{ParkedRequest}
use Rattle.fs_machine.specs.declared.unreleased.Unreleased.{Unreleased}
use Rattle.fs_machine.proofs.Behind.{is_one, least_passing, least_told, one_holds}

writer_is : (p : Past) (ws : List Write) (i : ℕ) → list_any (λ u. u.batch.id == i && write_same ws u.batch.writes) p.unreleased ≡ is_one (writing_same p.unreleased ws) i
writer_is p ws i = one_holds (λ u. u.batch.id) (λ u. write_same ws u.batch.writes) p.unreleased i

reader_is : (ts : List Txn) (ws : List Write) (i : ℕ) → list_any (λ t. t.id == i && is_reader ws t) ts ≡ is_one (readers_of ts ws) i
reader_is ts ws i = one_holds (λ t. t.id) (is_reader ws) ts i

either : (a b : Bool) → IsTrue (a || b) → IsTrue a ⊎ IsTrue b
either true b is = inl refl
either false b is = inr is

plain_to : (p : Past) (ts : List Txn) (ws : List Write) (i : ℕ) → IsTrue (is_one (writing_same p.unreleased ws ++ readers_of ts ws) i) → IsWriter p ws i ⊎ IsReader ts ws i
plain_to p ts ws i is = apart (either (is_one (writing_same p.unreleased ws) i) (is_one (readers_of ts ws) i) (sym (list_any-append (λ n. n == i) (writing_same p.unreleased ws) (readers_of ts ws)) ∙ is))
  where
    apart : IsTrue (is_one (writing_same p.unreleased ws) i) ⊎ IsTrue (is_one (readers_of ts ws) i) → IsWriter p ws i ⊎ IsReader ts ws i
    apart (inl one) = inl (writer_is p ws i ∙ one)
    apart (inr one) = inr (reader_is ts ws i ∙ one)

plain_from : (p : Past) (ts : List Txn) (ws : List Write) (i : ℕ) → IsWriter p ws i ⊎ IsReader ts ws i → IsTrue (is_one (writing_same p.unreleased ws ++ readers_of ts ws) i)
plain_from p ts ws i (inl is) =
    list_any-append (λ n. n == i) (writing_same p.unreleased ws) (readers_of ts ws) ∙ or_left (is_one (writing_same p.unreleased ws) i) (is_one (readers_of ts ws) i) (sym (writer_is p ws i) ∙ is)
plain_from p ts ws i (inr is) =
    list_any-append (λ n. n == i) (writing_same p.unreleased ws) (readers_of ts ws) ∙ or_right (is_one (writing_same p.unreleased ws) i) (is_one (readers_of ts ws) i) (sym (reader_is ts ws i) ∙ is)

plain_held : (mode : Mode) (p : Past) (ts : List Txn) (ws : List Write) → IsLeastOf (IsPlainHolder mode p ts ws) (plain_behind mode p ts ws)
plain_held Pessimistic p ts ws = least_told (IsPlainHolder Pessimistic p ts ws) (writing_same p.unreleased ws ++ readers_of ts ws) (plain_to p ts ws) (plain_from p ts ws)
plain_held Optimistic p ts ws = least_passing (λ u. u.batch.id) (λ u. write_same ws u.batch.writes) p.unreleased

readers_held : (mode : Mode) (p : Past) (rs : List Read) → IsLeastOf (IsReadHolder mode p rs) (read_behind mode p rs)
readers_held Pessimistic p rs = least_passing (λ u. u.batch.id) (λ u. some_touched u.batch.writes rs) p.unreleased
readers_held Optimistic p rs = λ id none. none

with_noted : (P : ℕ → Type 0) (found : Option ℕ) → IsLeastOf P found → IsLeastOf (λ id. IsTrue true × P id) found
with_noted P None least = λ id both. least id both.1
with_noted P (Some id) least = ((refl, least.0), λ other both. least.1 other both.1)

noted_held : (m : Machine) (when : When) (q : Request) (b : Bool) → IsLeastOf (λ id. IsTrue b × IsReadHolder m.config.mode m.past (shown_at m when q) id) (cond b (read_behind m.config.mode m.past (shown_at m when q)) None)
noted_held m when q true = with_noted (IsReadHolder m.config.mode m.past (shown_at m when q)) (read_behind m.config.mode m.past (shown_at m when q)) (readers_held m.config.mode m.past (shown_at m when q))
noted_held m when q false = λ id both. absurd (let never = both.0 in cc)

read_held : (m : Machine) (when : When) (q : Request) → IsLeastOf (IsHolderOfRead m when q) (reader_behind m when q)
read_held m when q = noted_held m when q (is_noted m when)

pub held_by_the_least : (m : Machine) (q : Request) → IsLeastOf (IsHolder m q) (held_by m q)
held_by_the_least m (Commit database writes None) = plain_held m.config.mode m.past m.txns.open writes
held_by_the_least m (Commit database writes (Some transaction)) = least_passing (λ u. u.batch.id) (λ u. write_same writes u.batch.writes) m.past.unreleased
held_by_the_least m (GetDocument name mask when) = read_held m when (GetDocument name mask when)
held_by_the_least m (BatchGetDocuments database names mask when) = read_held m when (BatchGetDocuments database names mask when)
held_by_the_least m (RunQuery database query when) = read_held m when (RunQuery database query when)
held_by_the_least m (BeginTransaction database options) = λ id none. none
held_by_the_least m (Rollback database transaction) = λ id none. none
held_by_the_least m (AddTarget database target t token) = λ id none. none
held_by_the_least m (RemoveTarget database target) = λ id none. none
held_by_the_least m (request.Write database asked) = λ id none. none

pub aborted_by_the_least : (mode : Mode) (p : Past) (ts : List Txn) (t : Txn) (ws : List Write) → IsLeastOf (IsConflict mode p ts t ws) (conflict mode p ts t ws)
aborted_by_the_least Pessimistic p ts t ws = least_passing (λ v. v.id) (is_reader ws) (others t.id ts)
aborted_by_the_least Optimistic p ts t ws = least_passing (λ b. b.id) (λ b. int_lt t.read_time b.time && some_touched b.writes t.reads) (batches p.unreleased ++ p.history)

-- ---- one that only reads

pub read_only_commits : (m : Machine) (r : ParkedRequest) (ws : List Write) (id : ℕ) (t : Txn) → txn_of id m.txns.open ≡ Some t → is_read_write t.kind ≡ false
    → committed_answer m r ws (Some id) ≡ Reply (message.Commit r.envelope.id t.read_time [])
read_only_commits m r ws id t is ro =
    ap (committed_answer_in m r ws) is
    ∙ ap (λ b. cond b (committed_answer_unless m t (conflict m.config.mode m.past m.txns.open t ws)) (Reply (message.Commit r.envelope.id t.read_time []))) ro

read_kind : (found : Option Txn) → option_map_or (λ t. cond (is_read_write t.kind) false true) found false ≡ true → option_map_or (λ t. is_read_write t.kind) found false ≡ false
read_kind None is = absurd (cc)
read_kind (Some t) is = by_kind (is_read_write t.kind) is
  where
    by_kind : (b : Bool) → cond b false true ≡ true → b ≡ false
    by_kind true is = absurd (cc)
    by_kind false is = refl

none_same : (us : List Unreleased) → writing_same us [] ≡ []
none_same [] = refl
none_same (u ∷ us) = none_same us

free_read : (m : Machine) (when : When) (q : Request) → only_reads m (transaction_of when) ≡ true → reader_behind m when q ≡ None
free_read m Released q is = refl
free_read m (At time) q is = refl
free_read m (In id) q is = ap (λ b. cond b (read_behind m.config.mode m.past (shown_at m (In id) q)) None) (read_kind (txn_of id m.txns.open) is)

refused_writing : (c : Option Refusal) (w : Write) (ws : List Write) (id : ℕ) (b : Bool) → b ≡ true → unless_closed c (writing_refusal (w ∷ ws) id b) ≡ None → ⊥
refused_writing (Some refusal) w ws id b is none = cc
refused_writing None w ws id true is none = cc
refused_writing None w ws id false is none = cc

free_commit : (m : Machine) (writes : List Write) (transaction : Option ℕ) → only_reads m transaction ≡ true → author_refusal m writes transaction ≡ None → writer_behind m writes transaction ≡ None
free_commit m writes None is none = absurd (cc)
free_commit m [] (Some id) is none = ap least (none_same m.past.unreleased)
free_commit m (w ∷ ws) (Some id) is none = absurd (refused_writing (closed_refusal m.txns id) w ws id (only_reads m (Some id)) is none)

free_reader : (m : Machine) (session : ℕ) (q : Request) → only_reads m (transaction_in q) ≡ true → check_refusal m session q ≡ None → held_by m q ≡ None
free_reader m session (Commit database writes transaction) is none = free_commit m writes transaction is none
free_reader m session (GetDocument name mask when) is none = free_read m when (GetDocument name mask when) is
free_reader m session (BatchGetDocuments database names mask when) is none = free_read m when (BatchGetDocuments database names mask when) is
free_reader m session (RunQuery database query when) is none = free_read m when (RunQuery database query when) is
free_reader m session (BeginTransaction database options) is none = refl
free_reader m session (Rollback database transaction) is none = refl
free_reader m session (AddTarget database target t token) is none = refl
free_reader m session (RemoveTarget database target) is none = refl
free_reader m session (request.Write database asked) is none = refl

pub read_only_goes_on : (m : Machine) (session : ℕ) (q : Request) → only_reads m (transaction_in q) ≡ true → check_refusal m session q ≡ None → decision m session q ≡ Decision.goes_on
read_only_goes_on m session q is none = (λ i. unless_refused (none i) (unless_held (free_reader m session q is none i)))
