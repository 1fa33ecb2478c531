-- What follows where no limit would be passed.
use Rattle.std.proofs.Common.{◌≡◌, ℕ, ◌+◌, ◌<◌, ◌≤◌, Bool, true, false, cond, List, [], Option, Some, None, length, refl, ap, ◌∙◌, subst, arith}
use Rattle.std.specs.Prelude.{nat_le, nat_lt, codes, unwrap_or}
use Rattle.std.specs.Option.{option_and_then, option_map_or}
use Rattle.std.proofs.lemmas.Bool.Decides.{nat_tests}
use Rattle.fs_history.specs.Bytes.{commit_size}
use Rattle.fs_history.specs.declared.read.Read.{Read}
use Rattle.fs_request.specs.declared.request.Request.{Request}
use Rattle.fs_request.specs.declared.request.Request.TheVariants as request
use Rattle.fs_request.specs.declared.request.Request.TheVariants.{Commit, GetDocument, BatchGetDocuments, RunQuery, BeginTransaction, Rollback, AddTarget, RemoveTarget}
use Rattle.fs_status.specs.declared.refusal.Refusal.{Refusal}
use Rattle.fs_txn.specs.Reading.{reads_of}
use Rattle.fs_txn.specs.Transactions.{is_read_write, txn_of}
use Rattle.fs_txn.specs.declared.txn.Txn.{Txn}
use Rattle.fs_write.specs.declared.write.Write.{Write}
use Rattle.fs_machine.specs.Commit.{commit_refusal, commit_retry_refusal, growth_refusal, number_refusal, only_reads, unless_closed}
use Rattle.fs_machine.specs.Read.{read_limit_refusal}
use Rattle.fs_machine.specs.Refusing.{journal_count, journal_size, outbox_is_full, outbox_refusal, passed, room_refusal, time_limit_refusal}
use Rattle.fs_machine.specs.Request.{arrival_refusal, query_refusal, retry_refusal}
use Rattle.fs_machine.specs.State.{Machine}
use Rattle.fs_machine.specs.Transact.{reads_had}

-- ---- one limit, and those behind it

pub behind_passed : (over : Bool) (name : List ℕ) (n : ℕ) (others : Option Refusal) → passed over name n others ≡ None → others ≡ None
behind_passed true name n others none = absurd (cc)
behind_passed false name n others none = none

pub not_passed : (over : Bool) (name : List ℕ) (n : ℕ) (others : Option Refusal) → passed over name n others ≡ None → over ≡ false
not_passed true name n others none = absurd (cc)
not_passed false name n others none = refl

module _ (m : Machine) (ws : List Write) (reads : List Read) where
  abbrev full : Bool
  full = nat_le m.limits.batches (journal_count m.past)

  abbrev large : Bool
  large = nat_lt m.limits.journal (journal_size m.past + commit_size ws reads)

  pub room_behind : (others : Option Refusal) → room_refusal m ws reads others ≡ None → others ≡ None
  room_behind others none =
      behind_passed large (codes "journal") m.limits.journal others (behind_passed full (codes "batches") m.limits.batches (passed large (codes "journal") m.limits.journal others) none)

  pub room_within : (others : Option Refusal) → room_refusal m ws reads others ≡ None → journal_size m.past + commit_size ws reads ≤ m.limits.journal
  room_within others none =
      let is = not_passed large (codes "journal") m.limits.journal others (behind_passed full (codes "batches") m.limits.batches (passed large (codes "journal") m.limits.journal others) none) in
      grind (arith, nat_tests)

  room_instead : (others less : Option Refusal) → (others ≡ None → less ≡ None) → room_refusal m ws reads others ≡ None → room_refusal m ws reads less ≡ None
  room_instead others less weaker none =
      let over = not_passed large (codes "journal") m.limits.journal others (behind_passed full (codes "batches") m.limits.batches (passed large (codes "journal") m.limits.journal others) none) in
      let many = not_passed full (codes "batches") m.limits.batches (passed large (codes "journal") m.limits.journal others) none in
      ap (λ b. passed b (codes "batches") m.limits.batches (passed large (codes "journal") m.limits.journal less)) many
      ∙ ap (λ b. passed b (codes "journal") m.limits.journal less) over
      ∙ weaker (room_behind others none)

-- ---- one that is tried again passes no more limits than one that comes

number_behind : (m : Machine) (transaction : Option ℕ) (others : Option Refusal) → number_refusal m transaction others ≡ None → others ≡ None
number_behind m None others none = behind_passed (nat_le m.limits.ids m.numbers.ids) (codes "ids") m.limits.ids others none
number_behind m (Some id) others none = none

growth_by : (m : Machine) (ws : List Write) (transaction : Option ℕ) (b : Bool) → cond b None (room_refusal m ws (reads_had m.txns transaction) (number_refusal m transaction (time_limit_refusal m))) ≡ None
    → cond b None (room_refusal m ws (reads_had m.txns transaction) (time_limit_refusal m)) ≡ None
growth_by m ws transaction true none = refl
growth_by m ws transaction false none =
    room_instead m ws (reads_had m.txns transaction) (number_refusal m transaction (time_limit_refusal m)) (time_limit_refusal m) (number_behind m transaction (time_limit_refusal m)) none

commit_retried : (m : Machine) (session : ℕ) (ws : List Write) (transaction : Option ℕ) → commit_refusal m session ws transaction ≡ None → commit_retry_refusal m ws transaction ≡ None
commit_retried m session ws transaction none =
    let growth = growth_refusal m ws transaction (number_refusal m transaction (time_limit_refusal m)) in
    growth_by m ws transaction (only_reads m transaction)
    (behind_passed (outbox_is_full m session) (codes "outbox") m.limits.outbox growth
    (behind_passed (nat_lt m.limits.writes (length ws)) (codes "writes") m.limits.writes (outbox_refusal m session growth) none))

pub behind_closed : (first others : Option Refusal) → unless_closed first others ≡ None → others ≡ None
behind_closed (Some refusal) others none = absurd (cc)
behind_closed None others none = none

read_retried : (m : Machine) (session : ℕ) (others : Option Refusal) → outbox_refusal m session others ≡ None → others ≡ None
read_retried m session others none = behind_passed (outbox_is_full m session) (codes "outbox") m.limits.outbox others none

pub retried_within : (m : Machine) (session : ℕ) (q : Request) → arrival_refusal m session q ≡ None → retry_refusal m q ≡ None
retried_within m session (Commit database writes transaction) none = commit_retried m session writes transaction none
retried_within m session (GetDocument name mask when) none = read_retried m session (read_limit_refusal m when (GetDocument name mask when)) none
retried_within m session (BatchGetDocuments database names mask when) none = read_retried m session (read_limit_refusal m when (BatchGetDocuments database names mask when)) none
retried_within m session (RunQuery database query when) none =
    let limit = read_limit_refusal m when (RunQuery database query when) in
    read_retried m session limit (behind_closed (query_refusal query) (outbox_refusal m session limit) none)
retried_within m session (BeginTransaction database options) none = refl
retried_within m session (Rollback database transaction) none = refl
retried_within m session (AddTarget database id t token) none = refl
retried_within m session (RemoveTarget database id) none = refl
retried_within m session (request.Write database asked) none = refl

-- ---- a number is left for one that draws one

below : (limit ids : ℕ) (others : Option Refusal) → passed (nat_le limit ids) (codes "ids") limit others ≡ None → ids < limit
below limit ids others none = let is = not_passed (nat_le limit ids) (codes "ids") limit others none in grind (arith, nat_tests)

-- ---- a commit that grows what was committed

grows_by : (m : Machine) (ws : List Write) (reads : List Read) (b : Bool) → b ≡ false → cond b None (room_refusal m ws reads (time_limit_refusal m)) ≡ None
    → (journal_size m.past + commit_size ws reads ≤ m.limits.journal) × (time_limit_refusal m ≡ None)
grows_by m ws reads true is none = absurd (cc)
grows_by m ws reads false is none = (room_within m ws reads (time_limit_refusal m) none, room_behind m ws reads (time_limit_refusal m) none)

pub plain_grows : (m : Machine) (ws : List Write) → commit_retry_refusal m ws None ≡ None → (journal_size m.past + commit_size ws [] ≤ m.limits.journal) × (time_limit_refusal m ≡ None)
plain_grows m ws none = grows_by m ws [] false refl none

reads_by : (t : Txn) (b : Bool) → b ≡ true → unwrap_or (cond b (Some t.reads) None) [] ≡ t.reads
reads_by t true is = refl
reads_by t false is = absurd (cc)

turned_by : (b : Bool) → b ≡ true → cond b false true ≡ false
turned_by true is = refl
turned_by false is = absurd (cc)

pub own_grows : (m : Machine) (ws : List Write) (id : ℕ) (t : Txn) → txn_of id m.txns.open ≡ Some t → is_read_write t.kind ≡ true → commit_retry_refusal m ws (Some id) ≡ None
    → (journal_size m.past + commit_size ws t.reads ≤ m.limits.journal) × (time_limit_refusal m ≡ None)
own_grows m ws id t is rw none =
    let had : reads_had m.txns (Some id) ≡ t.reads = ap (λ o. unwrap_or (option_and_then reads_of o) []) is ∙ reads_by t (is_read_write t.kind) rw in
    let only : only_reads m (Some id) ≡ false = ap (λ o. option_map_or (λ (x : Txn). cond (is_read_write x.kind) false true) o false) is ∙ turned_by (is_read_write t.kind) rw in
    grows_by m ws t.reads (only_reads m (Some id)) only (subst (λ rs. cond (only_reads m (Some id)) None (room_refusal m ws rs (time_limit_refusal m)) ≡ None) had none)
