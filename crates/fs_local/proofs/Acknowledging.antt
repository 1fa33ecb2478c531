-- A batch that was acknowledged stays in the overlay until there is a snapshot of its time: only what a snapshot covers goes.
use Rattle.std.proofs.Common.{◌≡◌, ◌⊎◌, inl, inr, ℕ, suc, ℤ, Bool, true, false, cond, List, Option, Some, None, refl, sym, subst, arith}
use Rattle.std.specs.Prelude.{◌==◌, int_lt}
use Rattle.std.specs.List.{Contains, filter}
use Rattle.std.proofs.lemmas.Int.{ints}
use Rattle.std.proofs.lemmas.List.Elements.{Contains-append_left}
use Rattle.fs_query.specs.declared.listen.Cause.{Cause}
use Rattle.fs_query.specs.declared.listen.ListenMessage.{ListenMessage}
use Rattle.fs_query.specs.declared.listen.ListenMessage.TheVariants as message
use Rattle.fs_query.proofs.Rising.{keeps}
use Rattle.fs_request.specs.declared.message.Message.{Message}
use Rattle.fs_request.specs.declared.message.Message.TheVariants as received_message
use Rattle.fs_request.specs.declared.message.StreamAnswer.{StreamAnswer}
use Rattle.fs_request.specs.declared.message.StreamAnswer.TheVariants as answer
use Rattle.fs_status.specs.declared.code.Code.{Code}
use Rattle.fs_queue.specs.Queue.{Queue, acknowledged_at, acknowledged_of, is_uncovered, oldest_of}
use Rattle.fs_queue.specs.declared.batch.Acknowledged.{Acknowledged}
use Rattle.fs_local.specs.Answered.{answered, committed_in, counted, covered_by, greeted, refused_in, snapshot_by}
use Rattle.fs_local.specs.Laws.{AcknowledgedStays, Covers}
use Rattle.fs_local.specs.Raise.{may_raise, raised, told_unchanged}
use Rattle.fs_local.specs.Receive.{received}
use Rattle.fs_local.specs.Runs.{Step, listens, unlistens, writes, connects, loses, sends, receives, tells, after}
use Rattle.fs_local.specs.State.{Client}
use Rattle.fs_local.specs.TakeOut.{batch_out}
use Rattle.fs_local.specs.Told.{told, told_removed}
use Rattle.fs_local.proofs.Uncovered.{sent_acknowledged}

-- it is there still, or a snapshot covers it
abbrev IsKept : Acknowledged → Client → Type 0
IsKept a c = Contains c.queue.acknowledged a ⊎ Covers c.cache.snapshot a

uncovered_stays : (time : ℤ) (all : List Acknowledged) (a : Acknowledged) → Contains all a → Contains (filter (is_uncovered time) all) a ⊎ Covers (Some time) a
uncovered_stays time all a has = by_test (int_lt time a.at) refl where
  by_test : (later : Bool) → int_lt time a.at ≡ later → Contains (filter (is_uncovered time) all) a ⊎ Covers (Some time) a
  by_test true is = inl (keeps (is_uncovered time) all a has is)
  by_test false is = inr (record { time = time; is = refl; reached = grind (arith, ints) })

covered_stays : (snapshot : Option ℤ) (q : Queue) (a : Acknowledged) → Contains q.acknowledged a → Contains (covered_by snapshot q).acknowledged a ⊎ Covers snapshot a
covered_stays None q a has = inl has
covered_stays (Some time) q a has = uncovered_stays time q.acknowledged a has

module _ (a : Acknowledged) where
  kept_removed : (ids : List ℕ) (cause : Option Cause) (c : Client) → Contains c.queue.acknowledged a → IsKept a (told_removed ids cause c)
  kept_removed ids None c has = inl has
  kept_removed ids (Some cause) c has = inl has

  kept_unchanged : (time : ℤ) (token : List ℕ) (c : Client) → Contains c.queue.acknowledged a → IsKept a (told_unchanged time token c)
  kept_unchanged time token c has = by_test (may_raise time c) where
    by_test : (may : Bool) → IsKept a (cond may (raised time token c) c)
    by_test true = uncovered_stays time c.queue.acknowledged a has
    by_test false = inl has

  kept_told : (m : ListenMessage) (c : Client) → Contains c.queue.acknowledged a → IsKept a (told m c)
  kept_told (message.Add ids) c has = inl has
  kept_told (message.Remove ids cause) c has = kept_removed ids cause c has
  kept_told (message.Reset ids) c has = inl has
  kept_told (message.Current ids time token) c has = inl has
  kept_told (message.NoChange time token) c has = kept_unchanged time token c has
  kept_told (message.Changed d ids left) c has = inl has
  kept_told (message.Deleted name time left) c has = inl has
  kept_told (message.Removed name time left) c has = inl has

  -- those before it stay where another is acknowledged
  kept_committed : (o : Option ℕ) (time : ℤ) (c : Client) → Contains c.queue.acknowledged a → IsKept a (committed_in o time c)
  kept_committed None time c has = inl has
  kept_committed (Some n) time c has =
      covered_stays (snapshot_by time c.targets c.cache).snapshot (acknowledged_at time c.queue) a
      (Contains-append_left c.queue.acknowledged (acknowledged_of c.queue.given time c.queue.unanswered) a has)

  kept_refused : (o : Option ℕ) (code : Code) (text : List ℕ) (c : Client) → Contains c.queue.acknowledged a → IsKept a (refused_in o code text c)
  kept_refused None code text c has = inl has
  kept_refused (Some n) code text c has = inl has

  kept_answered : (stream token : ℕ) (reply : StreamAnswer) (c : Client) → Contains c.queue.acknowledged a → IsKept a (answered stream token reply c)
  kept_answered stream token answer.Stands c has = inl has
  kept_answered stream token (answer.Committed time results) c has = by_test (token == suc c.hand.token) where
    by_test : (counts : Bool) → IsKept a (cond counts (committed_in (oldest_of c.queue) time (counted c)) c)
    by_test true = kept_committed (oldest_of c.queue) time (counted c) has
    by_test false = inl has
  kept_answered stream token (answer.Refused code text) c has = by_test (token == suc c.hand.token) where
    by_test : (counts : Bool) → IsKept a (cond counts (refused_in (oldest_of c.queue) code text (counted c)) c)
    by_test true = kept_refused (oldest_of c.queue) code text (counted c) has
    by_test false = inl has

  kept_received : (m : Message) (c : Client) → Contains c.queue.acknowledged a → IsKept a (received m c)
  kept_received (received_message.Listen m) c has = kept_told m c has
  kept_received (received_message.Write stream token reply) c has = kept_answered stream token reply (greeted c) has
  kept_received (received_message.Commit id time results) c has = inl has
  kept_received (received_message.GetDocument id document) c has = inl has
  kept_received (received_message.BatchGetDocuments id answers) c has = inl has
  kept_received (received_message.RunQuery id documents time) c has = inl has
  kept_received (received_message.BeginTransaction id transaction) c has = inl has
  kept_received (received_message.Rollback id) c has = inl has
  kept_received (received_message.Error id code text) c has = inl has

  kept_after : (s : Step) (c : Client) → Contains c.queue.acknowledged a → IsKept a (after s c)
  kept_after (listens id t) c has = inl has
  kept_after (unlistens id) c has = inl has
  kept_after (writes ws moment) c has = inl has
  kept_after connects c has = inl has
  kept_after loses c has = inl has
  kept_after sends c has = inl (subst (λ all. Contains all a) (sym (sent_acknowledged (batch_out c.root c.hand c.queue) c.queue)) has)
  kept_after (receives m) c has = kept_received m c has
  kept_after tells c has = inl has

pub acknowledged_stays : AcknowledgedStays
acknowledged_stays s c a has = kept_after a s c has
