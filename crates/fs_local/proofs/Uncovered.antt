-- What was committed by the time of a client's snapshot isn't among its batches any longer.
use Rattle.std.proofs.Common.{◌≡◌, ℤ, ◌<ℤ◌, Bool, true, false, cond, List, [], ◌∷◌, Option, Some, None, refl, arith}
use Rattle.std.specs.Prelude.{int_lt}
use Rattle.std.specs.List.{AllByRecursion, filter}
use Rattle.std.proofs.lemmas.Int.{ints}
use Rattle.fs_request.specs.declared.request.Envelope.{Envelope}
use Rattle.fs_queue.specs.Queue.{Queue, is_uncovered}
use Rattle.fs_queue.specs.declared.batch.Acknowledged.{Acknowledged}
use Rattle.fs_local.specs.Answered.{covered_by}
use Rattle.fs_local.specs.Stands.{AreUncovered}
use Rattle.fs_local.specs.TakeOut.{sent_if}

-- those that a snapshot of a time leaves
pub left_uncovered : (time : ℤ) (acknowledged : List Acknowledged) → AllByRecursion (λ (a : Acknowledged). time <ℤ a.at) (filter (is_uncovered time) acknowledged)
left_uncovered time [] = tt
left_uncovered time (a ∷ more) = by_test (is_uncovered time a) refl (left_uncovered time more) where
  by_test : (later : Bool) → int_lt time a.at ≡ later → AllByRecursion (λ (b : Acknowledged). time <ℤ b.at) (filter (is_uncovered time) more)
      → AllByRecursion (λ (b : Acknowledged). time <ℤ b.at) (cond later (a ∷ filter (is_uncovered time) more) (filter (is_uncovered time) more))
  by_test true is rest = (grind (arith, ints), rest)
  by_test false is rest = rest

pub uncovered_left : (snapshot : Option ℤ) (q : Queue) → AreUncovered snapshot (covered_by snapshot q).acknowledged
uncovered_left None q = tt
uncovered_left (Some time) q = left_uncovered time q.acknowledged

-- a batch that is sent is none of them
pub sent_acknowledged : (o : Option Envelope) (q : Queue) → (sent_if o q).acknowledged ≡ q.acknowledged
sent_acknowledged None q = refl
sent_acknowledged (Some e) q = refl
