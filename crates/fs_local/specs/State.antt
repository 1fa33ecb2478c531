-- What a client is at each moment, as a record of groups: the documents that it has; the targets that it listens to; the batches that it wrote;
-- its hand, with which it holds its write stream and its link; and the refusals of batches that nobody asked for yet.
--
-- An offline write that is acknowledged before the snapshot that has it (c/a is {n: 1} at 1, and target 1 listens to c):
--
--     step                            batches                 snapshot      it shows
--     the link is lost                                        1             c/a {n: 1}, from the cache
--     it writes c/a {n: 2}            1 waits                 1             c/a {n: 2}, pending, from the cache
--     it is connected, and greeted    1 waits                 1             the same
--     what is to be sent is taken     1 is sent               1             the same
--     it was committed at 2           1 acknowledged at 2     1             the same: the snapshot doesn't have it yet
--     c/a is {n: 2}; NO_CHANGE at 2                           2             c/a {n: 2}
-- (Cloud Firestore documentation, "Access data offline".)
use Rattle.std.specs.Prelude.{ℕ, Bool, List, [], Option, None}
use Rattle.std.specs.FinMap.{FinMap, empty}
use Rattle.std.specs.Ordering.{nat_cmp}
use Rattle.fs_path.specs.declared.name.Root.{Root}
use Rattle.fs_query.specs.declared.listen.Cause.{Cause}
use Rattle.fs_request.specs.declared.request.Envelope.{Envelope}
use Rattle.fs_cache.specs.Cached.{Cached, none_cached}
use Rattle.fs_queue.specs.Queue.{Queue, none_queued}
use Rattle.fs_local.specs.declared.listened.Listened.{Listened}
use Rattle.fs_local.specs.declared.refusal.BatchRefusal.{BatchRefusal}

pub record Targets : Type 0 where
  pub listened : FinMap nat_cmp Listened
  -- the resume token of the last snapshot, with which those targets go on that it has
  pub token : Option (List ℕ)
  -- why the server refused those that it refused
  pub causes : FinMap nat_cmp Cause
  -- the greatest id that was ever listened to, and 0 before the first
  pub last : ℕ
  -- so many may be listened to
  pub limit : ℕ

-- the present link
pub record Link : Type 0 where
  -- the request that opened or resumed the stream was answered
  pub greeted : Bool
  -- a snapshot was taken on it
  pub raised : Bool

pub record Hand : Type 0 where
  -- the client's write stream, once it was opened
  pub stream : Option ℕ
  -- so many of its batches are finished, as far as the client knows
  pub token : ℕ
  pub link : Option Link
  -- what is to be sent on the link, the first first, batches aside
  pub out : List Envelope

pub record Client : Type 0 where
  pub root : Root
  pub cache : Cached
  pub targets : Targets
  pub queue : Queue
  pub hand : Hand
  -- the oldest first
  pub refusals : List BatchRefusal

abbrev pub none_listened : ℕ → Targets
none_listened limit = record { listened = empty; token = None; causes = empty; last = 0; limit = limit }

abbrev pub empty_hand : Hand
empty_hand = record { stream = None; token = 0; link = None; out = [] }

-- a client of a database, which may listen to so many targets and have so many batches
abbrev pub start : Root → ℕ → ℕ → Client
start root targets batches =
    record { root = root; cache = none_cached; targets = none_listened targets; queue = none_queued batches; hand = empty_hand; refusals = [] }
