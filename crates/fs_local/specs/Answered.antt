-- What a client makes of an answer on its write stream. The first on a link ends its greeting. A response to a batch counts where its token is
-- one above the client's: the oldest batch that isn't answered is acknowledged or refused by it. Any other changes nothing, as one that is
-- given again.
use Rattle.std.specs.Prelude.{ℕ, suc, ◌==◌, ℤ, true, List, [], ◌∷◌, ◌++◌, Option, Some, None, if◌then◌else◌}
use Rattle.std.specs.FinMap.{len}
use Rattle.fs_status.specs.declared.code.Code.{Code}
use Rattle.fs_request.specs.declared.message.StreamAnswer.{StreamAnswer}
use Rattle.fs_request.specs.declared.message.StreamAnswer.TheVariants as told
use Rattle.fs_cache.specs.Cached.{Cached, taken_at}
use Rattle.fs_queue.specs.Queue.{Queue, acknowledged_at, covered_to, oldest_of, refused_oldest}
use Rattle.fs_local.specs.State.{Client, Hand, Link, Targets}

abbrev pub greeted_link : Option Link → Option Link
greeted_link None = None
greeted_link (Some link) = Some (record link { greeted = true })

abbrev pub greeted : Client → Client
greeted c = record c { hand = record c.hand { link = greeted_link c.hand.link } }

-- the stream that was opened
abbrev pub opened_in : Option ℕ → ℕ → ℕ → Hand → Hand
opened_in None stream token h = record h { stream = Some stream; token = token }
opened_in (Some own) stream token h = h

abbrev pub opened : ℕ → ℕ → Client → Client
opened stream token c = record c { hand = opened_in c.hand.stream stream token c.hand }

-- ---- a response that counts

abbrev pub counted : Client → Client
counted c = record c { hand = record c.hand { token = suc c.hand.token } }

-- what a snapshot covers goes
abbrev pub covered_by : Option ℤ → Queue → Queue
covered_by None q = q
covered_by (Some time) q = covered_to time q

-- Where nothing is listened to, no snapshot comes that could have the batch: the client's time becomes that of the commit.
abbrev pub snapshot_by : ℤ → Targets → Cached → Cached
snapshot_by time ts cache = if len ts.listened == 0 then taken_at time cache else cache

abbrev pub settled : ℤ → Client → Client
settled time c = record c {
  cache = snapshot_by time c.targets c.cache;
  queue = covered_by (snapshot_by time c.targets c.cache).snapshot (acknowledged_at time c.queue);
}

abbrev pub committed_in : Option ℕ → ℤ → Client → Client
committed_in None time c = c
committed_in (Some n) time c = settled time c

abbrev pub refused_in : Option ℕ → Code → List ℕ → Client → Client
refused_in None code message c = c
refused_in (Some n) code message c =
    record c { queue = refused_oldest c.queue; refusals = c.refusals ++ record { batch = n; code = code; message = message } ∷ [] }

abbrev pub answered : ℕ → ℕ → StreamAnswer → Client → Client
answered stream token told.Stands c = opened stream token c
answered stream token (told.Committed time results) c = if token == suc c.hand.token then committed_in (oldest_of c.queue) time (counted c) else c
answered stream token (told.Refused code message) c = if token == suc c.hand.token then refused_in (oldest_of c.queue) code message (counted c) else c
