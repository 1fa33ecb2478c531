-- The batches of a client, in their order: those that are acknowledged and not covered by a snapshot, and behind them those that aren't
-- answered, of which the first may be sent. Their numbers count from 1, and none is given twice.
--
--     batch                    acknowledged      not answered
--     1 and 2 are written                        1, 2
--     1 is sent                                  1 (sent), 2
--     the link is lost                           1, 2
--     1 is committed at 7      1 (at 7)          2
--     2 is refused             1 (at 7)
--     a snapshot is at 7
-- (Cloud Firestore documentation, "Access data offline".)
use Rattle.std.specs.Prelude.{ℕ, suc, ◌+◌, ◌-◌, ◌==◌, ◌&&◌, ℤ, int_lt, nat_le, Bool, true, false, List, [], ◌∷◌, ◌++◌, map, length, drop, Option, Some, None, if◌then◌else◌, slice_get, option_map, refl}
use Rattle.std.specs.Coded.{Coded, code_by, coded×, coded_bool, coded_list, coded_ℕ}
use Rattle.std.specs.List.{filter, list_any}
use Rattle.fs_path.specs.declared.name.DocName.{DocName}
use Rattle.fs_write.specs.WrittenName.{is_written}
use Rattle.fs_write.specs.declared.write.Write.{Write}
use Rattle.fs_queue.specs.contracts.batch.Acknowledged as acked
use Rattle.fs_queue.specs.contracts.batch.LocalBatch as local
use Rattle.fs_queue.specs.declared.batch.Acknowledged.{Acknowledged}
use Rattle.fs_queue.specs.declared.batch.LocalBatch.{LocalBatch}
use Rattle.fs_queue.specs.declared.batch.Phase.{Phase}
use Rattle.fs_queue.specs.declared.batch.Phase.TheVariants as phase

pub record Queue : Type 0 where
  -- so many may there be
  pub limit : ℕ
  -- the last number that was given
  pub given : ℕ
  -- the oldest first
  pub acknowledged : List Acknowledged
  -- the oldest first
  pub unanswered : List LocalBatch
  -- whether the first of those is sent
  pub sent : Bool

-- they are stored as the tuple of their parts
abbrev pub queue_code : Coded Queue
queue_code =
    code_by (ℕ × (ℕ × (List Acknowledged × (List LocalBatch × Bool)))) (coded× coded_ℕ (coded× coded_ℕ (coded× (coded_list acked.the_row.coded) (coded× (coded_list local.the_row.coded) coded_bool))))
    (λ q. (q.limit, (q.given, (q.acknowledged, (q.unanswered, q.sent)))))
    (λ p. record { limit = p.0; given = p.1.0; acknowledged = p.1.1.0; unanswered = p.1.1.1.0; sent = p.1.1.1.1 })
    (λ _. refl)

abbrev pub none_queued : ℕ → Queue
none_queued limit = record { limit = limit; given = 0; acknowledged = []; unanswered = []; sent = false }

-- all of them, in their order
abbrev pub batches : Queue → List LocalBatch
batches q = map (λ (a : Acknowledged). a.batch) q.acknowledged ++ q.unanswered

-- a write of one of them names a document
abbrev pub is_named : DocName → List LocalBatch → Bool
is_named name bs = list_any (λ (b : LocalBatch). is_written name b.writes) bs

-- ---- numbers

-- that of the oldest that isn't answered, as their numbers follow each other up to the last that was given
abbrev pub oldest_in : ℕ → List LocalBatch → Option ℕ
oldest_in given [] = None
oldest_in given (b ∷ bs) = Some (given - length bs)

abbrev pub oldest_of : Queue → Option ℕ
oldest_of q = oldest_in q.given q.unanswered

-- the one to be sent next: one at a time
abbrev pub next_of : Queue → Option ℕ
next_of q = if q.sent then None else oldest_of q

-- the place of a number among those that aren't answered
abbrev pub place_of : Queue → ℕ → ℕ
place_of q n = n + length q.unanswered - suc q.given

-- a number is that of one that isn't answered
abbrev pub is_unanswered : Queue → ℕ → Bool
is_unanswered q n = nat_le n q.given && nat_le (suc q.given) (n + length q.unanswered)

-- the writes of one that isn't answered, by its place
abbrev pub writes_in : ℕ → List LocalBatch → Option (List Write)
writes_in place bs = option_map (λ (b : LocalBatch). b.writes) (slice_get bs place)

-- ---- how far one is

abbrev pub phase_in : List Acknowledged → ℕ → Option Phase
phase_in [] n = None
phase_in (a ∷ older) n = if a.number == n then Some (phase.Acknowledged a.at) else phase_in older n

abbrev pub phase_of : Queue → ℕ → Option Phase
phase_of q n =
    if is_unanswered q n then Some (if q.sent && place_of q n == 0 then phase.Sent else phase.Waiting)
    else phase_in q.acknowledged n

-- ---- what becomes of them

abbrev pub pushed : List Write → ℤ → Queue → Queue
pushed ws moment q = record q { given = suc q.given; unanswered = q.unanswered ++ record { writes = ws; moment = moment } ∷ [] }

abbrev pub sent_on : Queue → Queue
sent_on q = record q { sent = true }

-- the oldest that isn't answered is so now, and was committed at a time
abbrev pub acknowledged_of : ℕ → ℤ → List LocalBatch → List Acknowledged
acknowledged_of given at [] = []
acknowledged_of given at (b ∷ bs) = record { number = given - length bs; batch = b; at = at } ∷ []

abbrev pub acknowledged_at : ℤ → Queue → Queue
acknowledged_at at q = record q { acknowledged = q.acknowledged ++ acknowledged_of q.given at q.unanswered; unanswered = drop 1 q.unanswered; sent = false }

-- it was refused, and is gone
abbrev pub refused_oldest : Queue → Queue
refused_oldest q = record q { unanswered = drop 1 q.unanswered; sent = false }

-- what was sent and isn't answered waits again
abbrev pub with_link_lost : Queue → Queue
with_link_lost q = record q { sent = false }

-- a snapshot of a time has the effects of what was committed by then
abbrev pub is_uncovered : ℤ → Acknowledged → Bool
is_uncovered t a = int_lt t a.at

abbrev pub covered_to : ℤ → Queue → Queue
covered_to t q = record q { acknowledged = filter (is_uncovered t) q.acknowledged }
