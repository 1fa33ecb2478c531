-- What is true of each message under way between a client and its write stream, whatever is lost or sent again. The stream has finished as many
-- batches as the client knows of, and may be at work on the next; or it has finished one more, whose response the client doesn't have yet. So
-- each batch counts once, and nothing need be known of the order of messages.
--
--     the client's token   its batches   the stream has                  under way to it       under way back
--     2                    3, 4          finished 2                      3 with token 2
--     2                    3, 4          finished 2; 3 is in progress    3 with token 2, again
--     2                    3, 4          finished 3                      a resumption from 2   the response to 3, with token 3
--     3                    4             finished 3                      3 with token 2, late  the response to 3, once more
-- (v1 reference, `WriteRequest.stream_token`.)
use Rattle.std.specs.Prelude.{◌≡◌, ◌≢◌, ◌<◌, ◌≤◌, ◌⊎◌, ⊤, ℕ, suc, Bool, true, false, List, [], ◌∷◌, ◌++◌, drop, Option, Some, None}
use Rattle.std.specs.List.{AllByRecursion}
use Rattle.fs_request.specs.declared.message.Message.{Message}
use Rattle.fs_request.specs.declared.message.Message.TheVariants as message
use Rattle.fs_request.specs.declared.message.StreamAnswer.{StreamAnswer}
use Rattle.fs_request.specs.declared.message.StreamAnswer.TheVariants as told
use Rattle.fs_request.specs.declared.request.Envelope.{Envelope}
use Rattle.fs_request.specs.declared.request.Request.{Request}
use Rattle.fs_request.specs.declared.request.Request.TheVariants as request
use Rattle.fs_request.specs.declared.stream_request.StreamRequest.{StreamRequest}
use Rattle.fs_request.specs.declared.stream_request.StreamRequest.TheVariants as asked
use Rattle.fs_write.specs.declared.write.Write.{Write}
use Rattle.fs_queue.specs.declared.batch.LocalBatch.{LocalBatch}
use Rattle.fs_local.specs.Runs.{Step, after, connects, listens, loses, receives, sends, tells, unlistens, writes}
use Rattle.fs_local.specs.State.{Client, Hand}
use Rattle.fs_local.specs.TakeOut.{out_of}

-- a write stream, as far as its client may know
pub record Stream : Type 0 where
  -- so many batches are finished
  pub finished : ℕ
  -- the writes of the batch in progress
  pub current : Option (List Write)
  -- what became of the last that is finished
  pub kept : Option StreamAnswer

-- these are the writes of the oldest batch that isn't answered
abbrev pub IsNext : List Write → List LocalBatch → Type 0
IsNext ws [] = ⊥
IsNext ws (b ∷ bs) = b.writes ≡ ws

-- it tells what became of a batch
abbrev pub is_response : StreamAnswer → Bool
is_response told.Stands = false
is_response (told.Committed time results) = true
is_response (told.Refused code text) = true

-- how a stream stands to its client: even with it, at work on its next batch, or ahead of it by one response
pub data Standing : Type 0 where
  even : Standing
  busy : List Write → Standing
  ahead : StreamAnswer → Standing

abbrev pub IsStanding : Standing → Stream → ℕ → List LocalBatch → Type 0
IsStanding even s token bs = (s.finished ≡ token) × (s.current ≡ None)
IsStanding (busy ws) s token bs = (s.finished ≡ token) × (s.current ≡ Some ws) × IsNext ws bs
IsStanding (ahead answer) s token bs = (s.finished ≡ suc token) × (s.current ≡ None) × (s.kept ≡ Some answer) × (bs ≢ [])

-- ---- to the stream

abbrev pub FitsStream : ℕ → List LocalBatch → StreamRequest → Type 0
FitsStream token bs (asked.Batch k ws) = (k < token) ⊎ ((k ≡ token) × IsNext ws bs)
FitsStream token bs (asked.Resume stream k) = k ≤ token
FitsStream token bs asked.Open = ⊤
FitsStream token bs (asked.Ask k) = ⊤
FitsStream token bs (asked.Mixed stream k ws) = ⊤

abbrev pub UpFitsAs : ℕ → List LocalBatch → Request → Type 0
UpFitsAs token bs (request.Write database r) = FitsStream token bs r
UpFitsAs token bs _ = ⊤

abbrev pub UpFits : ℕ → List LocalBatch → Envelope → Type 0
UpFits token bs e = UpFitsAs token bs e.request

-- ---- and back

abbrev pub FitsClient : Standing → ℕ → ℕ → StreamAnswer → Bool → Type 0
FitsClient x token k answer false = k ≤ token
FitsClient x token k answer true = (k ≤ token) ⊎ ((k ≡ suc token) × (x ≡ ahead answer))

abbrev pub DownFits : Standing → ℕ → Message → Type 0
DownFits x token (message.Write stream k answer) = FitsClient x token k answer (is_response answer)
DownFits x token _ = ⊤

-- ---- all of it

-- of a stream and its client's hand and batches; what is under way to the stream, and back
pub record Exchange (s : Stream) (x : Standing) (h : Hand) (bs : List LocalBatch) (up : List Envelope) (down : List Message) : Type 0 where
  pub standing : IsStanding x s h.token bs
  -- before it knows its stream, it knows of no batch that is finished, and no batch was sent
  pub unopened : h.stream ≡ None → (h.token ≡ 0) × (x ≡ even)
  pub waiting : AllByRecursion (UpFits h.token bs) h.out
  pub ups : AllByRecursion (UpFits h.token bs) up
  pub downs : AllByRecursion (DownFits x h.token) down

-- what a step of the client makes of what is under way to the stream
abbrev pub up_after : Step → Client → List Envelope → List Envelope
up_after sends c up = up ++ out_of c
up_after connects c up = []
up_after loses c up = []
up_after (receives m) c up = up
up_after (listens id t) c up = up
up_after (unlistens id) c up = up
up_after (writes ws moment) c up = up
up_after tells c up = up

-- and of what is under way back, of which it receives the first
abbrev pub down_after : Step → List Message → List Message
down_after (receives m) down = drop 1 down
down_after connects down = []
down_after loses down = []
down_after sends down = down
down_after (listens id t) down = down
down_after (unlistens id) down = down
down_after (writes ws moment) down = down
down_after tells down = down

abbrev pub ReceivesFirst : Step → List Message → Type 0
ReceivesFirst (receives m) [] = ⊥
ReceivesFirst (receives m) (first ∷ rest) = first ≡ m
ReceivesFirst _ down = ⊤

-- whatever a client does, and whatever it receives or loses, what is true of each message under way stays so
abbrev pub ExchangeStays : Type 0
ExchangeStays = (s : Stream) (x : Standing) (c : Client) (up : List Envelope) (down : List Message) (step : Step) → ReceivesFirst step down
    → Exchange s x c.hand c.queue.unanswered up down
    → (y : Standing) × Exchange s y (after step c).hand (after step c).queue.unanswered (up_after step c up) (down_after step down)
