-- Each step of a client keeps what is true of each message under way to its stream and back, whatever is lost.
use Rattle.std.proofs.Common.{◌≡◌, ◌≢◌, ℕ, suc, ◌+◌, ◌==◌, ◌<◌, ◌≤◌, ◌⊎◌, inl, inr, ℤ, Bool, true, false, cond, List, [], ◌∷◌, ◌++◌, map, Option, Some, None, refl, sym, ap, ◌∙◌, subst, arith}
use Rattle.std.specs.Prelude.{◌&&◌, not}
use Rattle.std.specs.FinMap.{entries}
use Rattle.std.specs.List.{AllByRecursion}
use Rattle.std.proofs.lemmas.Bool.Decides.{nat_tests}
use Rattle.fs_path.specs.declared.name.Root.{Root}
use Rattle.fs_request.specs.declared.message.Message.{Message}
use Rattle.fs_request.specs.declared.message.Message.TheVariants as message
use Rattle.fs_request.specs.declared.message.StreamAnswer.{StreamAnswer}
use Rattle.fs_request.specs.declared.message.StreamAnswer.TheVariants as told
use Rattle.fs_request.specs.declared.request.Envelope.{Envelope}
use Rattle.fs_request.specs.declared.request.Request.{Request}
use Rattle.fs_request.specs.declared.request.Request.TheVariants as request
use Rattle.fs_request.specs.declared.stream_request.StreamRequest.{StreamRequest}
use Rattle.fs_request.specs.declared.stream_request.StreamRequest.TheVariants as asked
use Rattle.fs_write.specs.declared.write.Write.{Write}
use Rattle.fs_queue.specs.declared.batch.LocalBatch.{LocalBatch}
use Rattle.fs_queue.specs.Queue.{Queue}
use Rattle.fs_local.specs.Answered.{opened_in}
use Rattle.fs_local.specs.Ask.{asking, greeting, out_on}
use Rattle.fs_local.specs.Connect.{add_entry, greetings}
use Rattle.fs_local.specs.Exchange.{Exchange, DownFits, FitsClient, FitsStream, IsNext, IsStanding, Standing, Stream, UpFits, UpFitsAs, ahead, busy, even, is_response}
use Rattle.fs_local.specs.State.{Hand, Link, Targets}
use Rattle.fs_local.specs.TakeOut.{batch_out, first_batch, is_greeted, with_batch}
use Rattle.fs_local.specs.declared.listened.Listened.{Listened}

-- ---- lists

all_more : {X : Type 0} (P : X → Type 0) (xs ys : List X) → AllByRecursion P xs → AllByRecursion P ys → AllByRecursion P (xs ++ ys)
all_more P [] ys all more = more
all_more P (x ∷ xs) ys (one, all) more = (one, all_more P xs ys all more)

all_alike : {X : Type 0} (P Q : X → Type 0) → ((x : X) → P x → Q x) → (xs : List X) → AllByRecursion P xs → AllByRecursion Q xs
all_alike P Q goes [] all = tt
all_alike P Q goes (x ∷ xs) (one, all) = (goes x one, all_alike P Q goes xs all)

-- ---- a batch more

next_more : (ws : List Write) (bs : List LocalBatch) (b : LocalBatch) → IsNext ws bs → IsNext ws (bs ++ b ∷ [])
next_more ws [] b next = absurd next
next_more ws (c ∷ bs) b next = next

some_more : (bs : List LocalBatch) (b : LocalBatch) → (bs ++ b ∷ []) ≢ []
some_more [] b none = cc
some_more (c ∷ bs) b none = cc

standing_more : (x : Standing) (s : Stream) (token : ℕ) (bs : List LocalBatch) (b : LocalBatch) → IsStanding x s token bs → IsStanding x s token (bs ++ b ∷ [])
standing_more even s token bs b is = is
standing_more (busy ws) s token bs b (count, current, next) = (count, current, next_more ws bs b next)
standing_more (ahead answer) s token bs b (count, current, kept, some) = (count, current, kept, some_more bs b)

batch_more : (token k : ℕ) (ws : List Write) (bs : List LocalBatch) (b : LocalBatch) → FitsStream token bs (asked.Batch k ws) → FitsStream token (bs ++ b ∷ []) (asked.Batch k ws)
batch_more token k ws bs b (inl below) = inl below
batch_more token k ws bs b (inr (is, next)) = inr (is, next_more ws bs b next)

stream_more : (token : ℕ) (bs : List LocalBatch) (b : LocalBatch) (r : StreamRequest) → FitsStream token bs r → FitsStream token (bs ++ b ∷ []) r
stream_more token bs b (asked.Batch k ws) fits = batch_more token k ws bs b fits
stream_more token bs b (asked.Resume stream k) fits = fits
stream_more token bs b asked.Open fits = tt
stream_more token bs b (asked.Ask k) fits = tt
stream_more token bs b (asked.Mixed stream k ws) fits = tt

request_more : (token : ℕ) (bs : List LocalBatch) (b : LocalBatch) (r : Request) → UpFitsAs token bs r → UpFitsAs token (bs ++ b ∷ []) r
request_more token bs b (request.Write database r) fits = stream_more token bs b r fits
request_more token bs b _ fits = tt

ups_more : (token : ℕ) (bs : List LocalBatch) (b : LocalBatch) (es : List Envelope) → AllByRecursion (UpFits token bs) es → AllByRecursion (UpFits token (bs ++ b ∷ [])) es
ups_more token bs b es all = all_alike (UpFits token bs) (UpFits token (bs ++ b ∷ [])) (λ e fits. request_more token bs b e.request fits) es all

pub exchange_wrote : (s : Stream) (x : Standing) (h : Hand) (bs : List LocalBatch) (b : LocalBatch) (up : List Envelope) (down : List Message)
    → Exchange s x h bs up down → Exchange s x h (bs ++ b ∷ []) up down
exchange_wrote s x h bs b up down e = record {
  standing = standing_more x s h.token bs b e.standing;
  unopened = e.unopened;
  waiting = ups_more h.token bs b h.out e.waiting;
  ups = ups_more h.token bs b up e.ups;
  downs = e.downs;
}

-- ---- a batch is answered: those that were sent are behind it

batch_answered : (token k : ℕ) (ws : List Write) (bs rest : List LocalBatch) → FitsStream token bs (asked.Batch k ws) → FitsStream (suc token) rest (asked.Batch k ws)
batch_answered token k ws bs rest (inl below) = inl (omega arith)
batch_answered token k ws bs rest (inr (is, next)) = inl (omega arith)

stream_answered : (token : ℕ) (bs rest : List LocalBatch) (r : StreamRequest) → FitsStream token bs r → FitsStream (suc token) rest r
stream_answered token bs rest (asked.Batch k ws) fits = batch_answered token k ws bs rest fits
stream_answered token bs rest (asked.Resume stream k) fits = omega arith
stream_answered token bs rest asked.Open fits = tt
stream_answered token bs rest (asked.Ask k) fits = tt
stream_answered token bs rest (asked.Mixed stream k ws) fits = tt

request_answered : (token : ℕ) (bs rest : List LocalBatch) (r : Request) → UpFitsAs token bs r → UpFitsAs (suc token) rest r
request_answered token bs rest (request.Write database r) fits = stream_answered token bs rest r fits
request_answered token bs rest _ fits = tt

ups_answered : (token : ℕ) (bs rest : List LocalBatch) (es : List Envelope) → AllByRecursion (UpFits token bs) es → AllByRecursion (UpFits (suc token) rest) es
ups_answered token bs rest es all = all_alike (UpFits token bs) (UpFits (suc token) rest) (λ e fits. request_answered token bs rest e.request fits) es all

response_answered : (x : Standing) (token k : ℕ) (answer : StreamAnswer) (response : Bool) → FitsClient x token k answer response → FitsClient even (suc token) k answer response
response_answered x token k answer false fits = omega arith
response_answered x token k answer true (inl below) = inl (omega arith)
response_answered x token k answer true (inr (is, front)) = inl (omega arith)

down_answered : (x : Standing) (token : ℕ) (m : Message) → DownFits x token m → DownFits even (suc token) m
down_answered x token (message.Write stream k answer) fits = response_answered x token k answer (is_response answer) fits
down_answered x token _ fits = tt

downs_answered : (x : Standing) (token : ℕ) (ms : List Message) → AllByRecursion (DownFits x token) ms → AllByRecursion (DownFits even (suc token)) ms
downs_answered x token ms all = all_alike (DownFits x token) (DownFits even (suc token)) (down_answered x token) ms all

-- the stream is even with its client again
pub exchange_answered : (s : Stream) (x : Standing) (h : Hand) (bs rest : List LocalBatch) (up : List Envelope) (stream : ℕ) (answer : StreamAnswer) (down : List Message)
    → is_response answer ≡ true → Exchange s x h bs up (message.Write stream (suc h.token) answer ∷ down)
    → Exchange s even (record h { token = suc h.token }) rest up down
exchange_answered s x h bs rest up stream answer down response e = record {
  standing = stands front;
  unopened = λ none. absurd (never front (e.unopened none).1);
  waiting = ups_answered h.token bs rest h.out e.waiting;
  ups = ups_answered h.token bs rest up e.ups;
  downs = downs_answered x h.token down e.downs.1;
} where
  front : FitsClient x h.token (suc h.token) answer true
  front = let P : Bool → Type 0 = FitsClient x h.token (suc h.token) answer in subst P response e.downs.0

  never : FitsClient x h.token (suc h.token) answer true → x ≡ even → ⊥
  never (inl below) is = omega arith
  never (inr (next, at)) is = cc

  -- it is ahead by that answer
  stands : FitsClient x h.token (suc h.token) answer true → IsStanding even s (suc h.token) rest
  stands (inl below) = absurd (omega arith)
  stands (inr (next, at)) = let is = (let P : Standing → Type 0 = λ y. IsStanding y s h.token bs in subst P at e.standing) in (is.0, is.1)

-- ---- the hand

-- one request more is to be sent
pub exchange_asking : (s : Stream) (x : Standing) (h : Hand) (bs : List LocalBatch) (e : Envelope) (up : List Envelope) (down : List Message)
    → UpFits h.token bs e → Exchange s x h bs up down → Exchange s x (asking e h) bs up down
exchange_asking s x h bs e up down fits was = record {
  standing = was.standing;
  unopened = was.unopened;
  waiting = waits h.link;
  ups = was.ups;
  downs = was.downs;
} where
  waits : (link : Option Link) → AllByRecursion (UpFits h.token bs) (out_on link h.out e)
  waits None = was.waiting
  waits (Some link) = all_more (UpFits h.token bs) h.out (e ∷ []) was.waiting (fits, tt)

-- with another link, and what is to be sent on it
pub exchange_linked : (s : Stream) (x : Standing) (h : Hand) (bs : List LocalBatch) (link : Option Link) (out : List Envelope) (up : List Envelope) (down : List Message)
    → AllByRecursion (UpFits h.token bs) out → Exchange s x h bs up down → Exchange s x (record h { link = link; out = out }) bs [] []
exchange_linked s x h bs link out up down fits was = record { standing = was.standing; unopened = was.unopened; waiting = fits; ups = tt; downs = tt }

greeting_fits : (token : ℕ) (bs : List LocalBatch) (stream : Option ℕ) → FitsStream token bs (greeting stream token)
greeting_fits token bs None = tt
greeting_fits token bs (Some stream) = omega arith

adds_fit : (root : Root) (token : Option (List ℕ)) (k : ℕ) (bs : List LocalBatch) (es : List (ℕ × Listened)) → AllByRecursion (UpFits k bs) (map (add_entry root token) es)
adds_fit root token k bs [] = tt
adds_fit root token k bs (e ∷ es) = (tt, adds_fit root token k bs es)

pub greetings_fit : (root : Root) (ts : Targets) (h : Hand) (bs : List LocalBatch) → AllByRecursion (UpFits h.token bs) (greetings root ts h)
greetings_fit root ts h bs = (greeting_fits h.token bs h.stream, adds_fit root ts.token h.token bs (entries ts.listened))

-- what is to be sent is sent, and a batch with it
first_fits : (root : Root) (token : ℕ) (bs : List LocalBatch) (out : List Envelope) → AllByRecursion (UpFits token bs) out → AllByRecursion (UpFits token bs) (with_batch out (first_batch root token bs))
first_fits root token [] out all = all
first_fits root token (b ∷ bs) out all = all_more (UpFits token (b ∷ bs)) out _ all (inr (refl, refl), tt)

batch_fits : (root : Root) (token : ℕ) (bs : List LocalBatch) (out : List Envelope) (may : Bool) → AllByRecursion (UpFits token bs) out
    → AllByRecursion (UpFits token bs) (with_batch out (cond may (first_batch root token bs) None))
batch_fits root token bs out true all = first_fits root token bs out all
batch_fits root token bs out false all = all

pub exchange_sent : (s : Stream) (x : Standing) (root : Root) (h : Hand) (q : Queue) (up : List Envelope) (down : List Message)
    → Exchange s x h q.unanswered up down → Exchange s x (record h { out = [] }) q.unanswered (up ++ with_batch h.out (batch_out root h q)) down
exchange_sent s x root h q up down was = record {
  standing = was.standing;
  unopened = was.unopened;
  waiting = tt;
  ups = all_more (UpFits h.token q.unanswered) up _ was.ups (batch_fits root h.token q.unanswered h.out (is_greeted h.link && not q.sent) was.waiting);
  downs = was.downs;
}

-- ---- what is received

-- nothing that is told of batches
pub exchange_told : (s : Stream) (x : Standing) (h : Hand) (link : Option Link) (bs : List LocalBatch) (up : List Envelope) (m : Message) (down : List Message)
    → Exchange s x h bs up (m ∷ down) → Exchange s x (record h { link = link }) bs up down
exchange_told s x h link bs up m down was = record { standing = was.standing; unopened = was.unopened; waiting = was.waiting; ups = was.ups; downs = was.downs.1 }

-- the stream is known
pub exchange_opened : (s : Stream) (x : Standing) (h : Hand) (bs : List LocalBatch) (up : List Envelope) (stream token : ℕ) (down : List Message)
    → Exchange s x h bs up (message.Write stream token told.Stands ∷ down) → Exchange s x (opened_in h.stream stream token h) bs up down
exchange_opened s x h bs up stream token down was = by_stream h.stream refl where
  by_stream : (own : Option ℕ) → h.stream ≡ own → Exchange s x (opened_in own stream token h) bs up down
  by_stream (Some own) is = record { standing = was.standing; unopened = was.unopened; waiting = was.waiting; ups = was.ups; downs = was.downs.1 }
  by_stream None is =
      let zero : h.token ≡ 0 = (was.unopened is).0 in
      let below : token ≤ h.token = was.downs.0 in
      let same : h.token ≡ token = omega arith in
      record {
        standing = subst (λ (k : ℕ). IsStanding x s k bs) same was.standing;
        unopened = λ none. absurd (cc);
        waiting = subst (λ (k : ℕ). AllByRecursion (UpFits k bs) h.out) same was.waiting;
        ups = subst (λ (k : ℕ). AllByRecursion (UpFits k bs) up) same was.ups;
        downs = subst (λ (k : ℕ). AllByRecursion (DownFits x k) down) same was.downs.1;
      }
