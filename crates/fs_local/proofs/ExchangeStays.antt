-- So what is true of each message under way stays so through every step of a client.
use Rattle.std.proofs.Common.{◌≡◌, ◌≢◌, ℕ, suc, ◌≤◌, ◌⊎◌, inl, inr, ℤ, Bool, true, false, cond, List, [], ◌∷◌, ◌++◌, drop, Option, Some, None, refl, sym, ap, subst, arith}
use Rattle.std.specs.Prelude.{◌==◌}
use Rattle.std.proofs.lemmas.Bool.Decides.{nat_tests}
use Rattle.fs_query.specs.declared.listen.ListenMessage.{ListenMessage}
use Rattle.fs_query.specs.declared.listen.ListenMessage.TheVariants as listen
use Rattle.fs_query.specs.declared.listen.Cause.{Cause}
use Rattle.fs_request.specs.declared.message.Message.{Message}
use Rattle.fs_request.specs.declared.message.Message.TheVariants as message
use Rattle.fs_request.specs.declared.message.StreamAnswer.{StreamAnswer}
use Rattle.fs_request.specs.declared.message.StreamAnswer.TheVariants as told_of
use Rattle.fs_request.specs.declared.request.Envelope.{Envelope}
use Rattle.fs_queue.specs.declared.batch.LocalBatch.{LocalBatch}
use Rattle.fs_queue.specs.Queue.{Queue, acknowledged_at, oldest_in, oldest_of, refused_oldest}
use Rattle.fs_status.specs.declared.code.Code.{Code}
use Rattle.fs_local.specs.Answered.{answered, committed_in, counted, covered_by, greeted, greeted_link, refused_in, snapshot_by}
use Rattle.fs_local.specs.Ask.{add_request, remove_request}
use Rattle.fs_local.specs.Connect.{greetings}
use Rattle.fs_local.specs.Exchange.{Exchange, ExchangeStays, FitsClient, IsStanding, ReceivesFirst, Standing, Stream, even, is_response}
use Rattle.fs_local.specs.Raise.{may_raise, raised, raised_link, told_unchanged}
use Rattle.fs_local.specs.Receive.{received}
use Rattle.fs_local.specs.Runs.{Step, after, connects, listens, loses, receives, sends, tells, unlistens, writes}
use Rattle.fs_local.specs.State.{Client, Hand, Link}
use Rattle.fs_local.specs.TakeOut.{batch_out, out_of, sent_if}
use Rattle.fs_local.specs.Told.{told, told_removed}
use Rattle.fs_local.proofs.Exchanging.{exchange_answered, exchange_asking, exchange_linked, exchange_opened, exchange_sent, exchange_told, exchange_wrote, greetings_fit}

-- ---- batches that stay

sent_stays : (o : Option Envelope) (q : Queue) → (sent_if o q).unanswered ≡ q.unanswered
sent_stays None q = refl
sent_stays (Some e) q = refl

covered_stays : (snapshot : Option ℤ) (q : Queue) → (covered_by snapshot q).unanswered ≡ q.unanswered
covered_stays None q = refl
covered_stays (Some time) q = refl

none_left : (given : ℕ) (bs : List LocalBatch) → oldest_in given bs ≡ None → bs ≡ []
none_left given [] none = refl
none_left given (b ∷ bs) none = absurd (cc)

-- ---- what is received

module _ (s : Stream) (x : Standing) (up : List Envelope) (down : List Message) where
  abbrev Goes : Hand → List LocalBatch → Type 0
  Goes h bs = (y : Standing) × Exchange s y h bs up down

  relinked : (h : Hand) (link : Option Link) (bs : List LocalBatch) (ms : List Message) → Exchange s x h bs up ms → Exchange s x (record h { link = link }) bs up ms
  relinked h link bs ms was = record { standing = was.standing; unopened = was.unopened; waiting = was.waiting; ups = was.ups; downs = was.downs }

  passed_over : (h : Hand) (bs : List LocalBatch) (m : Message) → Exchange s x h bs up (m ∷ down) → Goes h bs
  passed_over h bs m was = (x, record { standing = was.standing; unopened = was.unopened; waiting = was.waiting; ups = was.ups; downs = was.downs.1 })

  -- where one is answered, there is one
  some_batch : (h : Hand) (bs : List LocalBatch) (stream : ℕ) (answer : StreamAnswer) → is_response answer ≡ true → Exchange s x h bs up (message.Write stream (suc h.token) answer ∷ down) → bs ≢ []
  some_batch h bs stream answer response was = let P : Bool → Type 0 = FitsClient x h.token (suc h.token) answer in by_front (subst P response was.downs.0) where
    by_front : FitsClient x h.token (suc h.token) answer true → bs ≢ []
    by_front (inl below) = absurd (omega arith)
    by_front (inr (next, at)) = let is = (let P : Standing → Type 0 = λ y. IsStanding y s h.token bs in subst P at was.standing) in is.3

  module _ (c : Client) where
    committed : (time : ℤ) (stream : ℕ) (answer : StreamAnswer) (o : Option ℕ) → oldest_of c.queue ≡ o → is_response answer ≡ true
        → Exchange s x c.hand c.queue.unanswered up (message.Write stream (suc c.hand.token) answer ∷ down)
        → Goes (committed_in o time (counted c)).hand (committed_in o time (counted c)).queue.unanswered
    committed time stream answer None none response was = absurd (some_batch c.hand c.queue.unanswered stream answer response was (none_left c.queue.given c.queue.unanswered none))
    committed time stream answer (Some n) is response was =
        let snapshot = (snapshot_by time c.targets c.cache).snapshot in
        let now = exchange_answered s x c.hand c.queue.unanswered (drop 1 c.queue.unanswered) up stream answer down response was in
        (even, subst (λ (bs : List LocalBatch). Exchange s even (record c.hand { token = suc c.hand.token }) bs up down) (sym (covered_stays snapshot (acknowledged_at time c.queue))) now)

    refused : (code : Code) (text : List ℕ) (stream : ℕ) (answer : StreamAnswer) (o : Option ℕ) → oldest_of c.queue ≡ o → is_response answer ≡ true
        → Exchange s x c.hand c.queue.unanswered up (message.Write stream (suc c.hand.token) answer ∷ down)
        → Goes (refused_in o code text (counted c)).hand (refused_in o code text (counted c)).queue.unanswered
    refused code text stream answer None none response was = absurd (some_batch c.hand c.queue.unanswered stream answer response was (none_left c.queue.given c.queue.unanswered none))
    refused code text stream answer (Some n) is response was = (even, exchange_answered s x c.hand c.queue.unanswered (drop 1 c.queue.unanswered) up stream answer down response was)

    answers : (stream token : ℕ) (answer : StreamAnswer) → Exchange s x c.hand c.queue.unanswered up (message.Write stream token answer ∷ down)
        → Goes (answered stream token answer c).hand (answered stream token answer c).queue.unanswered
    answers stream token told_of.Stands was = (x, exchange_opened s x c.hand c.queue.unanswered up stream token down was)
    answers stream token (told_of.Committed time results) was = by_test (token == suc c.hand.token) refl where
      by_test : (next : Bool) → (token == suc c.hand.token) ≡ next
          → Goes (cond next (committed_in (oldest_of c.queue) time (counted c)) c).hand (cond next (committed_in (oldest_of c.queue) time (counted c)) c).queue.unanswered
      by_test false is = passed_over c.hand c.queue.unanswered _ was
      by_test true is =
          let same : token ≡ suc c.hand.token = grind (arith, nat_tests) in
          committed time stream (told_of.Committed time results) (oldest_of c.queue) refl refl
          (subst (λ (k : ℕ). Exchange s x c.hand c.queue.unanswered up (message.Write stream k (told_of.Committed time results) ∷ down)) same was)
    answers stream token (told_of.Refused code text) was = by_test (token == suc c.hand.token) refl where
      by_test : (next : Bool) → (token == suc c.hand.token) ≡ next
          → Goes (cond next (refused_in (oldest_of c.queue) code text (counted c)) c).hand (cond next (refused_in (oldest_of c.queue) code text (counted c)) c).queue.unanswered
      by_test false is = passed_over c.hand c.queue.unanswered _ was
      by_test true is =
          let same : token ≡ suc c.hand.token = grind (arith, nat_tests) in
          refused code text stream (told_of.Refused code text) (oldest_of c.queue) refl refl
          (subst (λ (k : ℕ). Exchange s x c.hand c.queue.unanswered up (message.Write stream k (told_of.Refused code text) ∷ down)) same was)

    unchanged : (time : ℤ) (token : List ℕ) (m : Message) (may : Bool) → Exchange s x c.hand c.queue.unanswered up (m ∷ down)
        → Goes (cond may (raised time token c) c).hand (cond may (raised time token c) c).queue.unanswered
    unchanged time token m true was = (x, exchange_told s x c.hand (raised_link c.hand.link) c.queue.unanswered up m down was)
    unchanged time token m false was = passed_over c.hand c.queue.unanswered m was

    removed : (ids : List ℕ) (cause : Option Cause) (m : Message) → Exchange s x c.hand c.queue.unanswered up (m ∷ down)
        → Goes (told_removed ids cause c).hand (told_removed ids cause c).queue.unanswered
    removed ids None m was = passed_over c.hand c.queue.unanswered m was
    removed ids (Some cause) m was = passed_over c.hand c.queue.unanswered m was

    listened : (l : ListenMessage) (m : Message) → Exchange s x c.hand c.queue.unanswered up (m ∷ down) → Goes (told l c).hand (told l c).queue.unanswered
    listened (listen.NoChange time token) m was = unchanged time token m (may_raise time c) was
    listened (listen.Remove ids cause) m was = removed ids cause m was
    listened (listen.Add ids) m was = passed_over c.hand c.queue.unanswered m was
    listened (listen.Reset ids) m was = passed_over c.hand c.queue.unanswered m was
    listened (listen.Current ids time token) m was = passed_over c.hand c.queue.unanswered m was
    listened (listen.Changed d ids left) m was = passed_over c.hand c.queue.unanswered m was
    listened (listen.Deleted name time left) m was = passed_over c.hand c.queue.unanswered m was
    listened (listen.Removed name time left) m was = passed_over c.hand c.queue.unanswered m was

  received_stays : (c : Client) (m : Message) → Exchange s x c.hand c.queue.unanswered up (m ∷ down) → Goes (received m c).hand (received m c).queue.unanswered
  received_stays c (message.Listen l) was = listened c l (message.Listen l) was
  received_stays c (message.Write stream token answer) was =
      answers (greeted c) stream token answer (relinked c.hand (greeted_link c.hand.link) c.queue.unanswered (message.Write stream token answer ∷ down) was)
  received_stays c (message.Commit id time results) was = passed_over c.hand c.queue.unanswered _ was
  received_stays c (message.GetDocument id document) was = passed_over c.hand c.queue.unanswered _ was
  received_stays c (message.BatchGetDocuments id answers) was = passed_over c.hand c.queue.unanswered _ was
  received_stays c (message.RunQuery id documents time) was = passed_over c.hand c.queue.unanswered _ was
  received_stays c (message.BeginTransaction id transaction) was = passed_over c.hand c.queue.unanswered _ was
  received_stays c (message.Rollback id) was = passed_over c.hand c.queue.unanswered _ was
  received_stays c (message.Error id code text) was = passed_over c.hand c.queue.unanswered _ was

-- ---- each step

receives_stays : (s : Stream) (x : Standing) (c : Client) (up : List Envelope) (down : List Message) (m : Message) → ReceivesFirst (receives m) down
    → Exchange s x c.hand c.queue.unanswered up down → (y : Standing) × Exchange s y (received m c).hand (received m c).queue.unanswered up (drop 1 down)
receives_stays s x c up [] m first was = absurd first
receives_stays s x c up (other ∷ rest) m first was =
    received_stays s x up rest c m (subst (λ (k : Message). Exchange s x c.hand c.queue.unanswered up (k ∷ rest)) first was)

pub exchange_stays : ExchangeStays
exchange_stays s x c up down (receives m) first was = receives_stays s x c up down m first was
exchange_stays s x c up down (listens id t) first was = (x, exchange_asking s x c.hand c.queue.unanswered (add_request c.root id t None) up down tt was)
exchange_stays s x c up down (unlistens id) first was = (x, exchange_asking s x c.hand c.queue.unanswered (remove_request c.root id) up down tt was)
exchange_stays s x c up down (writes ws moment) first was = (x, exchange_wrote s x c.hand c.queue.unanswered (record { writes = ws; moment = moment }) up down was)
exchange_stays s x c up down connects first was = (
  x,
  exchange_linked s x c.hand c.queue.unanswered (Some (record { greeted = false; raised = false })) (greetings c.root c.targets c.hand) up down
      (greetings_fit c.root c.targets c.hand c.queue.unanswered) was,
)
exchange_stays s x c up down loses first was = (x, exchange_linked s x c.hand c.queue.unanswered None [] up down tt was)
exchange_stays s x c up down sends first was = (
  x,
  subst (λ (bs : List LocalBatch). Exchange s x (record c.hand { out = [] }) bs (up ++ out_of c) down) (sym (sent_stays (batch_out c.root c.hand c.queue) c.queue))
      (exchange_sent s x c.root c.hand c.queue up down was),
)
exchange_stays s x c up down tells first was = (x, was)
