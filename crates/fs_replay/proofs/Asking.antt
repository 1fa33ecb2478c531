-- What a request comes to before its line is closed: it is answered, and what was committed stays; or it waits, or is a batch in progress, and
-- nothing is told; or it is a commit that is prepared, and nothing is told yet.
use Rattle.std.proofs.Common.{◌≡◌, ℕ, Bool, true, false, cond, List, [], ◌∷◌, ◌++◌, Option, Some, None, Result, Ok, Err, refl, sym, ap, ◌∙◌, subst}
use Rattle.std.specs.Prelude.{codes}
use Rattle.fs_json.specs.declared.bad.Bad.{Bad}
use Rattle.fs_history.specs.declared.read.Read.{Read}
use Rattle.fs_request.specs.Refused.{refused}
use Rattle.fs_rpc.specs.MessageJson.{message_json_on}
use Rattle.fs_rpc.specs.declared.envelope.SessionRequest.{SessionRequest}
use Rattle.fs_request.specs.declared.request.Envelope.{Envelope}
use Rattle.fs_request.specs.declared.request.Request.{Request}
use Rattle.fs_status.specs.Refusal.{at_limit, refusal_of}
use Rattle.fs_status.specs.declared.refusal.Refusal.{Refusal}
use Rattle.fs_write.specs.declared.write.Write.{Write}
use Rattle.fs_stream.specs.Stands.{Stands}
use Rattle.fs_stream.specs.Streams.{stream_of}
use Rattle.fs_machine.specs.Commit.{asker_by, next_commit, past_prepared}
use Rattle.fs_machine.specs.Event.{Event}
use Rattle.fs_machine.specs.Open.{is_full, with_session}
use Rattle.fs_machine.specs.Request.{answer_by, answered, arrived, asked, carried_by, with_parked}
use Rattle.fs_machine.specs.State.{Machine}
use Rattle.fs_machine.specs.declared.answer.Answer.{Answer}
use Rattle.fs_machine.specs.declared.answer.Answer.TheVariants.{Reply, Prepared, Held, InProgress, Refused}
use Rattle.fs_machine.specs.declared.parked_request.ParkedRequest.{ParkedRequest}
use Rattle.fs_machine.proofs.Carried.{carried_rest}
use Rattle.fs_replay.specs.Directory.{number_of}
use Rattle.fs_replay.specs.Commits.{commits_in, commits_on, commits_opened, is_prepared, writes_of}
use Rattle.fs_replay.specs.Lines.{IsOneLine}
use Rattle.fs_replay.specs.Line.{reason_of}
use Rattle.fs_replay.specs.Outboxes.{reply_output}
use Rattle.fs_replay.specs.Played.{Played}
use Rattle.fs_replay.specs.Step.{asks, asks_if, in_session, named_if}
use Rattle.fs_replay.specs.declared.state.State.{State}
use Rattle.fs_replay.proofs.Becoming.{Becomes, asked_becomes, taken_beside, taken_on, with_numbers}
use Rattle.fs_replay.proofs.Busy.{told_busy}
use Rattle.fs_replay.proofs.Going.{Goes, carried_goes, is_told}
use Rattle.fs_replay.proofs.Kept.{with_one, with_server}
use Rattle.fs_replay.proofs.Known.{has_number, known, knows_it}
use Rattle.fs_replay.proofs.Lone.{IsAnswered}
use Rattle.fs_replay.proofs.OneLine.{json_one_line}
use Rattle.fs_replay.proofs.Readers.{ReadOn, ReadsOn}
use Rattle.fs_replay.proofs.Staying.{HasRoom, IsKept, has_room, held_kept}
use Rattle.fs_replay.proofs.Tellers.{arrived_answered, arrived_writes}

-- it is answered
pub record Answers (s : State) (commits : Bool) (played : Played) : Type 0 where
  pub past : played.state.server.past ≡ s.server.past
  pub parked : played.state.server.parked ≡ s.server.parked
  pub line : IsOneLine played.output
  pub no : commits ≡ false

-- it is a batch that is in progress, and is told when it is finished
pub record Repeats (s : State) (commits : Bool) (played : Played) : Type 0 where
  pub past : played.state.server.past ≡ s.server.past
  pub parked : played.state.server.parked ≡ s.server.parked
  pub stream : ℕ
  pub busy : (stream_of stream s.server.streams).busy ≡ true
  pub no : commits ≡ false

-- it waits: where no commit is under way, a transaction keeps it
pub record Waits (s : State) (commits : Bool) (played : Played) : Type 0 where
  pub request : ParkedRequest
  pub past : played.state.server.past ≡ s.server.past
  pub parked : played.state.server.parked ≡ s.server.parked ++ request ∷ []
  pub reads : ReadsOn s.server played.state.server
  pub kept : s.server.past.unreleased ≡ [] → IsKept s.server.config.mode s.server.txns.open request.envelope.request
  pub room : HasRoom s.server.limits s.server.past.history s.server.past.unreleased s.server.past.last request.envelope.request
  pub no : commits ≡ false

-- it is a commit, and prepared
pub record Prepares (s : State) (commits : Bool) (played : Played) : Type 0 where
  pub request : ParkedRequest
  pub id : ℕ
  pub writes : List Write
  pub reads : List Read
  pub past : played.state.server.past ≡ past_prepared s.server.past (next_commit s.server.past id request writes reads)
  pub parked : played.state.server.parked ≡ s.server.parked
  -- it is told to a session that is known
  pub teller : ℕ
  pub answered : IsAnswered played.state.server (asker_by request request.stream) teller
  pub knows : has_number teller played.state.directory ≡ true
  pub output : played.output ≡ []
  pub yes : commits ≡ true

pub data Comes (s : State) (commits : Bool) (played : Played) : Type 0 where
  answers : Answers s commits played → Comes s commits played
  repeats : Repeats s commits played → Comes s commits played
  waits : Waits s commits played → Comes s commits played
  prepares : Prepares s commits played → Comes s commits played

-- ---- answers

told_line : (name : List ℕ) (id : Option (List ℕ)) (answer : Answer) → is_told answer ≡ true → IsOneLine (reply_output name id answer)
told_line name id (Reply message) told = json_one_line (message_json_on name message)
told_line name id (Prepared commit time) told = absurd (cc)
told_line name id (Held commit) told = absurd (cc)
told_line name id (InProgress finished) told = absurd (cc)
told_line name id (Refused refusal) told = json_one_line (message_json_on name (refused id refusal))

told_no : (answer : Answer) → is_told answer ≡ true → is_prepared answer ≡ false
told_no (Reply message) told = refl
told_no (Prepared commit time) told = absurd (cc)
told_no (Held commit) told = refl
told_no (InProgress finished) told = refl
told_no (Refused refusal) told = refl

-- ---- a request on a session

module _ (on : State) (name : List ℕ) (number : ℕ) (knows : has_number number on.directory ≡ true) (streams : Stands on.server.streams) where
  abbrev comes_to : Envelope → Machine → Answer → Type 0
  comes_to e n a = Comes on (is_prepared a) (record { state = with_server on n; output = reply_output name e.id a; events = Event.asking number e ∷ [] })

  abbrev request_of : Envelope → ParkedRequest
  request_of e = arrived on.server number e

  -- of one that is carried out, and answered so
  goes_comes : (e : Envelope) (n : Machine) (a : Answer) → (a ≡ answered on.server number e) → IsAnswered n (asker_by (request_of e) (request_of e).stream) number → n.parked ≡ on.server.parked
      → Goes (request_of e) (writes_of e.request) on.server.past n.past a → comes_to e n a
  goes_comes e n a is teller parked (Goes.answers same told) = answers (record { past = same; parked = parked; line = told_line name e.id a told; no = told_no a told })
  goes_comes e n a is teller parked (Goes.repeats finished same told) =
      let busy = told_busy on.server number e finished (sym is ∙ told) in
      repeats (record { past = same; parked = parked; stream = busy.0; busy = busy.1; no = ap is_prepared told })
  goes_comes e n a is teller parked (Goes.prepares id reads same told) =
      prepares (record {
        request = request_of e;
        id = id;
        writes = writes_of e.request;
        reads = reads;
        past = same;
        parked = parked;
        teller = number;
        answered = teller;
        knows = knows;
        output = ap (reply_output name e.id) told;
        yes = ap is_prepared told;
      })

  becomes_comes : (e : Envelope) (n : Machine) (a : Answer) → (a ≡ answered on.server number e) → Becomes on.server (request_of e) n a → comes_to e n a
  becomes_comes e n a same (Becomes.refused k is told) =
      answers (record {
        past = ap (λ (m : Machine). m.past) is;
        parked = ap (λ (m : Machine). m.parked) is;
        line = told_line name e.id a told;
        no = told_no a told;
      })
  becomes_comes e n a same (Becomes.held k by is told behind may) =
      let r = request_of e in
      let was : n ≡ with_parked (record (with_numbers on.server k) { streams = (taken_on on.server r k).streams }) r = is ∙ ap (λ (x : Machine). with_parked x r) (taken_beside (with_numbers on.server k) r.stream) in
      waits (record {
        request = r;
        past = ap (λ (m : Machine). m.past) was;
        parked = ap (λ (m : Machine). m.parked) was;
        reads = record {
          config = ap (λ (m : Machine). m.config) was;
          limits = ap (λ (m : Machine). m.limits) was;
          reads = subst (λ (m : Machine). ReadOn on.server.txns.open m.txns.open) (sym was) (λ ws none. none);
        };
        kept = λ idle. held_kept on.server r.envelope.request by idle behind;
        room = has_room on.server r.envelope.request may;
        no = ap is_prepared told;
      })
  becomes_comes e n a same (Becomes.goes_on k is told goes) =
      let r = request_of e in
      let m = taken_on on.server r k in
      let q = r.envelope.request in
      let beside = taken_beside (with_numbers on.server k) r.stream in
      let parked : n.parked ≡ on.server.parked = ap (λ (x : Machine). x.parked) (is ∙ carried_rest m r q) ∙ ap (λ (x : Machine). x.parked) beside in
      let past : m.past ≡ on.server.past = ap (λ (x : Machine). x.past) beside in
      let teller = subst (λ (x : Machine). IsAnswered x (asker_by r r.stream) number) (sym is) (arrived_answered on.server number streams e k) in
      let there = subst (λ p. Goes r (writes_of q) p (carried_by m r q).past (answer_by m r q)) past (carried_goes m r q goes) in
      let asked = subst (λ ws. Goes r ws on.server.past (carried_by m r q).past (answer_by m r q)) (arrived_writes on.server number e) there in
      goes_comes e n a same teller parked
      (subst (λ (x : Machine). Goes r (writes_of e.request) on.server.past x.past a) (sym is)
      (subst (λ b. Goes r (writes_of e.request) on.server.past (carried_by m r q).past b) (sym told) asked))

  asked_comes : (id : Option (List ℕ)) (r : Result Request Bad) → Comes on (commits_on on.server number id r) (asks on name number id r)
  asked_comes id (Ok request) =
      let e : Envelope = record { id = id; request = request } in
      becomes_comes e (asked on.server number e) (answered on.server number e) refl (asked_becomes on.server number e)
  asked_comes id (Err bad) = answers (record { past = refl; parked = refl; line = json_one_line (message_json_on name (refused id (refusal_of (reason_of bad)))); no = refl })

-- ---- the session of a line

-- what was committed and what waits is the same after one opened, which is an event before
with_one_comes : (s : State) (name : List ℕ) (commits : Bool) (p : Played) → Comes (with_one s name) commits p → Comes s commits (record p { events = Event.opening ∷ p.events })
with_one_comes s name commits p (answers a) = answers (record { past = a.past; parked = a.parked; line = a.line; no = a.no })
with_one_comes s name commits p (repeats it) = repeats (record { past = it.past; parked = it.parked; stream = it.stream; busy = it.busy; no = it.no })
with_one_comes s name commits p (waits w) = waits (record {
  request = w.request;
  past = w.past;
  parked = w.parked;
  reads = record { config = w.reads.config; limits = w.reads.limits; reads = w.reads.reads };
  kept = w.kept;
  room = w.room;
  no = w.no;
})
with_one_comes s name commits p (prepares c) = prepares (record {
  request = c.request;
  id = c.id;
  writes = c.writes;
  reads = c.reads;
  past = c.past;
  parked = c.parked;
  teller = c.teller;
  answered = c.answered;
  knows = c.knows;
  output = c.output;
  yes = c.yes;
})

-- the server with it, unless as many are open as may be
abbrev with_one_unless : Bool → Machine → Machine
with_one_unless full m = cond full m (with_session m)

-- its number
abbrev number_unless : Bool → Refusal → Machine → Result ℕ Refusal
number_unless full refusal m = cond full (Err refusal) (Ok m.numbers.sessions)

-- its first request
abbrev opens_unless : Bool → Refusal → State → SessionRequest → Played
opens_unless full refusal s a =
    let p = asks_if (named_if (with_server s (with_one_unless full s.server)) a.session (number_unless full refusal s.server)) a (number_unless full refusal s.server) in
    record p { events = Event.opening ∷ p.events }

-- whether that is a commit
abbrev commits_unless : Bool → Refusal → Machine → SessionRequest → Bool
commits_unless full refusal m a = commits_opened (with_one_unless full m) a (number_unless full refusal m)

opening_comes : (s : State) (a : SessionRequest) → Stands s.server.streams → (full : Bool) (refusal : Refusal) → Comes s (commits_unless full refusal s.server a) (opens_unless full refusal s a)
opening_comes s a streams true refusal = answers (record { past = refl; parked = refl; line = json_one_line (message_json_on a.session (refused a.id refusal)); no = refl })
opening_comes s a streams false refusal =
    let number = s.server.numbers.sessions in
    with_one_comes s a.session _ _ (asked_comes (with_one s a.session) a.session number (knows_it s.directory a.session number) streams a.id a.request)

session_comes : (s : State) (a : SessionRequest) → Stands s.server.streams → (number : Option ℕ) → number_of a.session s.directory ≡ number → Comes s (commits_in s.server a number) (in_session s a number)
session_comes s a streams (Some number) is = asked_comes s a.session number (known s.directory a.session number is) streams a.id a.request
session_comes s a streams None is = opening_comes s a streams (is_full s.server) (at_limit (codes "sessions") s.server.limits.sessions)

pub comes : (s : State) (a : SessionRequest) → Stands s.server.streams → Comes s (commits_in s.server a (number_of a.session s.directory)) (in_session s a (number_of a.session s.directory))
comes s a streams = session_comes s a streams (number_of a.session s.directory) refl
