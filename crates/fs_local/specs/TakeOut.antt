-- What a client has to send on its link: what it asked for since, and behind that, once its stream is there, its next batch, one at a time.
use Rattle.std.specs.Prelude.{ℕ, Bool, false, ◌&&◌, not, List, [], ◌∷◌, ◌++◌, Option, Some, None, if◌then◌else◌}
use Rattle.fs_path.specs.declared.name.Root.{Root}
use Rattle.fs_request.specs.declared.request.Envelope.{Envelope}
use Rattle.fs_queue.specs.Queue.{Queue, sent_on}
use Rattle.fs_queue.specs.declared.batch.LocalBatch.{LocalBatch}
use Rattle.fs_local.specs.Ask.{batch_request}
use Rattle.fs_local.specs.State.{Client, Hand, Link}

abbrev pub is_greeted : Option Link → Bool
is_greeted None = false
is_greeted (Some link) = link.greeted

-- the oldest batch that isn't answered
abbrev pub first_batch : Root → ℕ → List LocalBatch → Option Envelope
first_batch root token [] = None
first_batch root token (b ∷ bs) = Some (batch_request root token b.writes)

abbrev pub batch_out : Root → Hand → Queue → Option Envelope
batch_out root h q = if is_greeted h.link && not q.sent then first_batch root h.token q.unanswered else None

abbrev pub with_batch : List Envelope → Option Envelope → List Envelope
with_batch out None = out
with_batch out (Some e) = out ++ e ∷ []

abbrev pub out_of : Client → List Envelope
out_of c = with_batch c.hand.out (batch_out c.root c.hand c.queue)

abbrev pub sent_if : Option Envelope → Queue → Queue
sent_if None q = q
sent_if (Some e) q = sent_on q

abbrev pub taken_out : Client → Client
taken_out c = record c { queue = sent_if (batch_out c.root c.hand c.queue) c.queue; hand = record c.hand { out = [] } }
