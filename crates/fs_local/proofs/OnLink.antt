-- A batch is sent only on a link on which the stream was answered, and without a link nothing is to be sent.
use Rattle.std.proofs.Common.{◌≡◌, ℕ, ℤ, Bool, true, false, cond, [], Option, Some, None, refl, sym, ◌∙◌}
use Rattle.std.specs.Prelude.{◌&&◌, not}
use Rattle.fs_path.specs.declared.name.Root.{Root}
use Rattle.fs_request.specs.declared.request.Envelope.{Envelope}
use Rattle.fs_queue.specs.Queue.{Queue, none_queued, with_link_lost}
use Rattle.fs_local.specs.Answered.{covered_by, greeted_link, opened_in}
use Rattle.fs_local.specs.Ask.{asking, out_on}
use Rattle.fs_local.specs.Connect.{cut_off, linked}
use Rattle.fs_local.specs.Raise.{raised_link}
use Rattle.fs_local.specs.Stands.{IsOnLink}
use Rattle.fs_local.specs.State.{Hand, Link, Targets, empty_hand}
use Rattle.fs_local.specs.TakeOut.{batch_out, first_batch, is_greeted, sent_if}

-- ---- where no batch is sent

unsent : (link : Option Link) (sent : Bool) → sent ≡ false → sent ≡ true → is_greeted link ≡ true
unsent link sent none is = absurd (let both : false ≡ true = sym none ∙ is in cc)

pub link_none : (limit : ℕ) → IsOnLink empty_hand (none_queued limit)
link_none limit = record { sent = unsent None false refl; idle = λ none. refl }

pub link_lost : (h : Hand) (q : Queue) → IsOnLink (cut_off h) (with_link_lost q)
link_lost h q = record { sent = unsent None false refl; idle = λ none. refl }

pub link_connected : (root : Root) (ts : Targets) (h : Hand) (q : Queue) → IsOnLink (linked root ts h) (with_link_lost q)
link_connected root ts h q = record { sent = unsent (linked root ts h).link false refl; idle = λ none. absurd (cc) }

covered_sent : (snapshot : Option ℤ) (q : Queue) → (covered_by snapshot q).sent ≡ q.sent
covered_sent None q = refl
covered_sent (Some time) q = refl

module _ (h : Hand) (q : Queue) (is : IsOnLink h q) where
  pub link_unsent : (other : Queue) → other.sent ≡ false → IsOnLink h other
  link_unsent other none = record { sent = unsent h.link other.sent none; idle = is.idle }

  pub link_covered : (snapshot : Option ℤ) (other : Queue) → other.sent ≡ false → IsOnLink h (covered_by snapshot other)
  link_covered snapshot other none = link_unsent (covered_by snapshot other) (covered_sent snapshot other ∙ none)

  -- ---- where the link stays

  pub link_asking : (e : Envelope) → IsOnLink (asking e h) q
  link_asking e = record { sent = is.sent; idle = λ none. idle h.link is.idle none } where
    idle : (link : Option Link) → (link ≡ None → h.out ≡ []) → link ≡ None → out_on link h.out e ≡ []
    idle None was none = was none
    idle (Some link) was none = absurd (cc)

  -- a batch is taken out only where the stream was answered
  pub link_sent : (root : Root) → IsOnLink (record h { out = [] }) (sent_if (batch_out root h q) q)
  link_sent root = record { sent = sent (batch_out root h q) refl; idle = λ none. refl } where
    greeted : (e : Envelope) (greeted : Bool) → cond (greeted && not q.sent) (first_batch root h.token q.unanswered) None ≡ Some e → greeted ≡ true
    greeted e true out = refl
    greeted e false out = absurd (cc)

    sent : (o : Option Envelope) → batch_out root h q ≡ o → (sent_if o q).sent ≡ true → is_greeted h.link ≡ true
    sent None out now = is.sent now
    sent (Some e) out now = greeted e (is_greeted h.link) out

  pub link_opened : (o : Option ℕ) (stream token : ℕ) → IsOnLink (opened_in o stream token h) q
  link_opened None stream token = record { sent = is.sent; idle = is.idle }
  link_opened (Some own) stream token = is

  pub link_counted : (token : ℕ) → IsOnLink (record h { token = token }) q
  link_counted token = record { sent = is.sent; idle = is.idle }

  -- ---- where it goes on

  pub link_raised : IsOnLink (record h { link = raised_link h.link }) q
  link_raised = record { sent = λ now. sent h.link (is.sent now); idle = λ none. is.idle (same h.link none) } where
    sent : (link : Option Link) → is_greeted link ≡ true → is_greeted (raised_link link) ≡ true
    sent None was = was
    sent (Some link) was = was

    same : (link : Option Link) → raised_link link ≡ None → link ≡ None
    same None none = refl
    same (Some link) none = absurd (cc)

  pub link_greeted : IsOnLink (record h { link = greeted_link h.link }) q
  link_greeted = record { sent = λ now. sent h.link (is.sent now); idle = λ none. is.idle (same h.link none) } where
    sent : (link : Option Link) → is_greeted link ≡ true → is_greeted (greeted_link link) ≡ true
    sent None was = was
    sent (Some link) was = refl

    same : (link : Option Link) → greeted_link link ≡ None → link ≡ None
    same None none = refl
    same (Some link) none = absurd (cc)
