use Rattle.std.proofs.Common.{◌≡◌, ℤ, ◌≤ℤ◌, cond, List, Option, Some, None, refl, sym, ap, ◌∙◌, subst}
use Rattle.std.specs.Prelude.{IfSome}
use Rattle.std.specs.FinMap.{get}
use Rattle.fs_history.specs.History.{at}
use Rattle.fs_match.specs.Followed.{docs_fitting}
use Rattle.fs_listen.specs.Listening.{Listened}
use Rattle.fs_listen.specs.Runs.{is_lost}
use Rattle.fs_listen.specs.View.{is_listened, view_at}
use Rattle.fs_machine.specs.Listen.{listening_of}
use Rattle.fs_machine.specs.Load.{loaded_with}
use Rattle.fs_machine.specs.State.{Machine}
use Rattle.fs_machine.specs.declared.session.Session.{Session}
use Rattle.fs_sessions.specs.Heard.{Heard, listeners_of}
use Rattle.fs_server.specs.Kept.{IsKept}
use Rattle.fs_server.specs.Loading.{IsFree}
use Rattle.fs_sessions.specs.Place.{taken_back}
use Rattle.fs_server.proofs.Loads.{HasDocuments, kept_loading, listeners_loading, reset_back, resumed_within, token_in}
use Rattle.fs_server.proofs.server.Server.load_free.Goals as goal

pub sent-requires : goal.sent-requires
sent-requires c =
    let n : Machine = c.args.self.now in
    let found = get (listening_of n c.args.session).targets c.args.target in
    let token : c.token-token.result ≡ token_in found =
    c.token-token.ensures ∙ ap (λ (k : Machine). token_in (get (listening_of k c.args.session).targets c.args.target)) c.self.view_is in
    let floor = c.floor.ensures.value ∙ ap (λ (k : Machine). k.past.floor) c.self.view_is in
    let reset : c.is_lost-reset.result ≡ is_lost n.past.floor (token_in found) = c.is_lost-reset.ensures ∙ (λ i. is_lost (floor i) (token i)) in
    let from : c.resumed-from.result ≡ cond (is_lost n.past.floor (token_in found)) None (token_in found) = c.resumed-from.ensures ∙ (λ i. cond (reset i) None (token i)) in
    subst (λ (o : Option ℤ). IfSome o (λ t. (n.past.floor ≤ℤ t) × (t ≤ℤ n.past.released))) (sym from) (resumed_within n.past.floor n.past.released c.args.time found c.requires)

pub invariant_of-self-in-Ok : goal.invariant_of-self-in-Ok
invariant_of-self-in-Ok c =
    let s = c.self.inside in
    let m : Machine = record { config = s.config; limits = s.limits; past = s.past; txns = s.txns; sessions = s.sessions; listeners = listeners_of s.listeners; parked = s.waiting; streams = s.streams; numbers = s.numbers } in
    let n : Machine = c.args.self.now in
    let sent_time : (l : Listened) → get (listening_of m c.args.session).targets c.args.target ≡ Some l → c.resumed-from.result ≡ cond c.is_lost-reset.result None l.token =
    λ l is. c.resumed-from.ensures ∙ ap (λ (o : Option ℤ). cond c.is_lost-reset.result None o) (c.token-token.ensures ∙ ap token_in is) in
    let at_now : (l : Listened) → get (listening_of m c.args.session).targets c.args.target ≡ Some l → get (listening_of n c.args.session).targets c.args.target ≡ Some l =
    λ l is. subst (λ (k : Machine). get (listening_of k c.args.session).targets c.args.target ≡ Some l) c.self.view_is is in
    let have : HasDocuments m c.args.session c.args.target c.args.time c.is_lost-reset.result c.in_ok-sent.sent c.in_ok-docs.docs = record {
      sent_are = λ l is.
          c.in_ok-sent.ensures.value l (at_now l is)
          ∙ ap (λ (k : Machine). view_at l.target k.past.history c.resumed-from.result) (sym c.self.view_is)
          ∙ ap (view_at l.target m.past.history) (sent_time l is);
      docs_are = λ l is.
          c.in_ok-docs.ensures.value l (at_now l is)
          ∙ ap (λ (k : Machine). docs_fitting (is_listened l.target) (at k.past.history c.args.time)) (sym c.self.view_is);
    } in
    kept_loading m s.listeners refl c.args.session c.args.target c.args.time c.is_lost-reset.result c.in_ok-sent.sent c.in_ok-docs.docs
    (subst (λ (k : Machine). IsFree k c.args.session c.args.target c.args.time) (sym c.self.view_is) c.requires) have c.targets_are_lawful.ensures.loading c.tell_reset.new.sessions c.load.new.self
    c.in_ok-tell_reset.ensures.ok c.in-Ok.ensures.ok c.self.invariant

-- ---- where memory runs out

pub invariant_of-self-in-Err : goal.invariant_of-self-in-Err
invariant_of-self-in-Err c =
    let s = c.self.inside in
    let reset = c.is_lost-reset.result in
    let back : c.take_reset_back.new.sessions ≡ s.sessions =
    c.take_reset_back.ensures ∙ ap (λ (ss : List Session). cond reset (taken_back c.args.session ss) ss) c.in_ok-tell_reset.ensures.ok ∙ reset_back s.sessions c.args.session c.args.target reset in
    subst (λ (hs : List Heard). IsKept s.config s.limits s.past s.txns c.take_reset_back.new.sessions hs s.waiting s.streams s.numbers) (sym c.in-Err.ensures.err)
    (subst (λ (ss : List Session). IsKept s.config s.limits s.past s.txns ss s.listeners s.waiting s.streams s.numbers) (sym back) c.self.invariant)

pub returns-in-Ok-clause-ok : goal.returns-in-Ok-clause-ok
returns-in-Ok-clause-ok c = λ l found.
    let s = c.self.inside in
    let m : Machine = record { config = s.config; limits = s.limits; past = s.past; txns = s.txns; sessions = s.sessions; listeners = listeners_of s.listeners; parked = s.waiting; streams = s.streams; numbers = s.numbers } in
    let n : Machine = c.args.self.now in
    let token : c.token-token.result ≡ l.token =
    c.token-token.ensures ∙ ap (λ (k : Machine). token_in (get (listening_of k c.args.session).targets c.args.target)) c.self.view_is ∙ ap token_in found in
    let floor = c.floor.ensures.value ∙ ap (λ (k : Machine). k.past.floor) c.self.view_is in
    let reset : c.is_lost-reset.result ≡ is_lost n.past.floor l.token = c.is_lost-reset.ensures ∙ (λ i. is_lost (floor i) (token i)) in
    let listeners =
    ap listeners_of c.in-Ok.ensures.ok
    ∙ listeners_loading s.config s.limits s.past c.args.session c.args.target c.args.time c.is_lost-reset.result c.in_ok-sent.sent c.in_ok-docs.docs s.listeners c.self.invariant.heard in
    (λ i. record m { sessions = c.in_ok-tell_reset.ensures.ok i; listeners = listeners i })
    ∙ (λ i. loaded_with (c.self.view_is i) c.args.session c.args.target c.args.time (reset i))

pub returns-in-Err-clause-err : goal.returns-in-Err-clause-err
returns-in-Err-clause-err c =
    let s = c.self.inside in
    let m : Machine = record { config = s.config; limits = s.limits; past = s.past; txns = s.txns; sessions = s.sessions; listeners = listeners_of s.listeners; parked = s.waiting; streams = s.streams; numbers = s.numbers } in
    let reset = c.is_lost-reset.result in
    let back : c.take_reset_back.new.sessions ≡ s.sessions =
    c.take_reset_back.ensures ∙ ap (λ (ss : List Session). cond reset (taken_back c.args.session ss) ss) c.in_ok-tell_reset.ensures.ok ∙ reset_back s.sessions c.args.session c.args.target reset in
    (λ i. record m { sessions = back i; listeners = listeners_of (c.in-Err.ensures.err i) }) ∙ c.self.view_is
