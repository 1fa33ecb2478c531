-- A target is added to a session, or removed: which limits it passes, and what is kept then.
use Rattle.std.proofs.Common.{◌≡◌, ◌≢◌, ℕ, ◌+◌, ◌<◌, ℤ, ◌≤ℤ◌, false, cond, List, [], ◌∷◌, Option, Some, None, refl, sym, ap, ◌∙◌, subst, arith}
use Rattle.std.specs.Prelude.{IfSome, codes, is_some, nat_le}
use Rattle.std.specs.FinMap.{get, insert, len, remove}
use Rattle.std.specs.List.{AllByRecursion}
use Rattle.std.proofs.lemmas.Bool.Decides.{nat_tests}
use Rattle.fs_query.specs.declared.target.Target.{Target}
use Rattle.fs_status.specs.declared.refusal.Refusal.{Refusal}
use Rattle.fs_listen.specs.Listening.{Listened, Listening, added, removed}
use Rattle.fs_target.specs.Held.{refusal}
use Rattle.fs_target.specs.Laws.{AddingKeeps, RemovingKeeps}
use Rattle.fs_target.specs.declared.error.TargetError.TheVariants as error
use Rattle.fs_txn.specs.Transactions.{Transactions}
use Rattle.fs_stream.specs.Streams.{Streams}
use Rattle.fs_machine.specs.Listen.{adding_refusal, has_target, listening_of, target_refusal, targets_refusal, token_refusal, unless_used}
use Rattle.fs_machine.specs.Listeners.{Listener, listening_in, with_listener}
use Rattle.fs_machine.specs.ListenersHold.{ListenersHold, NumbersHold}
use Rattle.fs_machine.specs.Past.{Past}
use Rattle.fs_machine.specs.Refusing.{outbox_refusal, passed}
use Rattle.fs_machine.specs.State.{Machine}
use Rattle.fs_machine.specs.declared.config.Config.{Config}
use Rattle.fs_machine.specs.declared.limits.Limits.{Limits}
use Rattle.fs_machine.specs.declared.numbers.Numbers.{Numbers}
use Rattle.fs_machine.specs.declared.parked_request.ParkedRequest.{ParkedRequest}
use Rattle.fs_machine.specs.declared.session.Session.{Session}
use Rattle.fs_machine.proofs.Asking.{adding_passes, outbox_none}
use Rattle.fs_machine.proofs.ListenersHold.{listeners_added, listeners_removed}
use Rattle.fs_sessions.specs.Heard.{AreHeard, Heard, IsHeard, heard_adding, heard_in, heard_removing, listener_of, listeners_of, with_heard}
use Rattle.fs_server.specs.Kept.{IsKept}
use Rattle.fs_server.proofs.Every.{all_unmapped}
use Rattle.fs_sessions.proofs.Ears.{all_with, listeners_with, listening_found, of_found}
use Rattle.fs_server.proofs.Unnumbered.{adding_numbered, removing_numbered}
use Rattle.fs_server.proofs.Within.{behind_closed, behind_passed, not_passed}

-- ---- which limits one that is added passes

module _ (m : Machine) (session id : ℕ) (t : Target) (token : Option (List ℕ)) (none : adding_refusal m session id t token ≡ None) where
  abbrev unused : Option Refusal
  unused = unless_used (has_target m session id) id (token_refusal m token)

  abbrev numbered : Option Refusal
  numbered = passed (nat_le m.limits.ids m.numbers.targets) (codes "ids") m.limits.ids unused

  many_passed : targets_refusal m session unused ≡ None
  many_passed =
      outbox_none m session (targets_refusal m session unused)
      (behind_closed (target_refusal t) (outbox_refusal m session (targets_refusal m session unused)) none)

  few : nat_le m.limits.targets (len (listening_of m session).targets) ≡ false
  few = not_passed (nat_le m.limits.targets (len (listening_of m session).targets)) (codes "targets") m.limits.targets numbered many_passed

  -- a number is left for it
  pub number_left : m.numbers.targets < m.limits.ids
  number_left =
      let is = not_passed (nat_le m.limits.ids m.numbers.targets) (codes "ids") m.limits.ids unused
      (behind_passed (nat_le m.limits.targets (len (listening_of m session).targets)) (codes "targets") m.limits.targets numbered many_passed) in
      grind (arith, nat_tests)

  -- and what is kept of its session takes it
  pub may_add : (hs : List Heard) → m.listeners ≡ listeners_of hs → AreHeard m.config m.limits m.past hs → IfSome (heard_in session hs) (λ h. refusal id h.held ≡ None)
  may_add hs listened heard = by_found (heard_in session hs) refl where
    by_found : (o : Option Heard) → heard_in session hs ≡ o → IfSome o (λ h. refusal id h.held ≡ None)
    by_found None is = tt
    by_found (Some h) is =
        let here = of_found (IsHeard m.config m.limits m.past) session hs heard h is in
        let same : listening_of m session ≡ h.held.listening = ap (listening_in session) listened ∙ listening_found session hs h is in
        let room : nat_le h.held.limit (len h.held.listening.targets) ≡ false = (λ i. nat_le (here.limit i) (len (sym same i).targets)) ∙ few in
        let free : is_some (get h.held.listening.targets id) ≡ false = ap (λ (s : Listening). is_some (get s.targets id)) (sym same) ∙ (adding_passes m session id t token none).0 in
        λ i. cond (room i) (Some (error.TooMany h.held.limit)) (cond (free i) (Some (error.InUse id)) None)

  -- it has no number yet
  pub may_number : (hs : List Heard) → m.listeners ≡ listeners_of hs → AreHeard m.config m.limits m.past hs → IfSome (heard_in session hs) (λ h. get h.numbers id ≡ None)
  may_number hs listened heard = by_found (heard_in session hs) refl where
    by_test : (o : Option Listened) → is_some o ≡ false → o ≡ None
    by_test None free = refl
    by_test (Some t) free = absurd (cc)

    by_found : (o : Option Heard) → heard_in session hs ≡ o → IfSome o (λ h. get h.numbers id ≡ None)
    by_found None is = tt
    by_found (Some h) is =
        let here = of_found (IsHeard m.config m.limits m.past) session hs heard h is in
        let same : listening_of m session ≡ h.held.listening = ap (listening_in session) listened ∙ listening_found session hs h is in
        here.numbered id (by_test (get h.held.listening.targets id) (ap (λ (s : Listening). is_some (get s.targets id)) (sym same) ∙ (adding_passes m session id t token none).0))

  -- and the next number is none of its session's
  pub may_use : (hs : List Heard) (given : ℕ) → AllByRecursion (NumbersHold given) (listeners_of hs) → IfSome (heard_in session hs) (λ h. (other : ℕ) → get h.numbers other ≢ Some (given + 1))
  may_use hs given holds = by_found (heard_in session hs) refl where
    by_found : (o : Option Heard) → heard_in session hs ≡ o → IfSome o (λ h. (other : ℕ) → get h.numbers other ≢ Some (given + 1))
    by_found None is = tt
    by_found (Some h) is =
        let here = of_found (λ (k : Heard). NumbersHold given (listener_of k)) session hs (all_unmapped (NumbersHold given) listener_of hs holds) h is in
        λ other there. let low = here.given other (given + 1) there in absurd (omega (arith, low))

-- ---- what is kept

all_of : {X : Type 0} (P : X → Type 0) → ((x : X) → P x) → (xs : List X) → AllByRecursion P xs
all_of P each [] = tt
all_of P each (x ∷ xs) = (each x, all_of P each xs)

module _ (session id number : ℕ) (t : Target) (token : Option ℤ) where
  abbrev with_new : Listener → Listener
  with_new l = record l { listening = added id t token l.listening; numbers = insert l.numbers id number }

  pub listeners_adding : (hs : List Heard) → listeners_of (with_heard session (heard_adding id number t token) hs) ≡ with_listener session with_new (listeners_of hs)
  listeners_adding hs =
      listeners_with session (heard_adding id number t token) with_new hs
      (all_of (λ (h : Heard). listener_of (heard_adding id number t token h) ≡ with_new (listener_of h)) (λ h. refl) hs)

  pub heard_added : AddingKeeps → (config : Config) (limits : Limits) (p : Past) (hs : List Heard) → IfSome token (λ k. k ≤ℤ p.released)
      → AreHeard config limits p hs → AreHeard config limits p (with_heard session (heard_adding id number t token) hs)
  heard_added law config limits p hs by all =
      all_with (IsHeard config limits p) session (heard_adding id number t token) hs
      (λ h found here. record { keeps = law p.history p.released h.held id t token here.keeps by; shards = here.shards; limit = here.limit; numbered = adding_numbered id number t token h.held.listening h.numbers here.numbered }) all

module _ (session id : ℕ) where
  abbrev with_less : Listener → Listener
  with_less l = record l { listening = removed id l.listening; numbers = remove l.numbers id }

  pub listeners_removing : (hs : List Heard) → listeners_of (with_heard session (heard_removing id) hs) ≡ with_listener session with_less (listeners_of hs)
  listeners_removing hs =
      listeners_with session (heard_removing id) with_less hs (all_of (λ (h : Heard). listener_of (heard_removing id h) ≡ with_less (listener_of h)) (λ h. refl) hs)

  pub heard_removed : RemovingKeeps → (config : Config) (limits : Limits) (p : Past) (hs : List Heard) → AreHeard config limits p hs → AreHeard config limits p (with_heard session (heard_removing id) hs)
  heard_removed law config limits p hs all =
      all_with (IsHeard config limits p) session (heard_removing id) hs
      (λ h found here. record { keeps = law p.history p.released h.held id here.keeps; shards = here.shards; limit = here.limit; numbered = removing_numbered id h.held.listening h.numbers here.numbered }) all

module _ (config : Config) (limits : Limits) (p : Past) (txns : Transactions) (ss : List Session) (hs more : List Heard) (parked : List ParkedRequest) (streams : Streams) (numbers : Numbers)
    (kept : IsKept config limits p txns ss hs parked streams numbers) where
  pub kept_adding : AddingKeeps → (session id : ℕ) (t : Target) (token : Option ℤ) → IfSome token (λ k. k ≤ℤ p.released) → more ≡ with_heard session (heard_adding id (numbers.targets + 1) t token) hs
      → IsKept config limits p txns ss more parked streams (record numbers { targets = numbers.targets + 1 })
  kept_adding law session id t token by is = record {
    configured = kept.configured;
    allowed = kept.allowed;
    drawn = kept.drawn;
    held = kept.held;
    numbered = kept.numbered;
    listened =
        subst (λ ls. ListenersHold p ss ls (numbers.targets + 1)) (sym (ap listeners_of is ∙ listeners_adding session id (numbers.targets + 1) t token hs))
        (listeners_added p ss (listeners_of hs) numbers.targets session id t token by kept.listened);
    waiting = kept.waiting;
    streaming = kept.streaming;
    shards = kept.shards;
    heard = subst (AreHeard config limits p) (sym is) (heard_added session id (numbers.targets + 1) t token law config limits p hs by kept.heard);
  }

  pub kept_removing : RemovingKeeps → (session id : ℕ) → more ≡ with_heard session (heard_removing id) hs → IsKept config limits p txns ss more parked streams numbers
  kept_removing law session id is = record {
    configured = kept.configured;
    allowed = kept.allowed;
    drawn = kept.drawn;
    held = kept.held;
    numbered = kept.numbered;
    listened =
        subst (λ ls. ListenersHold p ss ls numbers.targets) (sym (ap listeners_of is ∙ listeners_removing session id hs))
        (listeners_removed p ss (listeners_of hs) numbers.targets session id kept.listened);
    waiting = kept.waiting;
    streaming = kept.streaming;
    shards = kept.shards;
    heard = subst (AreHeard config limits p) (sym is) (heard_removed session id law config limits p hs kept.heard);
  }
