-- What loading and raising keep, and what they leave alone.
use Rattle.std.proofs.Common.{◌≡◌, ℕ, ℤ, ◌≤ℤ◌, Bool, true, false, cond, List, [], ◌∷◌, ◌++◌, map, Option, Some, None, refl, sym, ap, ◌∙◌, arith}
use Rattle.std.specs.Prelude.{◌==◌, int_lt, unwrap_or}
use Rattle.std.specs.FinMap.{get}
use Rattle.std.specs.List.{AllByRecursion}
use Rattle.std.specs.Int.Signed.{≤ℤ_refl}
use Rattle.std.proofs.lemmas.Int.{ints}
use Rattle.fs_query.specs.declared.listen.ListenMessage.TheVariants as listen
use Rattle.fs_request.specs.declared.message.Message.TheVariants as message
use Rattle.fs_status.specs.declared.refusal.Refusal.{Refusal}
use Rattle.fs_listen.specs.Cuts.{is_loaded, is_ready}
use Rattle.fs_listen.specs.Listening.{Listened, loaded as loaded_in}
use Rattle.fs_listen.specs.Raised.{raised as sent_by}
use Rattle.fs_listen.specs.Runs.{is_lost}
use Rattle.fs_listen.specs.declared.cut.Cut.{Cut}
use Rattle.fs_listen.specs.declared.cut.Cut.TheVariants.{At, Loading, NoTarget}
use Rattle.fs_machine.specs.FloorIsReleased.{FloorIsReleased}
use Rattle.fs_machine.specs.Listen.{listening_of}
use Rattle.fs_machine.specs.Listeners.{Listener, listening_in, with_listening}
use Rattle.fs_machine.specs.ListenersHold.{ListenersHold, ListeningHolds}
use Rattle.fs_machine.specs.Load.{load_floor, load_refusal, loaded, loaded_unless, loaded_with, refusal_at, time_refusal, with_reset}
use Rattle.fs_machine.specs.Past.{Past}
use Rattle.fs_machine.specs.Raise.{cut_of, raised, raised_at}
use Rattle.fs_machine.specs.Refusing.{outbox_is_full}
use Rattle.fs_machine.specs.State.{Machine}
use Rattle.fs_machine.specs.declared.session.Session.{Session}
use Rattle.fs_machine.proofs.Holding.{within_from}
use Rattle.fs_machine.proofs.ListenersHold.{cut_released, listeners_loaded, listeners_raised, listeners_told, none_holds}
use Rattle.fs_machine.proofs.SessionsNumbered.{numbers_of, same_numbers}

-- all but the listeners and the outboxes
abbrev pub beside_listening : Machine → Machine → Machine
beside_listening m n = record m { listeners = n.listeners; sessions = n.sessions }

loaded_by_test : (m : Machine) (session target : ℕ) (time : ℤ) (reset there : Bool)
    → cond there m (loaded_with m session target time reset) ≡ beside_listening m (cond there m (loaded_with m session target time reset))
loaded_by_test m session target time reset true = refl
loaded_by_test m session target time reset false = refl

unless_rest : (m : Machine) (session target : ℕ) (at : Option ℤ) (found : Option Listened) (refusal : Option Refusal)
    → loaded_unless m session target at found refusal ≡ beside_listening m (loaded_unless m session target at found refusal)
unless_rest m session target at None refusal = refl
unless_rest m session target at (Some l) (Some refusal) = refl
unless_rest m session target at (Some l) None =
    loaded_by_test m session target (unwrap_or at m.past.released) (is_lost m.past.floor l.token) (is_loaded l.loaded)

pub loaded_rest : (m : Machine) (session target : ℕ) (at : Option ℤ) → loaded m session target at ≡ beside_listening m (loaded m session target at)
loaded_rest m session target at = unless_rest m session target at (get (listening_of m session).targets target) (load_refusal m session target at)

raised_at_rest : (m : Machine) (session : ℕ) (to : Cut) → raised_at m session to ≡ beside_listening m (raised_at m session to)
raised_at_rest m session (At time) = refl
raised_at_rest m session (Loading id) = refl
raised_at_rest m session NoTarget = refl

raised_by_test : (m : Machine) (session : ℕ) (full ready : Bool)
    → cond full m (cond ready (raised_at m session (cut_of m session)) m) ≡ beside_listening m (cond full m (cond ready (raised_at m session (cut_of m session)) m))
raised_by_test m session true ready = refl
raised_by_test m session false true = raised_at_rest m session (cut_of m session)
raised_by_test m session false false = refl

pub raised_rest : (m : Machine) (session : ℕ) → raised m session ≡ beside_listening m (raised m session)
raised_rest m session = raised_by_test m session (outbox_is_full m session) (is_ready (listening_of m session))

-- ---- the sessions stay

reset_numbers : (ss : List Session) (session target : ℕ) (reset : Bool) → numbers_of (with_reset session target reset ss) ≡ numbers_of ss
reset_numbers ss session target true = same_numbers ss session (λ ms. ms ++ message.Listen (listen.Reset (target ∷ [])) ∷ [])
reset_numbers ss session target false = refl

loaded_numbers_by : (m : Machine) (session target : ℕ) (time : ℤ) (reset there : Bool) → numbers_of (cond there m (loaded_with m session target time reset)).sessions ≡ numbers_of m.sessions
loaded_numbers_by m session target time reset true = refl
loaded_numbers_by m session target time reset false = reset_numbers m.sessions session target reset

unless_numbers : (m : Machine) (session target : ℕ) (at : Option ℤ) (found : Option Listened) (refusal : Option Refusal) → numbers_of (loaded_unless m session target at found refusal).sessions ≡ numbers_of m.sessions
unless_numbers m session target at None refusal = refl
unless_numbers m session target at (Some l) (Some refusal) = refl
unless_numbers m session target at (Some l) None = loaded_numbers_by m session target (unwrap_or at m.past.released) (is_lost m.past.floor l.token) (is_loaded l.loaded)

pub loaded_numbers : (m : Machine) (session target : ℕ) (at : Option ℤ) → numbers_of (loaded m session target at).sessions ≡ numbers_of m.sessions
loaded_numbers m session target at = unless_numbers m session target at (get (listening_of m session).targets target) (load_refusal m session target at)

raised_at_numbers : (m : Machine) (session : ℕ) (to : Cut) → numbers_of (raised_at m session to).sessions ≡ numbers_of m.sessions
raised_at_numbers m session (At time) = same_numbers m.sessions session (λ ms. ms ++ map message.Listen (sent_by m.past.history time (listening_of m session)))
raised_at_numbers m session (Loading id) = refl
raised_at_numbers m session NoTarget = refl

raised_numbers_by : (m : Machine) (session : ℕ) (full ready : Bool) → numbers_of (cond full m (cond ready (raised_at m session (cut_of m session)) m)).sessions ≡ numbers_of m.sessions
raised_numbers_by m session true ready = refl
raised_numbers_by m session false true = raised_at_numbers m session (cut_of m session)
raised_numbers_by m session false false = refl

pub raised_numbers : (m : Machine) (session : ℕ) → numbers_of (raised m session).sessions ≡ numbers_of m.sessions
raised_numbers m session = raised_numbers_by m session (outbox_is_full m session) (is_ready (listening_of m session))

-- ---- a load

-- it is at a time that can be read
floor_first : (floor : ℤ) (token : Option ℤ) → floor ≤ℤ load_floor floor token
floor_first floor None = omega (arith, ints)
floor_first floor (Some t) = by_test (int_lt floor t) refl where
  by_test : (less : Bool) → int_lt floor t ≡ less → floor ≤ℤ cond less t floor
  by_test true is = grind (arith, ints)
  by_test false is = omega (arith, ints)

pub may_load : (p : Past) (l : Listened) (at : Option ℤ) → FloorIsReleased p → time_refusal p l at ≡ None → (p.floor ≤ℤ unwrap_or at p.released) × (unwrap_or at p.released ≤ℤ p.released)
may_load p l None within none = (within, ≤ℤ_refl p.released)
may_load p l (Some t) within none =
    let both = within_from (load_floor p.floor l.token) p t none in
    let low = both.0 in
    let first = floor_first p.floor l.token in
    (omega (arith, ints), both.1)

-- what one asks for that isn't refused
pub loads_at : (p : Past) (target : ℕ) (at : Option ℤ) (l : Listened) → FloorIsReleased p → refusal_at p target at (Some l) ≡ None → is_loaded l.loaded ≡ false
    → (p.floor ≤ℤ unwrap_or at p.released) × (unwrap_or at p.released ≤ℤ p.released)
loads_at p target at l within none there = may_load p l at within (sym (ap (λ b. cond b None (time_refusal p l at)) there) ∙ none)

module _ (m : Machine) (within : FloorIsReleased m.past) (holds : ListenersHold m.past m.sessions m.listeners m.numbers.targets) where
  loaded_with_listens : (session target : ℕ) (time : ℤ) (reset : Bool) → m.past.floor ≤ℤ time → time ≤ℤ m.past.released
      → ListenersHold m.past (with_reset session target reset m.sessions) (with_listening session (loaded_in m.config.shards target time reset) m.listeners) m.numbers.targets
  loaded_with_listens session target time reset low high =
      listeners_told m.past m.sessions (with_reset session target reset m.sessions) _ m.numbers.targets (reset_numbers m.sessions session target reset)
      (listeners_loaded m.past m.sessions m.listeners m.numbers.targets session m.config.shards target time reset low high holds)

  load_by_test : (session target : ℕ) (at : Option ℤ) (l : Listened) (there : Bool) → is_loaded l.loaded ≡ there → refusal_at m.past target at (Some l) ≡ None
      → ListenersHold m.past (cond there m (loaded_with m session target (unwrap_or at m.past.released) (is_lost m.past.floor l.token))).sessions
      (cond there m (loaded_with m session target (unwrap_or at m.past.released) (is_lost m.past.floor l.token))).listeners m.numbers.targets
  load_by_test session target at l true is none = holds
  load_by_test session target at l false is none =
      let both = loads_at m.past target at l within none is in
      loaded_with_listens session target (unwrap_or at m.past.released) (is_lost m.past.floor l.token) both.0 both.1

  unless_listens : (session target : ℕ) (at : Option ℤ) (found : Option Listened) (refusal : Option Refusal) → refusal_at m.past target at found ≡ refusal
      → ListenersHold m.past (loaded_unless m session target at found refusal).sessions (loaded_unless m session target at found refusal).listeners m.numbers.targets
  unless_listens session target at None refusal is = holds
  unless_listens session target at (Some l) (Some refusal) is = holds
  unless_listens session target at (Some l) None is = load_by_test session target at l (is_loaded l.loaded) refl is

  pub loaded_listens : (session target : ℕ) (at : Option ℤ) → ListenersHold m.past (loaded m session target at).sessions (loaded m session target at).listeners m.numbers.targets
  loaded_listens session target at = unless_listens session target at (get (listening_of m session).targets target) (load_refusal m session target at) refl

-- ---- a raise

pub listening_holds : (p : Past) (session : ℕ) (ls : List Listener) → AllByRecursion (λ (l : Listener). ListeningHolds p l.listening) ls → ListeningHolds p (listening_in session ls)
listening_holds p session [] all = none_holds p
listening_holds p session (l ∷ ls) all = by_test (listening_holds p session ls all.1) (l.session == session) where
  by_test : ListeningHolds p (listening_in session ls) → (here : Bool) → ListeningHolds p (cond here l.listening (listening_in session ls))
  by_test rest true = all.0
  by_test rest false = rest

module _ (m : Machine) (holds : ListenersHold m.past m.sessions m.listeners m.numbers.targets) (session : ℕ) where
  raised_at_listens : (to : Cut) → cut_of m session ≡ to → ListenersHold m.past (raised_at m session to).sessions (raised_at m session to).listeners m.numbers.targets
  raised_at_listens (At time) is =
      let by = cut_released m.past (listening_of m session) time (listening_holds m.past session m.listeners holds.times) is in
      listeners_told m.past m.sessions (raised_at m session (At time)).sessions _ m.numbers.targets (raised_at_numbers m session (At time))
      (listeners_raised m.past m.sessions m.listeners m.numbers.targets session time by holds)
  raised_at_listens (Loading id) is = holds
  raised_at_listens NoTarget is = holds

  raised_by_listens : (full ready : Bool) → ListenersHold m.past (cond full m (cond ready (raised_at m session (cut_of m session)) m)).sessions
      (cond full m (cond ready (raised_at m session (cut_of m session)) m)).listeners m.numbers.targets
  raised_by_listens true ready = holds
  raised_by_listens false true = raised_at_listens (cut_of m session) refl
  raised_by_listens false false = holds

  pub raised_listens : ListenersHold m.past (raised m session).sessions (raised m session).listeners m.numbers.targets
  raised_listens = raised_by_listens (outbox_is_full m session) (is_ready (listening_of m session))
