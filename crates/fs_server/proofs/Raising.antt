-- A session is raised: what it is told then, and what is kept of its targets.
use Rattle.std.proofs.Common.{◌≡◌, ℕ, ℤ, Bool, true, false, cond, List, Option, Some, None, refl, sym, ap, ◌∙◌, subst}
use Rattle.std.specs.Prelude.{IfSome}
use Rattle.std.specs.FinMap.{get, get-empty}
use Rattle.std.specs.List.{filter}
use Rattle.std.specs.Option.{option_and_then, option_map}
use Rattle.std.specs.Ordering.{nat_cmp}
use Rattle.fs_listen.specs.Cuts.{cut, is_loaded, is_ready}
use Rattle.fs_listen.specs.Listening.{Listened, Listening, Loaded, raised_to}
use Rattle.fs_listen.specs.Raised.{raised as sent_by}
use Rattle.fs_listen.specs.declared.cut.Cut.TheVariants.{At, NoTarget}
use Rattle.fs_target.specs.Held.{staged_of}
use Rattle.fs_target.specs.Keeps.{KeepsOf, events_of, is_staged}
use Rattle.fs_target.specs.Laws.{IsRaise, RaisingKeeps, TellsOfHistory}
use Rattle.fs_target.specs.declared.event.TimedEvent.{TimedEvent}
use Rattle.fs_machine.specs.Event.{Event}
use Rattle.fs_machine.specs.Facts.{Facts}
use Rattle.fs_machine.specs.Listen.{listening_of}
use Rattle.fs_machine.specs.Listeners.{Listener, listening_in, with_listening}
use Rattle.fs_machine.specs.Past.{Past}
use Rattle.fs_machine.specs.Raise.{all_told, cut_of, raised, raised_at, raised_to_time}
use Rattle.fs_machine.specs.Refusing.{outbox_is_full}
use Rattle.fs_machine.specs.State.{Machine}
use Rattle.fs_machine.specs.declared.config.Config.{Config}
use Rattle.fs_machine.specs.declared.limits.Limits.{Limits}
use Rattle.fs_machine.specs.declared.session.Session.{Session}
use Rattle.fs_machine.proofs.Runs.{keeps}
use Rattle.fs_server.specs.Events.{IsStagedFor, IsStagedIn, IsStagedOf}
use Rattle.fs_sessions.specs.Heard.{AreHeard, Heard, heard_in, heard_raised, IsHeard, listener_of, listeners_of, with_heard}
use Rattle.fs_sessions.proofs.Ears.{all_with, listeners_with, listening_found, listening_none, of_found}
use Rattle.fs_server.proofs.Every.{all_any}
use Rattle.fs_sessions.proofs.Listened.{none_cut}
use Rattle.fs_sessions.proofs.Raises.{IsTold}
use Rattle.fs_server.proofs.Unnumbered.{raising_numbered}

-- ---- who is together at a time is open

module _ (session : ℕ) (time : ℤ) (hs : List Heard) (together : cut (listening_in session (listeners_of hs)) ≡ At time) where
  open_by : (o : Option Heard) → heard_in session hs ≡ o → (h : Heard) × (heard_in session hs ≡ Some h)
  open_by None is = absurd (let both : NoTarget ≡ At time = sym none_cut ∙ ap cut (sym (listening_none session hs is)) ∙ together in cc)
  open_by (Some h) is = (h, is)

  pub one_open : (h : Heard) × (heard_in session hs ≡ Some h)
  one_open = open_by (heard_in session hs) refl

-- ---- where it leads

module _ (m : Machine) (session : ℕ) (time : ℤ) (room : outbox_is_full m session ≡ false) (together : cut_of m session ≡ At time) (ready : is_ready (listening_of m session) ≡ true) where
  pub raised_so : raised m session ≡ raised_to_time m session time
  raised_so = (λ i. cond (room i) m (cond (ready i) (raised_at m session (together i)) m))

  pub raised_facts : Facts m → Facts (raised_to_time m session time)
  raised_facts facts = subst Facts raised_so (keeps m (Event.raising session) facts)

module _ (m : Machine) (hs : List Heard) (listened : m.listeners ≡ listeners_of hs) (session : ℕ) (time : ℤ) (together : cut_of m session ≡ At time) (ready : is_ready (listening_of m session) ≡ true)
    (heard : AreHeard m.config m.limits m.past hs) where
  is_raise : (h : Heard) → heard_in session hs ≡ Some h → IsRaise m.past.history m.past.released time h.held
  is_raise h found =
      let same = ap (listening_in session) listened ∙ listening_found session hs h found in
      record {
        keeps = (of_found (IsHeard m.config m.limits m.past) session hs heard h found).keeps;
        at_time = ap cut (sym same) ∙ together;
        ready = ap is_ready (sym same) ∙ ready;
      }

  -- what is kept is what the history has still
  pub heard_then : RaisingKeeps → AreHeard m.config m.limits m.past (with_heard session (heard_raised time) hs)
  heard_then law =
      all_with (IsHeard m.config m.limits m.past) session (heard_raised time) hs
      (λ h found holds. record { keeps = law m.past.history m.past.released time h.held (is_raise h found); shards = holds.shards; limit = holds.limit; numbered = raising_numbered time h.held.listening h.numbers holds.numbered }) heard

  -- and it is told what a raise sends over the history
  pub told_then : TellsOfHistory → (ss : List Session) → IfSome (heard_in session hs) (IsTold m.past.history time session m.sessions ss) → ss ≡ all_told session (sent_by m.past.history time (listening_of m session)) m.sessions
  told_then law ss told =
      let one = one_open session time hs (ap (λ ls. cut (listening_in session ls)) (sym listened) ∙ together) in
      let h = one.0 in
      let here : IsTold m.past.history time session m.sessions ss h = subst (λ o. IfSome o (IsTold m.past.history time session m.sessions ss)) one.1 told in
      let same = ap (listening_in session) listened ∙ listening_found session hs h one.1 in
      let said = law m.past.history m.past.released time h.held (is_raise h one.1) ∙ ap (sent_by m.past.history time) (sym same) in
      here ∙ ap (λ said. all_told session said m.sessions) said

  pub listeners_then : listeners_of (with_heard session (heard_raised time) hs) ≡ with_listening session (raised_to time) m.listeners
  listeners_then =
      listeners_with session (heard_raised time) (λ (l : Listener). record l { listening = raised_to time l.listening }) hs
      (all_any (λ (h : Heard). listener_of (heard_raised time h) ≡ record (listener_of h) { listening = raised_to time (listener_of h).listening }) (λ h. refl) hs)
      ∙ ap (with_listening session (raised_to time)) (sym listened)

-- ---- what is staged

module _ (config : Config) (limits : Limits) (p : Past) (h : Heard) (is : IsHeard config limits p h) (id : ℕ) (es : Option (List TimedEvent)) (staged : es ≡ staged_of (get h.held.kept id)) where
  abbrev AreKept : Listened → Option Loaded → Type 0
  AreKept l o = KeepsOf p.history is.keeps.commits p.released h.held.shards h.held.listening.raised id l.target l.token o (get h.held.kept id)

  staged_by : (l : Listened) (o : Option Loaded) → AreKept l o → IsStagedFor p.history config.shards h.held.listening.raised id l.target o es
  staged_by l None kept = staged ∙ ap staged_of kept
  staged_by l (Some d) kept =
      let k = kept.0 in
      let one = kept.2 in
      subst (IsStagedFor p.history config.shards h.held.listening.raised id l.target (Some d)) (sym (staged ∙ ap staged_of kept.1))
      (record {
        commits = is.keeps.commits;
        brought = is.keeps.brought;
        base = one.base;
        is_base = one.is_base;
        staged = subst (λ n. k.staged ≡ filter (is_staged n one.base d.positions) (events_of id l.target is.keeps.commits)) is.shards one.staged;
      })

  staged_one : (l : Listened) → get h.held.listening.targets id ≡ Some l → IsStagedIn p.history config.shards h.held.listening.raised id (get h.held.listening.targets id) es
  staged_one l found = subst (λ o. IsStagedIn p.history config.shards h.held.listening.raised id o es) (sym found) (staged_by l l.loaded (is.keeps.targets id l found))

  pub staged_found : (o : Option Listened) → get h.held.listening.targets id ≡ o → (there : Bool) → Some there ≡ option_map (λ (l : Listened). is_loaded l.loaded) o
      → IsStagedIn p.history config.shards h.held.listening.raised id (get h.held.listening.targets id) es
  staged_found None found there loaded = absurd (cc)
  staged_found (Some l) found there loaded = staged_one l found

module _ (m : Machine) (hs : List Heard) (listened : m.listeners ≡ listeners_of hs) (heard : AreHeard m.config m.limits m.past hs) (session id : ℕ) (es : Option (List TimedEvent))
    (staged : es ≡ option_and_then (λ (h : Heard). staged_of (get h.held.kept id)) (heard_in session hs)) (there : Bool)
    (loaded : Some there ≡ option_map (λ (l : Listened). is_loaded l.loaded) (get (listening_in session (listeners_of hs)).targets id)) where
  staged_in : (o : Option Heard) → heard_in session hs ≡ o → IsStagedOf m session id es
  staged_in None none =
      absurd (
      let nothing = ap (λ (s : Listening). option_map (λ (l : Listened). is_loaded l.loaded) (get s.targets id)) (listening_none session hs none) ∙ ap (option_map (λ (l : Listened). is_loaded l.loaded)) (get-empty nat_cmp id) in
      let both : Some there ≡ None = loaded ∙ nothing in
      cc)
  staged_in (Some h) found =
      let same = listening_found session hs h found in
      let one = staged ∙ ap (option_and_then (λ (k : Heard). staged_of (get k.held.kept id))) found in
      let is = of_found (IsHeard m.config m.limits m.past) session hs heard h found in
      subst (λ (s : Listening). IsStagedIn m.past.history m.config.shards s.raised id (get s.targets id) es) (sym (ap (listening_in session) listened ∙ same))
      (staged_found m.config m.limits m.past h is id es one (get h.held.listening.targets id) refl there
      (loaded ∙ ap (λ (s : Listening). option_map (λ (l : Listened). is_loaded l.loaded) (get s.targets id)) same))

  pub are_staged : IsStagedOf m session id es
  are_staged = staged_in (heard_in session hs) refl
