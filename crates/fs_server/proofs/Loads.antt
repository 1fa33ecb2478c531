-- A target is loaded: why it isn't, when it may be, and what is kept then.
use Rattle.std.proofs.Common.{◌≡◌, ℕ, ℤ, ◌≤ℤ◌, Bool, true, false, cond, List, [], ◌∷◌, ◌++◌, Option, Some, None, refl, sym, ap, ◌∙◌, subst, arith, pos}
use Rattle.std.specs.Prelude.{IfSome, int_lt, unwrap_or}
use Rattle.std.specs.FinMap.{get}
use Rattle.std.specs.List.{AllByRecursion}
use Rattle.std.specs.Option.{option_and_then, option_map}
use Rattle.std.proofs.lemmas.Int.{ints}
use Rattle.fs_history.specs.History.{at}
use Rattle.fs_match.specs.Followed.{docs_fitting}
use Rattle.fs_query.specs.declared.listen.ListenMessage.TheVariants as listen
use Rattle.fs_request.specs.declared.message.Message.TheVariants as message
use Rattle.fs_status.specs.Refusal.{refusal_of}
use Rattle.fs_status.specs.declared.reason.Reason.TheVariants.{TargetUnknown}
use Rattle.fs_status.specs.declared.refusal.Refusal.{Refusal}
use Rattle.fs_value.specs.declared.document.Document.{Document}
use Rattle.fs_write.specs.Batch.{docs_of}
use Rattle.fs_listen.specs.Cuts.{is_loaded}
use Rattle.fs_listen.specs.Listening.{Listened, Listening, Loaded, loaded as loaded_in}
use Rattle.fs_listen.specs.Runs.{is_lost}
use Rattle.fs_listen.specs.View.{is_listened, view_at}
use Rattle.fs_target.specs.Laws.{LoadingKeeps}
use Rattle.fs_machine.specs.Facts.{Facts}
use Rattle.fs_machine.specs.Listen.{listening_of}
use Rattle.fs_machine.specs.Listeners.{Listener, listening_in, with_listening}
use Rattle.fs_machine.specs.ListenersHold.{ListenersHold}
use Rattle.fs_machine.specs.Load.{load_refusal, refusal_at, time_refusal, with_reset}
use Rattle.fs_machine.specs.Past.{Past}
use Rattle.fs_machine.specs.State.{Machine}
use Rattle.fs_machine.specs.declared.config.Config.{Config}
use Rattle.fs_machine.specs.declared.limits.Limits.{Limits}
use Rattle.fs_machine.specs.declared.session.Session.{Session}
use Rattle.fs_machine.proofs.Listening.{listening_holds, loads_at}
use Rattle.fs_machine.proofs.ListenersHold.{listeners_loaded, listeners_told}
use Rattle.fs_machine.proofs.SessionsNumbered.{numbers_of, same_numbers, sessions_same}
use Rattle.fs_sessions.specs.Heard.{AreHeard, Heard, IsHeard, heard_loading, listener_of, listeners_of, with_heard}
use Rattle.fs_server.specs.Kept.{IsKept}
use Rattle.fs_server.specs.Loading.{IsFree, IsFreeAt}
use Rattle.fs_sessions.specs.Place.{taken_back}
use Rattle.fs_sessions.proofs.Ears.{all_with, listeners_with, listening_found}
use Rattle.fs_sessions.proofs.Places.{delivered_and_taken_back}
use Rattle.fs_server.proofs.Unnumbered.{loading_numbered}

-- ---- why one isn't loaded, by whether it is

module _ (p : Past) (target : ℕ) (at_time : Option ℤ) where
  pub refused_unknown : (o : Option Listened) → None ≡ option_map (λ (l : Listened). is_loaded l.loaded) o → Some (refusal_of (TargetUnknown (pos target))) ≡ refusal_at p target at_time o
  refused_unknown None is = refl
  refused_unknown (Some l) is = absurd (cc)

  pub refused_loaded : (o : Option Listened) → Some true ≡ option_map (λ (l : Listened). is_loaded l.loaded) o → None ≡ refusal_at p target at_time o
  refused_loaded None is = absurd (cc)
  refused_loaded (Some l) is = let there : true ≡ is_loaded l.loaded = cc in ap (λ b. cond b None (time_refusal p l at_time)) there

  pub refused_loading : (o : Option Listened) → Some false ≡ option_map (λ (l : Listened). is_loaded l.loaded) o
      → (r : Option Refusal) → ((l : Listened) → o ≡ Some l → r ≡ time_refusal p l at_time) → r ≡ refusal_at p target at_time o
  refused_loading None is r so = absurd (cc)
  refused_loading (Some l) is r so = let there : false ≡ is_loaded l.loaded = cc in so l refl ∙ ap (λ b. cond b None (time_refusal p l at_time)) there

-- ---- when one may be loaded

not_loaded : (o : Option Loaded) → is_loaded o ≡ false → o ≡ None
not_loaded None is = refl
not_loaded (Some l) is = absurd (cc)

apart : (o : Option Listened) → (Some true ≡ option_map (λ (l : Listened). is_loaded l.loaded) o → ⊥) → (l : Listened) → o ≡ Some l → (b : Bool) → is_loaded l.loaded ≡ b → b ≡ false
apart o not l is true there = absurd (not (sym (ap (option_map (λ (k : Listened). is_loaded k.loaded)) is ∙ ap Some there)))
apart o not l is false there = refl

module _ (m : Machine) (facts : Facts m) (session target : ℕ) (at_time : Option ℤ) where
  free_by : (o : Option Listened) → get (listening_of m session).targets target ≡ o → refusal_at m.past target at_time o ≡ None → (Some true ≡ option_map (λ (l : Listened). is_loaded l.loaded) o → ⊥)
      → IsFreeAt m.past.floor m.past.released (unwrap_or at_time m.past.released) o
  free_by None is none not = absurd (cc)
  free_by (Some l) is none not =
      let there = apart (Some l) not l refl (is_loaded l.loaded) refl in
      let both = loads_at m.past target at_time l facts.past.floor none there in
      let holds = listening_holds m.past session m.listeners facts.listeners.times in
      (not_loaded l.loaded there, both.0, both.1, (holds.targets target l is).0)

  pub is_free : load_refusal m session target at_time ≡ None → (Some true ≡ option_map (λ (l : Listened). is_loaded l.loaded) (get (listening_of m session).targets target) → ⊥)
      → IsFree m session target (unwrap_or at_time m.past.released)
  is_free none not = free_by (get (listening_of m session).targets target) refl none not

-- ---- what is kept

-- a session that is told is numbered as it was
numbers_reset : (ss : List Session) (session target : ℕ) (reset : Bool) → numbers_of (with_reset session target reset ss) ≡ numbers_of ss
numbers_reset ss session target true = same_numbers ss session (λ ms. ms ++ message.Listen (listen.Reset (target ∷ [])) ∷ [])
numbers_reset ss session target false = refl

all_sharded : (config : Config) (limits : Limits) (p : Past) (id : ℕ) (time : ℤ) (reset : Bool) (sent docs : List Document) (hs : List Heard) → AreHeard config limits p hs
    → AllByRecursion (λ (h : Heard). listener_of (heard_loading id sent reset docs time h) ≡ record (listener_of h) { listening = loaded_in config.shards id time reset h.held.listening }) hs
all_sharded config limits p id time reset sent docs [] all = tt
all_sharded config limits p id time reset sent docs (h ∷ hs) all = (
  ap (λ n. record (listener_of h) { listening = loaded_in n id time reset h.held.listening }) all.0.shards,
  all_sharded config limits p id time reset sent docs hs all.1,
)

pub listeners_loading : (config : Config) (limits : Limits) (p : Past) (session id : ℕ) (time : ℤ) (reset : Bool) (sent docs : List Document) (hs : List Heard) → AreHeard config limits p hs
    → listeners_of (with_heard session (heard_loading id sent reset docs time) hs) ≡ with_listening session (loaded_in config.shards id time reset) (listeners_of hs)
listeners_loading config limits p session id time reset sent docs hs all =
    listeners_with session (heard_loading id sent reset docs time) (λ (l : Listener). record l { listening = loaded_in config.shards id time reset l.listening }) hs
    (all_sharded config limits p id time reset sent docs hs all)

-- of a target that is there and may be loaded
free_one : (floor released time : ℤ) (o : Option Listened) → IsFreeAt floor released time o → (l : Listened) × (o ≡ Some l) × IsFreeAt floor released time (Some l)
free_one floor released time None is = absurd is
free_one floor released time (Some l) is = (l, refl, is)

-- the documents that it was sent, and those that it listens to
pub record HasDocuments (m : Machine) (session target : ℕ) (time : ℤ) (reset : Bool) (sent docs : List Document) : Type 0 where
  pub sent_are : (l : Listened) → get (listening_of m session).targets target ≡ Some l → docs_of sent ≡ view_at l.target m.past.history (cond reset None l.token)
  pub docs_are : (l : Listened) → get (listening_of m session).targets target ≡ Some l → docs_of docs ≡ docs_fitting (is_listened l.target) (at m.past.history time)

module _ (m : Machine) (hs : List Heard) (listened : m.listeners ≡ listeners_of hs) (session target : ℕ) (time : ℤ) (reset : Bool) (sent docs : List Document)
    (free : IsFree m session target time) (have : HasDocuments m session target time reset sent docs) where
  pub heard_loaded : LoadingKeeps → AreHeard m.config m.limits m.past hs → AreHeard m.config m.limits m.past (with_heard session (heard_loading target sent reset docs time) hs)
  heard_loaded law all =
      let one = free_one m.past.floor m.past.released time (get (listening_of m session).targets target) free in
      all_with (IsHeard m.config m.limits m.past) session (heard_loading target sent reset docs time) hs
      (λ h found here.
      let same : listening_of m session ≡ h.held.listening = ap (listening_in session) listened ∙ listening_found session hs h found in
      record {
        keeps =
            law m.past.history m.past.released h.held target one.0 sent reset docs time here.keeps (ap (λ (s : Listening). get s.targets target) (sym same) ∙ one.1) one.2.0 one.2.2
            (have.sent_are one.0 one.1) (have.docs_are one.0 one.1);
        shards = here.shards;
        limit = here.limit;
        numbered = loading_numbered h.held.shards target time reset h.held.listening h.numbers here.numbered;
      }) all

  pub kept_loading : LoadingKeeps → (ss : List Session) (more : List Heard) → ss ≡ with_reset session target reset m.sessions → more ≡ with_heard session (heard_loading target sent reset docs time) hs
      → IsKept m.config m.limits m.past m.txns m.sessions hs m.parked m.streams m.numbers → IsKept m.config m.limits m.past m.txns ss more m.parked m.streams m.numbers
  kept_loading law ss more told is kept =
      let one = free_one m.past.floor m.past.released time (get (listening_of m session).targets target) free in
      let same : numbers_of ss ≡ numbers_of m.sessions = ap numbers_of told ∙ numbers_reset m.sessions session target reset in
      record {
        configured = kept.configured;
        allowed = kept.allowed;
        drawn = kept.drawn;
        held = kept.held;
        numbered = sessions_same m.sessions ss m.numbers.sessions same kept.numbered;
        listened =
            listeners_told m.past m.sessions ss (listeners_of more) m.numbers.targets same
            (subst (λ ls. ListenersHold m.past m.sessions ls m.numbers.targets)
            (sym (ap listeners_of is ∙ listeners_loading m.config m.limits m.past session target time reset sent docs hs kept.heard))
            (listeners_loaded m.past m.sessions (listeners_of hs) m.numbers.targets session m.config.shards target time reset one.2.1 one.2.2 kept.listened));
        waiting = kept.waiting;
        streaming = kept.streaming;
        shards = kept.shards;
        heard = subst (AreHeard m.config m.limits m.past) (sym is) (heard_loaded law kept.heard);
      }

-- ---- as the code has it

abbrev pub token_in : Option Listened → Option ℤ
token_in o = option_and_then (λ (l : Listened). l.token) o

-- a token that isn't lost shows a time that can be read
resumed_at : (floor released : ℤ) (token : Option ℤ) → IfSome token (λ k. k ≤ℤ released) → IfSome (cond (is_lost floor token) None token) (λ t. (floor ≤ℤ t) × (t ≤ℤ released))
resumed_at floor released None by = tt
resumed_at floor released (Some k) by = of (int_lt k floor) refl where
  of : (lost : Bool) → int_lt k floor ≡ lost → IfSome (cond lost None (Some k)) (λ t. (floor ≤ℤ t) × (t ≤ℤ released))
  of true is = tt
  of false is = (omega (arith, ints, is), by)

pub resumed_within : (floor released time : ℤ) (o : Option Listened) → IsFreeAt floor released time o
    → IfSome (cond (is_lost floor (token_in o)) None (token_in o)) (λ t. (floor ≤ℤ t) × (t ≤ℤ released))
resumed_within floor released time None free = absurd free
resumed_within floor released time (Some l) free = resumed_at floor released l.token free.3

-- a reset that is told is as if it hadn't been, once it is taken back
pub reset_back : (ss : List Session) (session target : ℕ) (reset : Bool) → cond reset (taken_back session (with_reset session target reset ss)) (with_reset session target reset ss) ≡ ss
reset_back ss session target true = delivered_and_taken_back session (message.Listen (listen.Reset (target ∷ []))) ss
reset_back ss session target false = refl
