-- Each session that listens goes through a run of its own, in which it is told the same. So what holds of such runs holds of it.
use Rattle.std.proofs.Common.{◌≡◌, inl, inr, ℕ, ◌+◌, ◌<◌, ◌≤◌, ℤ, ◌≤ℤ◌, Bool, true, false, cond, List, [], ◌∷◌, ◌++◌, map, Option, Some, None, Result, Ok, Err, refl, sym, ap, ◌∙◌, subst, arith}
use Rattle.std.specs.Prelude.{IfSome, drop, length, slice_get, unwrap_or, ◌==◌}
use Rattle.std.specs.FinMap.{get}
use Rattle.std.specs.List.{filter_map}
use Rattle.std.proofs.lemmas.Bool.{eqb-true}
use Rattle.std.proofs.lemmas.Int.{ints}
use Rattle.std.proofs.lemmas.List.{append_assoc, append-nil}
use Rattle.fs_query.specs.declared.listen.ListenMessage.{ListenMessage}
use Rattle.fs_query.specs.declared.listen.ListenMessage.TheVariants as listen
use Rattle.fs_request.specs.declared.message.Message.TheVariants as message
use Rattle.fs_request.specs.declared.request.Envelope.{Envelope}
use Rattle.fs_status.specs.declared.refusal.Refusal.{Refusal}
use Rattle.fs_write.specs.Batch.{Docs}
use Rattle.fs_write.specs.declared.write_result.WriteResult.{WriteResult}
use Rattle.fs_listen.specs.Cuts.{cut, is_loaded, is_ready}
use Rattle.fs_listen.specs.Gathered.{NeverFalls, ended_at, raise_in}
use Rattle.fs_listen.specs.Laws.{ConsistentCuts, IsOneTime, IsServed, ServedAreRaised as SessionsServed, TimesNeverFall}
use Rattle.fs_listen.specs.Listening.{Listened, Listening, Loaded, loaded as loaded_in, raised_to}
use Rattle.fs_listen.specs.Raised.{raised as sent_by}
use Rattle.fs_listen.specs.Runs.{World, is_lost, raising_at, reset_of, token_of_target}
use Rattle.fs_listen.specs.Runs as run
use Rattle.fs_listen.specs.declared.cut.Cut.{Cut}
use Rattle.fs_listen.specs.declared.cut.Cut.TheVariants.{At, Loading, NoTarget}
use Rattle.fs_machine.specs.Compact.{earlier, first_asked, floor_after}
use Rattle.fs_machine.specs.Event.{Event, after, step}
use Rattle.fs_machine.specs.Facts.{Facts}
use Rattle.fs_machine.specs.FloorIsReleased.{FloorIsReleased}
use Rattle.fs_machine.specs.Leave.{departed}
use Rattle.fs_machine.specs.Listen.{listening_of}
use Rattle.fs_machine.specs.ListenLaws.{CutsAreConsistent, RaisesNeverFall, ServedAreRaised}
use Rattle.fs_machine.specs.Listeners.{Listener}
use Rattle.fs_machine.specs.Load.{load_refusal, loaded, loaded_unless, loaded_with, refusal_at}
use Rattle.fs_machine.specs.Open.{is_full, with_session}
use Rattle.fs_machine.specs.Outbox.{outbox_of}
use Rattle.fs_machine.specs.Past.{Past}
use Rattle.fs_machine.specs.Raise.{cut_of, raised, raised_at, raised_to_time}
use Rattle.fs_machine.specs.Refusing.{outbox_is_full}
use Rattle.fs_machine.specs.Release.{committed_out}
use Rattle.fs_machine.specs.Request.{answered, arrival_refusal, arrived, asked}
use Rattle.fs_machine.specs.Retry.{retried_if, tried_answer}
use Rattle.fs_machine.specs.Settle.{decided_if, decided_with, outcome_of, pending_of}
use Rattle.fs_machine.specs.State.{Machine, started}
use Rattle.fs_machine.specs.Stream.{desk_of}
use Rattle.fs_machine.specs.Tick.{later}
use Rattle.fs_machine.specs.Told.{all_said, is_open, retry_said, said_by, told_by, told_in, world_of}
use Rattle.fs_machine.specs.declared.config.Config.{Config}
use Rattle.fs_machine.specs.declared.limits.Limits.{Limits}
use Rattle.fs_machine.specs.declared.parked_request.ParkedRequest.{ParkedRequest}
use Rattle.fs_machine.specs.declared.unreleased.Unreleased.{Unreleased}
use Rattle.fs_machine.proofs.Asking.{waiter_asks}
use Rattle.fs_machine.proofs.Carried.{AtMostPrepares, asked_alone, asked_follows, asked_sessions, retried_alone, retried_follows, retried_said}
use Rattle.fs_machine.proofs.Desks.{numbers_answered, numbers_refused}
use Rattle.fs_machine.proofs.DesksSaid.{SaysNothing, all_answered_said, refused_said}
use Rattle.fs_machine.proofs.FloorIsReleased.{floor_compacted}
use Rattle.fs_machine.proofs.Heard.{among_open, heard_matched, heard_more, heard_none, heard_others, heard_own, heard_without, is_among, left_closed, listened_said, open_given, open_more, open_same, open_without, outbox_more, outbox_with, outbox_without, said_behind, said_same, said_taken, said_to}
use Rattle.fs_machine.proofs.Listening.{beside_listening, loaded_numbers, loaded_rest, loads_at, raised_numbers, raised_rest}
use Rattle.fs_machine.proofs.ListenersHold.{listed_in}
use Rattle.fs_machine.proofs.Runs.{begins, earlier_released, grows, keeps}
use Rattle.fs_machine.proofs.SessionsNumbered.{numbers_of, same_numbers}
use Rattle.fs_machine.proofs.Told.{IsLed, Tells, asked_tells, led_on, retried_quiet, tells_none, tells_nothing}

-- ---- what a session that may be open was told

-- a run leads to what an open one is at, and one that isn't opened yet was told nothing
pub record IsFollowed (shards session : ℕ) (m : Machine) (said : List ListenMessage) : Type 0 where
  pub config : m.config.shards ≡ shards
  pub led : is_open session m.sessions ≡ true → IsLed shards (world_of m session said)
  pub fresh : m.numbers.sessions ≤ session → said ≡ []

listed_open : (m : Machine) (k : ℕ) (b : Bool) → Facts m → is_open k m.sessions ≡ b → is_among k (listed_in m.listeners) ≡ b
listed_open m k b facts is = among_open m.sessions (listed_in m.listeners) k b facts.listeners.listed is

not_both : (k given : ℕ) → k < given → given ≤ k → ⊥
not_both k given less more = omega arith

not_after : (k given : ℕ) → k < given → given + 1 ≤ k → ⊥
not_after k given less more = omega arith

at_least : (a b : ℕ) → a ≡ b → a ≤ b
at_least a b same = omega (arith, same)

one_less : (a b : ℕ) → a + 1 ≤ b → a ≤ b
one_less a b more = omega arith

rises : (a b : ℤ) → a ≤ℤ later a b
rises a b = grind (arith, ints)

-- an event by which none opens or leaves
module _ (shards k : ℕ) (m n : Machine) (facts : Facts m) (said more : List ListenMessage) (followed : IsFollowed shards k m said)
    (config : n.config ≡ m.config) (same : numbers_of n.sessions ≡ numbers_of m.sessions) (given : n.numbers.sessions ≡ m.numbers.sessions) where
  follows_by : (b : Bool) → is_open k m.sessions ≡ b → (is_open k m.sessions ≡ true → IsLed shards (world_of m k said) → IsLed shards (world_of n k (said ++ more)))
      → IsFollowed shards k n (said ++ cond b more [])
  follows_by true is goes = record {
    config = ap (λ (c : Config). c.shards) config ∙ followed.config;
    led = λ now. goes is (followed.led is);
    fresh = λ above. absurd (not_both k m.numbers.sessions (open_given m.sessions m.numbers.sessions k facts.sessions is) (subst (λ x. x ≤ k) given above));
  }
  follows_by false is goes = record {
    config = ap (λ (c : Config). c.shards) config ∙ followed.config;
    led = λ now. absurd (let both = sym is ∙ sym (open_same m.sessions n.sessions k same) ∙ now in cc);
    fresh = λ above. append-nil said ∙ followed.fresh (subst (λ x. x ≤ k) given above);
  }

  follows : (is_open k m.sessions ≡ true → IsLed shards (world_of m k said) → IsLed shards (world_of n k (said ++ more))) → IsFollowed shards k n (said ++ cond (is_open k m.sessions) more [])
  follows goes = follows_by (is_open k m.sessions) refl goes

-- ---- nothing changes of what it looks at

-- the past that is looked at is the same
pub record LooksAlike (p q : Past) : Type 0 where
  pub history : q.history ≡ p.history
  pub released : q.released ≡ p.released
  pub floor : q.floor ≡ p.floor

alike : (p : Past) → LooksAlike p p
alike p = record { history = refl; released = refl; floor = refl }

prepares_alike : (p q : Past) → AtMostPrepares p q → LooksAlike p q
prepares_alike p q (inl same) = record { history = ap (λ (x : Past). x.history) same; released = ap (λ (x : Past). x.released) same; floor = ap (λ (x : Past). x.floor) same }
prepares_alike p q (inr one) = record { history = ap (λ (x : Past). x.history) one.1; released = ap (λ (x : Past). x.released) one.1; floor = ap (λ (x : Past). x.floor) one.1 }

still_led : (shards k : ℕ) (m n : Machine) (said more : List ListenMessage) → LooksAlike m.past n.past → listening_of n k ≡ listening_of m k → more ≡ [] → IsLed shards (world_of m k said) → IsLed shards (world_of n k (said ++ more))
still_led shards k m n said more past heard none led =
    subst (IsLed shards) (λ i. record { history = sym past.history i; released = sym past.released i; floor = sym past.floor i; listening = sym heard i; said = sym (ap (λ ms. said ++ ms) none ∙ append-nil said) i }) led

-- ---- it, or another one, is told

none_either : {X : Type 0} (b : Bool) → ◌≡◌ {A = List X} (cond b [] []) []
none_either true = refl
none_either false = refl

told_led : (shards session k : ℕ) (m n : Machine) (said own : List ListenMessage) (b : Bool) → (session == k) ≡ b → is_among k (listed_in m.listeners) ≡ true → LooksAlike m.past n.past
    → Tells shards m n session own → IsLed shards (world_of m k said) → IsLed shards (world_of n k (said ++ cond b own []))
told_led shards session k m n said own false is listed past tells led = still_led shards k m n said [] past (tells.others k is) refl led
told_led shards session k m n said own true is listed past tells led =
    let one = eqb-true session k is in
    let here = tells.own (ap (λ x. is_among x (listed_in m.listeners)) one ∙ listed) said (subst (λ x. IsLed shards (world_of m x said)) (sym one) led) in
    subst (λ x. IsLed shards (world_of n x (said ++ own))) one
    (subst (IsLed shards) (λ i. record { history = sym past.history i; released = sym past.released i; floor = sym past.floor i; listening = listening_of n session; said = said ++ own }) here)

-- by the answer, where the outboxes stay
answer_led : (shards session k : ℕ) (m n : Machine) (said own pushed : List ListenMessage) → is_among k (listed_in m.listeners) ≡ true → LooksAlike m.past n.past → Tells shards m n session own → pushed ≡ []
    → IsLed shards (world_of m k said) → IsLed shards (world_of n k (said ++ (cond (session == k) own [] ++ pushed)))
answer_led shards session k m n said own pushed listed past tells none led =
    subst (λ ms. IsLed shards (world_of n k (said ++ ms))) (sym (ap (λ ms. cond (session == k) own [] ++ ms) none ∙ append-nil (cond (session == k) own [])))
    (told_led shards session k m n said own (session == k) refl listed past tells led)

-- by what comes into its outbox
pub record Pushes (shards : ℕ) (m n : Machine) (session : ℕ) : Type 0 where
  pub said : List ListenMessage
  pub tells : Tells shards m n session said
  pub pushed : (k : ℕ) → is_open k m.sessions ≡ true → all_said (drop (length (outbox_of m k)) (outbox_of n k)) ≡ cond (session == k) said []

pushes_nothing : (shards : ℕ) (m : Machine) (session : ℕ) → Pushes shards m m session
pushes_nothing shards m session = record {
  said = [];
  tells = tells_nothing shards m m session refl;
  pushed = λ k is. said_same (outbox_of m k) (outbox_of m k) refl ∙ sym (none_either (session == k));
}

push_led : (shards session k : ℕ) (m n : Machine) (said : List ListenMessage) → is_open k m.sessions ≡ true → is_among k (listed_in m.listeners) ≡ true → LooksAlike m.past n.past → Pushes shards m n session
    → IsLed shards (world_of m k said) → IsLed shards (world_of n k (said ++ all_said (drop (length (outbox_of m k)) (outbox_of n k))))
push_led shards session k m n said is listed past pushes led =
    subst (λ ms. IsLed shards (world_of n k (said ++ ms))) (sym (pushes.pushed k is)) (told_led shards session k m n said pushes.said (session == k) refl listed past pushes.tells led)

-- ---- loading

not_loaded : (l : Listened) → is_loaded l.loaded ≡ false → l.loaded ≡ None
not_loaded l is = by_load l.loaded is where
  by_load : (o : Option Loaded) → is_loaded o ≡ false → o ≡ None
  by_load None is = refl
  by_load (Some d) is = absurd (cc)

load_path : (shards target : ℕ) (time : ℤ) (w : World) (l : Listened) (o : Option Listened) → o ≡ Some l → (s : Listening) → s ≡ loaded_in shards target time (is_lost w.floor l.token) w.listening
    → ◌≡◌ {A = World} (record w { listening = loaded_in shards target time (is_lost w.floor (token_of_target o)) w.listening; said = w.said ++ reset_of target (is_lost w.floor (token_of_target o)) })
    (record w { listening = s; said = w.said ++ reset_of target (is_lost w.floor l.token) })
load_path shards target time w l o is s heard =
    (λ i. record w { listening = loaded_in shards target time (is_lost w.floor (token_of_target (is i))) w.listening; said = w.said ++ reset_of target (is_lost w.floor (token_of_target (is i))) })
    ∙ (λ i. record w { listening = sym heard i; said = w.said ++ reset_of target (is_lost w.floor l.token) })

module _ (m : Machine) (session target : ℕ) (at : Option ℤ) (within : FloorIsReleased m.past) where
  reset_pushed : (k : ℕ) (time : ℤ) (reset : Bool) → is_open k m.sessions ≡ true
      → all_said (drop (length (outbox_of m k)) (outbox_of (loaded_with m session target time reset) k)) ≡ cond (session == k) (reset_of target reset) []
  reset_pushed k time true is =
      let message_of = message.Listen (listen.Reset (target ∷ [])) in
      said_to (outbox_of m k) (outbox_of (loaded_with m session target time true) k) (message_of ∷ []) (session == k) (outbox_with m.sessions session k (λ ms. ms ++ message_of ∷ []) is)
  reset_pushed k time false is = said_same (outbox_of m k) (outbox_of m k) refl ∙ sym (none_either (session == k))

  loaded_pushes : (l : Listened) (time : ℤ) → get (listening_of m session).targets target ≡ Some l → is_loaded l.loaded ≡ false → m.past.floor ≤ℤ time → time ≤ℤ m.past.released
      → Pushes m.config.shards m (loaded_with m session target time (is_lost m.past.floor l.token)) session
  loaded_pushes l time there unloaded low high = record {
    said = reset_of target reset;
    tells = record {
      own = λ listed before led.
          let w = world_of m session before in
          let heard = heard_own change (loaded_in m.config.shards target time reset) (λ l. refl) (λ l. refl) m.listeners session listed in
          let may : IfSome (get (listening_of m session).targets target) (λ (k : Listened). k.loaded ≡ None) = subst (λ (o : Option Listened). IfSome o (λ (k : Listened). k.loaded ≡ None)) (sym there) (not_loaded l unloaded) in
          subst (IsLed m.config.shards) (load_path m.config.shards target time w l (get (listening_of m session).targets target) there _ heard)
          (led_on m.config.shards w (run.loads target time) (may, low, high) led);
      others = λ other apart. heard_others change (loaded_in m.config.shards target time reset) (λ l. refl) (λ l. refl) m.listeners session other apart;
    };
    pushed = λ k is. reset_pushed k time reset is;
  } where
    reset : Bool
    reset = is_lost m.past.floor l.token

    change : Listener → Listener
    change l = record l { listening = loaded_in m.config.shards target time reset l.listening }

  load_by_test : (l : Listened) (there : Bool) → is_loaded l.loaded ≡ there → get (listening_of m session).targets target ≡ Some l → refusal_at m.past target at (Some l) ≡ None
      → Pushes m.config.shards m (cond there m (loaded_with m session target (unwrap_or at m.past.released) (is_lost m.past.floor l.token))) session
  load_by_test l true is found none = pushes_nothing m.config.shards m session
  load_by_test l false is found none = let both = loads_at m.past target at l within none is in loaded_pushes l (unwrap_or at m.past.released) found is both.0 both.1

  unless_pushes : (found : Option Listened) (refusal : Option Refusal) → get (listening_of m session).targets target ≡ found → refusal_at m.past target at found ≡ refusal
      → Pushes m.config.shards m (loaded_unless m session target at found refusal) session
  unless_pushes None refusal found is = pushes_nothing m.config.shards m session
  unless_pushes (Some l) (Some refusal) found is = pushes_nothing m.config.shards m session
  unless_pushes (Some l) None found is = load_by_test l (is_loaded l.loaded) refl found is

  load_pushes : Pushes m.config.shards m (loaded m session target at) session
  load_pushes = unless_pushes (get (listening_of m session).targets target) (load_refusal m session target at) refl refl

-- ---- raising

module _ (shards : ℕ) (m : Machine) (session : ℕ) where
  raised_to_pushes : (time : ℤ) → is_ready (listening_of m session) ≡ true → cut_of m session ≡ At time → Pushes shards m (raised_to_time m session time) session
  raised_to_pushes time ready at = record {
    said = said;
    tells = record {
      own = λ listed before led.
          let w = world_of m session before in
          let heard = heard_own change (raised_to time) (λ l. refl) (λ l. refl) m.listeners session listed in
          let goes : run.raising w ≡ record w { listening = raised_to time w.listening; said = before ++ said } = λ i. raising_at (ready i) (at i) w in
          subst (λ (s : Listening). IsLed shards (record w { listening = s; said = before ++ said })) (sym heard)
          (subst (IsLed shards) goes (led_on shards w run.raises tt led));
      others = λ other apart. heard_others change (raised_to time) (λ l. refl) (λ l. refl) m.listeners session other apart;
    };
    pushed = λ k is.
        said_to (outbox_of m k) (outbox_of (raised_to_time m session time) k) (map message.Listen said) (session == k) (outbox_with m.sessions session k (λ ms. ms ++ map message.Listen said) is)
        ∙ ap (λ ms. cond (session == k) ms []) (listened_said said);
  } where
    said : List ListenMessage
    said = sent_by m.past.history time (listening_of m session)

    change : Listener → Listener
    change l = record l { listening = raised_to time l.listening }

  raised_at_pushes : (to : Cut) → is_ready (listening_of m session) ≡ true → cut_of m session ≡ to → Pushes shards m (raised_at m session to) session
  raised_at_pushes (At time) ready at = raised_to_pushes time ready at
  raised_at_pushes (Loading id) ready at = pushes_nothing shards m session
  raised_at_pushes NoTarget ready at = pushes_nothing shards m session

  raised_by_pushes : (full ready : Bool) → is_ready (listening_of m session) ≡ ready → Pushes shards m (cond full m (cond ready (raised_at m session (cut_of m session)) m)) session
  raised_by_pushes true ready is = pushes_nothing shards m session
  raised_by_pushes false true is = raised_at_pushes (cut_of m session) is refl
  raised_by_pushes false false is = pushes_nothing shards m session

  raise_pushes : Pushes shards m (raised m session) session
  raise_pushes = raised_by_pushes (outbox_is_full m session) (is_ready (listening_of m session)) refl

-- ---- each event

module _ (shards k : ℕ) (m : Machine) (facts : Facts m) (said : List ListenMessage) (followed : IsFollowed shards k m said) where
  -- what comes into its outbox as another server follows
  abbrev comes : Machine → List ListenMessage
  comes n = all_said (drop (length (outbox_of m k)) (outbox_of n k))

  listed : is_open k m.sessions ≡ true → is_among k (listed_in m.listeners) ≡ true
  listed is = listed_open m k true facts is

  -- nothing comes
  still_followed : (n : Machine) (more : List ListenMessage) → n.config ≡ m.config → numbers_of n.sessions ≡ numbers_of m.sessions → n.numbers.sessions ≡ m.numbers.sessions → LooksAlike m.past n.past
      → listening_of n k ≡ listening_of m k → (is_open k m.sessions ≡ true → more ≡ []) → IsFollowed shards k n (said ++ cond (is_open k m.sessions) more [])
  still_followed n more config same given past heard none = follows shards k m n facts said more followed config same given (λ is led. still_led shards k m n said more past heard (none is) led)

  opened_one : (b : Bool) → is_open k m.sessions ≡ b → IsFollowed shards k (with_session m) (said ++ cond b (comes (with_session m)) [])
  opened_one true is = record {
    config = followed.config;
    led = λ now. still_led shards k m (with_session m) said (comes (with_session m)) (alike m.past) (heard_more m.listeners m.numbers.sessions k)
        (said_same (outbox_of m k) (outbox_of (with_session m) k) (outbox_more m.sessions (record { number = m.numbers.sessions; outbox = []; has_owned = false }) k is)) (followed.led is);
    fresh = λ above. absurd (not_after k m.numbers.sessions (open_given m.sessions m.numbers.sessions k facts.sessions is) above);
  }
  opened_one false is = record {
    config = followed.config;
    led = λ now.
        let same = open_more m.sessions (record { number = m.numbers.sessions; outbox = []; has_owned = false }) k is now in
        let one = eqb-true m.numbers.sessions k same in
        let none = followed.fresh (at_least m.numbers.sessions k one) in
        let heard = heard_more m.listeners m.numbers.sessions k ∙ heard_none m.listeners k (listed_open m k false facts is) in
        record {
          history = m.past.history;
          released = m.past.released;
          floor = m.past.floor;
          events = [];
          may = tt;
          leads = λ i. record { history = m.past.history; released = m.past.released; floor = m.past.floor; listening = sym heard i; said = sym (append-nil said ∙ none) i };
        };
    fresh = λ above. append-nil said ∙ followed.fresh (one_less m.numbers.sessions k above);
  }

  opened_followed : (full : Bool) → IsFollowed shards k (cond full m (with_session m)) (said ++ cond (is_open k m.sessions) (comes (cond full m (with_session m))) [])
  opened_followed true = still_followed m (comes m) refl refl refl (alike m.past) refl (λ is. said_same (outbox_of m k) (outbox_of m k) refl)
  opened_followed false = opened_one (is_open k m.sessions) refl

  gone_led : (session : ℕ) (b : Bool) → (session == k) ≡ b → is_open k (departed m session).sessions ≡ true → IsLed shards (world_of m k said) → IsLed shards (world_of (departed m session) k (said ++ comes (departed m session)))
  gone_led session true is now led =
      let one = eqb-true session k is in
      absurd (left_closed m.sessions session 0 m.numbers.sessions facts.sessions (ap (λ x. is_open x (departed m session).sessions) one ∙ now))
  gone_led session false is now led =
      still_led shards k m (departed m session) said (comes (departed m session)) (alike m.past) (heard_without m.listeners session k is)
      (said_same (outbox_of m k) (outbox_of (departed m session) k) (outbox_without m.sessions session k is)) led

  departed_followed : (session : ℕ) (b : Bool) → is_open k m.sessions ≡ b → IsFollowed shards k (departed m session) (said ++ cond b (comes (departed m session)) [])
  departed_followed session true is = record {
    config = followed.config;
    led = λ now. gone_led session (session == k) refl now (followed.led is);
    fresh = λ above. absurd (not_both k m.numbers.sessions (open_given m.sessions m.numbers.sessions k facts.sessions is) above);
  }
  departed_followed session false is = record {
    config = followed.config;
    led = λ now. absurd (let both = sym is ∙ open_without m.sessions session k now in cc);
    fresh = λ above. append-nil said ∙ followed.fresh above;
  }

  says_nothing : (n : Machine) → SaysNothing k m.sessions n.sessions → comes n ≡ []
  says_nothing n nothing = said_behind (outbox_of m k) (outbox_of n k) nothing.0 nothing.1 ∙ nothing.2

  asked_followed : (session : ℕ) (e : Envelope) → IsFollowed shards k (asked m session e) (said ++ told_by m (Event.asking session e) k)
  asked_followed session e =
      let refusal = arrival_refusal m session e.request in
      let r = arrived m session e in
      let n = asked m session e in
      let alone = asked_alone m r refusal in
      let past = prepares_alike m.past n.past (asked_follows m r refusal) in
      follows shards k m n facts said (cond (session == k) (said_by (answered m session e)) [] ++ comes n) followed alone.config alone.sessions alone.given
      (λ is led. answer_led shards session k m n said (said_by (answered m session e)) (comes n) (listed is) past (asked_tells shards m session e refusal refl)
      (said_same (outbox_of m k) (outbox_of n k) ((asked_sessions m r refusal).outboxes k)) led)

  retried_followed : (place : ℕ) (found : Option ParkedRequest) → slice_get m.parked place ≡ found
      → IsFollowed shards k (retried_if m place found) (said ++ cond (is_open k m.sessions) (retry_said m found k ++ comes (retried_if m place found)) [])
  retried_followed place None is = still_followed m (comes m) refl refl refl (alike m.past) refl (λ is. said_same (outbox_of m k) (outbox_of m k) refl)
  retried_followed place (Some r) is =
      let n = retried_if m place (Some r) in
      let alone = retried_alone m place (Some r) in
      let past = prepares_alike m.past n.past (retried_follows m place (Some r)) in
      let both = retried_quiet m place r (waiter_asks m.parked place r is facts.waiters).waits in
      follows shards k m n facts said (retry_said m (Some r) k ++ comes n) followed alone.config alone.sessions alone.given
      (λ here led. answer_led shards r.session k m n said (said_by (tried_answer m r)) (comes n) (listed here) past (tells_none shards m n r.session (said_by (tried_answer m r)) both.0 both.1)
      (says_nothing n (retried_said m place (Some r) k here)) led)

  decided_with_followed : (u : Unreleased) (r : Result (Docs × List WriteResult) Refusal) → IsFollowed shards k (decided_with m u r) (said ++ cond (is_open k m.sessions) (comes (decided_with m u r)) [])
  decided_with_followed u (Ok done) =
      let n = decided_with m u (Ok done) in
      still_followed n (comes n) refl refl refl (record { history = refl; released = refl; floor = refl }) refl (λ is. said_same (outbox_of m k) (outbox_of m k) refl)
  decided_with_followed u (Err refusal) =
      let n = decided_with m u (Err refusal) in
      still_followed n (comes n) refl (numbers_refused u.asker refusal (desk_of m)) refl (record { history = refl; released = refl; floor = refl }) refl
      (λ is. says_nothing n (refused_said k u.asker refusal (desk_of m) is))

  decided_followed : (found : Option Unreleased) → IsFollowed shards k (decided_if m found) (said ++ cond (is_open k m.sessions) (comes (decided_if m found)) [])
  decided_followed None = still_followed m (comes m) refl refl refl (alike m.past) refl (λ is. said_same (outbox_of m k) (outbox_of m k) refl)
  decided_followed (Some u) = decided_with_followed u (outcome_of m.past u)

  released_led : is_open k m.sessions ≡ true → IsLed shards (world_of m k said) → IsLed shards (world_of (step m Event.releasing) k (said ++ comes (step m Event.releasing)))
  released_led is led =
      let n = step m Event.releasing in
      let more = grows m Event.releasing facts in
      let none = says_nothing n (all_answered_said k (committed_out m.past) (desk_of m) is) in
      let w = world_of m k said in
      subst (IsLed shards) (λ i. record w { history = sym more.history i; released = n.past.released; said = sym (ap (λ ms. said ++ ms) none ∙ append-nil said) i })
      (led_on shards w (run.releases more.more n.past.released) (more.later, more.released) led)

  floor_rises : (to : ℤ) → m.past.floor ≤ℤ floor_after m.past (first_asked m) to
  floor_rises to = rises m.past.floor _

  compacted_led : (to : ℤ) → IsLed shards (world_of m k said) → IsLed shards (world_of (step m (Event.compacting to)) k (said ++ comes (step m (Event.compacting to))))
  compacted_led to led =
      let none = said_same (outbox_of m k) (outbox_of m k) refl in
      let w = world_of m k said in
      let floor = floor_after m.past (first_asked m) to in
      subst (IsLed shards) (λ i. record w { floor = floor; said = sym (ap (λ ms. said ++ ms) none ∙ append-nil said) i })
      (led_on shards w (run.compacts floor) (floor_rises to, floor_compacted m.past (first_asked m) to facts.past.floor) led)

  matched_led : (shard : ℕ) (to : ℤ) → is_open k m.sessions ≡ true → IsLed shards (world_of m k said) → IsLed shards (world_of (step m (Event.matching shard to)) k (said ++ comes (step m (Event.matching shard to))))
  matched_led shard to is led =
      let none = said_same (outbox_of m k) (outbox_of m k) refl in
      let w = world_of m k said in
      let last = earlier to m.past.released in
      subst (IsLed shards) (λ i. record w { listening = sym (heard_matched m.listeners k shard last (listed is)) i; said = sym (ap (λ ms. said ++ ms) none ∙ append-nil said) i })
      (led_on shards w (run.matches shard last) (earlier_released m.past to) led)

  rest_alike : (n : Machine) → n ≡ beside_listening m n → LooksAlike m.past n.past
  rest_alike n is = record { history = ap (λ (x : Machine). x.past.history) is; released = ap (λ (x : Machine). x.past.released) is; floor = ap (λ (x : Machine). x.past.floor) is }

  pushed_followed : (session : ℕ) (n : Machine) → n ≡ beside_listening m n → numbers_of n.sessions ≡ numbers_of m.sessions → Pushes m.config.shards m n session
      → IsFollowed shards k n (said ++ cond (is_open k m.sessions) (comes n) [])
  pushed_followed session n is same pushes =
      follows shards k m n facts said (comes n) followed (ap (λ (x : Machine). x.config) is) same (ap (λ (x : Machine). x.numbers.sessions) is)
      (λ here led. push_led shards session k m n said here (listed here) (rest_alike n is) (subst (λ x. Pushes x m n session) followed.config pushes) led)

  follows_step : (e : Event) → IsFollowed shards k (step m e) (said ++ told_by m e k)
  follows_step Event.opening = opened_followed (is_full m)
  follows_step (Event.leaving session) = departed_followed session (is_open k m.sessions) refl
  follows_step (Event.asking session e) = asked_followed session e
  follows_step (Event.retrying place) = retried_followed place (slice_get m.parked place) refl
  follows_step (Event.deciding id) = decided_followed (pending_of m.past id)
  follows_step (Event.advancing now) =
      let n = step m (Event.advancing now) in
      still_followed n (comes n) refl refl refl (record { history = refl; released = refl; floor = refl }) refl (λ is. said_same (outbox_of m k) (outbox_of m k) refl)
  follows_step Event.releasing = let n = step m Event.releasing in follows shards k m n facts said (comes n) followed refl (numbers_answered (committed_out m.past) (desk_of m)) refl released_led
  follows_step (Event.compacting to) = let n = step m (Event.compacting to) in follows shards k m n facts said (comes n) followed refl refl refl (λ is led. compacted_led to led)
  follows_step (Event.loading session target at) =
      pushed_followed session (loaded m session target at) (loaded_rest m session target at) (loaded_numbers m session target at) (load_pushes m session target at facts.past.floor)
  follows_step (Event.matching shard to) = let n = step m (Event.matching shard to) in follows shards k m n facts said (comes n) followed refl refl refl (λ is led. matched_led shard to is led)
  follows_step (Event.raising session) = pushed_followed session (raised m session) (raised_rest m session) (raised_numbers m session) (raise_pushes m.config.shards m session)
  follows_step (Event.taking session) =
      let n = step m (Event.taking session) in
      still_followed n (comes n) refl (same_numbers m.sessions session (λ ms. [])) refl (alike m.past) refl
      (λ is. said_taken (outbox_of m k) (outbox_of n k) (session == k) (outbox_with m.sessions session k (λ ms. []) is))

-- ---- whole runs

all_followed : (shards k : ℕ) (m : Machine) (es : List Event) (said : List ListenMessage) → Facts m → IsFollowed shards k m said → IsFollowed shards k (after m es) (said ++ told_in m es k)
all_followed shards k m [] said facts followed = subst (IsFollowed shards k m) (sym (append-nil said)) followed
all_followed shards k m (e ∷ es) said facts followed =
    subst (IsFollowed shards k (after (step m e) es)) (append_assoc said (told_by m e k) (told_in (step m e) es k))
    (all_followed shards k (step m e) es (said ++ told_by m e k) (keeps m e facts) (follows_step shards k m facts said followed e))

begins_followed : (config : Config) (limits : Limits) (start : ℤ) (k : ℕ) → IsFollowed config.shards k (started config limits start) []
begins_followed config limits start k = record { config = refl; led = λ now. absurd (cc); fresh = λ above. refl }

pub led_in : (config : Config) (limits : Limits) (start : ℤ) (events : List Event) (k : ℕ) → is_open k (after (started config limits start) events).sessions ≡ true
    → IsLed config.shards (world_of (after (started config limits start) events) k (told_in (started config limits start) events k))
led_in config limits start events k is =
    (all_followed config.shards k (started config limits start) events [] (begins config limits start) (begins_followed config limits start k)).led is

pub cuts_are_consistent : ConsistentCuts → CutsAreConsistent
cuts_are_consistent law config limits start events session time is ended =
    let led = led_in config limits start events session is in
    subst (λ (w : World). IsOneTime w time) led.leads
    (law config.shards led.history led.released led.floor led.events led.may time (ap (λ (w : World). ended_at w.said) led.leads ∙ ended))

pub raises_never_fall : TimesNeverFall → RaisesNeverFall
raises_never_fall law config limits start events session is =
    let led = led_in config limits start events session is in
    subst (λ (w : World). NeverFalls (filter_map raise_in w.said)) led.leads (law config.shards led.history led.released led.floor led.events led.may)

pub served_are_raised : SessionsServed → ServedAreRaised
served_are_raised law config limits start events session is served some =
    let led = led_in config limits start events session is in
    let raised = law config.shards led.history led.released led.floor led.events led.may (subst (IsServed config.shards) (sym led.leads) served)
    (λ none. some (ap (λ (w : World). cut w.listening) (sym led.leads) ∙ none)) in
    ap (λ (w : World). w.listening.raised) (sym led.leads) ∙ raised ∙ ap (λ (w : World). Some w.released) led.leads
