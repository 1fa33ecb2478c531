-- At each NO_CHANGE that a session was told, some of the events had led to it, and told it no more.
use Rattle.std.proofs.Common.{◌≡◌, ℕ, ℤ, Bool, true, false, cond, ◌⊎◌, inl, inr, List, [], ◌∷◌, ◌++◌, Option, Some, None, refl, sym, ap, ◌∙◌, subst}
use Rattle.std.specs.Prelude.{◌==◌}
use Rattle.std.specs.FinMap.{get}
use Rattle.std.specs.List.{AllByRecursion}
use Rattle.std.proofs.lemmas.List.{append_assoc, append-nil}
use Rattle.fs_path.specs.declared.name.DocName.{DocName}
use Rattle.fs_query.specs.declared.listen.ListenMessage.{ListenMessage}
use Rattle.fs_query.specs.declared.listen.ListenMessage.TheVariants as listen
use Rattle.fs_status.specs.declared.refusal.Refusal.{Refusal}
use Rattle.fs_token.specs.Token.{token_of}
use Rattle.fs_listen.specs.Cuts.{is_loaded, is_ready}
use Rattle.fs_listen.specs.Gathered.{ended_at, raise_in}
use Rattle.fs_listen.specs.Laws.{ConsistentCuts, IsOneTime}
use Rattle.fs_listen.specs.Listening.{Listened, Listening}
use Rattle.fs_listen.specs.Raised.{stands_at, views_of}
use Rattle.fs_listen.specs.Runs.{is_lost, reset_of}
use Rattle.fs_listen.specs.Sent.{current_from, new_targets, sent}
use Rattle.fs_listen.specs.Told.{Views, told}
use Rattle.fs_listen.specs.declared.cut.Cut.{Cut}
use Rattle.fs_listen.specs.declared.cut.Cut.TheVariants.{At, Loading, NoTarget}
use Rattle.fs_listen.proofs.All.{all_append}
use Rattle.fs_listen.proofs.OfDocuments.{AreOfDocuments, is_of_document, told_of_documents}
use Rattle.fs_listen.proofs.Sending.{ended_with}
use Rattle.fs_machine.specs.Event.{Event, after, step}
use Rattle.fs_machine.specs.Facts.{Facts}
use Rattle.fs_machine.specs.FrontLaws.{ConsistentAtEachRaise, RaisesEndWhatIsTold, ToldGoesOn}
use Rattle.fs_machine.specs.Listen.{listening_of}
use Rattle.fs_machine.specs.Load.{load_refusal}
use Rattle.fs_machine.specs.Raise.{cut_of, raised}
use Rattle.fs_machine.specs.Refusing.{outbox_is_full}
use Rattle.fs_machine.specs.State.{Machine, started}
use Rattle.fs_machine.specs.Told.{is_open, told_by, told_in, world_of}
use Rattle.fs_machine.proofs.Cuts.{cuts_are_consistent}
use Rattle.fs_machine.proofs.Heard.{open_same}
use Rattle.fs_machine.proofs.Listening.{raised_numbers}
use Rattle.fs_machine.proofs.Runs.{begins, keeps}
use Rattle.fs_machine.proofs.Says.{Says, load_says, load_says_if, raise_says, raise_says_at, raise_says_if, told_closed, told_says}
use Rattle.fs_machine.proofs.Told.{AddOrRemove, adds_or_removes}

-- ---- runs one after another

pub told_goes_on : ToldGoesOn
told_goes_on m [] more session = refl
told_goes_on m (e ∷ es) more session =
    ap (λ ms. told_by m e session ++ ms) (told_goes_on (step m e) es more session)
    ∙ sym (append_assoc (told_by m e session) (told_in (step m e) es session) (told_in (after (step m e) es) more session))

-- ---- messages that are no NO_CHANGE

abbrev NoRaise : List ListenMessage → Type 0
NoRaise ms = AllByRecursion (λ m. raise_in m ≡ None) ms

answer_none : (m : ListenMessage) → adds_or_removes m ≡ true → raise_in m ≡ None
answer_none (listen.Add ids) is = refl
answer_none (listen.Remove ids cause) is = refl
answer_none (listen.Reset ids) is = refl
answer_none (listen.Current ids time token) is = refl
answer_none (listen.NoChange time token) is = absurd (cc)
answer_none (listen.Changed d ids left) is = refl
answer_none (listen.Deleted name time left) is = refl
answer_none (listen.Removed name time left) is = refl

answers_none : (ms : List ListenMessage) → AddOrRemove ms → NoRaise ms
answers_none [] are = tt
answers_none (m ∷ ms) are = (answer_none m are.0, answers_none ms are.1)

document_none : (m : ListenMessage) → is_of_document m ≡ true → raise_in m ≡ None
document_none (listen.Add ids) is = refl
document_none (listen.Remove ids cause) is = refl
document_none (listen.Reset ids) is = refl
document_none (listen.Current ids time token) is = refl
document_none (listen.NoChange time token) is = absurd (cc)
document_none (listen.Changed d ids left) is = refl
document_none (listen.Deleted name time left) is = refl
document_none (listen.Removed name time left) is = refl

documents_none : (ms : List ListenMessage) → AreOfDocuments ms → NoRaise ms
documents_none [] are = tt
documents_none (m ∷ ms) are = (document_none m are.0, documents_none ms are.1)

current_none : (time : ℤ) (ids : List ℕ) → NoRaise (current_from time ids)
current_none time [] = tt
current_none time (id ∷ ids) = (refl, tt)

-- ---- where a NO_CHANGE stands

-- a list with one more, taken apart
heads : {X : Type 0} (a b : X) (xs ys : List X) → ◌≡◌ {A = List X} (a ∷ xs) (b ∷ ys) → a ≡ b
heads a b xs ys is = cc

tails : {X : Type 0} (a b : X) (xs ys : List X) → ◌≡◌ {A = List X} (a ∷ xs) (b ∷ ys) → xs ≡ ys
tails a b xs ys is = cc

not_empty : {X : Type 0} (front : List X) (x : X) (rest : List X) → [] ≡ front ++ x ∷ rest → ⊥
not_empty [] x rest is = cc
not_empty (y ∷ front) x rest is = cc

not_among : (ms front rest : List ListenMessage) (time : ℤ) (token : List ℕ) → NoRaise ms → ms ≡ front ++ listen.NoChange time token ∷ rest → ⊥
not_among [] front rest time token none is = not_empty front (listen.NoChange time token) rest is
not_among (m ∷ ms) [] rest time token none is =
    let one = heads m (listen.NoChange time token) ms rest is in
    let both : None ≡ Some time = sym none.0 ∙ ap raise_in one in
    cc
not_among (m ∷ ms) (n ∷ front) rest time token none is = not_among ms front rest time token none.1 (tails m n ms (front ++ listen.NoChange time token ∷ rest) is)

-- the only one is the last
only_last : (ms front rest : List ListenMessage) (last : ListenMessage) (time : ℤ) (token : List ℕ) → NoRaise ms → ms ++ last ∷ [] ≡ front ++ listen.NoChange time token ∷ rest → rest ≡ []
only_last [] [] rest last time token none is = sym (tails last (listen.NoChange time token) [] rest is)
only_last [] (n ∷ front) rest last time token none is = absurd (not_empty front (listen.NoChange time token) rest (tails last n [] (front ++ listen.NoChange time token ∷ rest) is))
only_last (m ∷ ms) [] rest last time token none is =
    let one = heads m (listen.NoChange time token) (ms ++ last ∷ []) rest is in
    absurd (let both : None ≡ Some time = sym none.0 ∙ ap raise_in one in cc)
only_last (m ∷ ms) (n ∷ front) rest last time token none is =
    only_last ms front rest last time token none.1 (tails m n (ms ++ last ∷ []) (front ++ listen.NoChange time token ∷ rest) is)

-- ---- only a raise tells of one, at its end

sent_last : (stands : DocName → Bool) (at : ℤ) (s : Listening) (vs : List Views) (front rest : List ListenMessage) (time : ℤ) (token : List ℕ)
    → sent stands at s vs ≡ front ++ listen.NoChange time token ∷ rest → rest ≡ []
sent_last stands at s vs front rest time token is =
    only_last (told stands at vs ++ current_from at (new_targets s)) front rest (listen.NoChange at (token_of at)) time token
    (all_append (λ m. raise_in m ≡ None) (told stands at vs) (current_from at (new_targets s)) (documents_none (told stands at vs) (told_of_documents stands at vs)) (current_none at (new_targets s)))
    (append_assoc (told stands at vs) (current_from at (new_targets s)) (listen.NoChange at (token_of at) ∷ []) ∙ is)

module _ (m : Machine) (front rest : List ListenMessage) (time : ℤ) (token : List ℕ) where
  abbrev Stands : List ListenMessage → Type 0
  Stands said = said ≡ front ++ listen.NoChange time token ∷ rest

  none_stands : Stands [] → ⊥
  none_stands is = not_empty front (listen.NoChange time token) rest is

  raise_last : (session : ℕ) (to : Cut) → Stands (raise_says_at m session to) → rest ≡ []
  raise_last session (At t) is = sent_last (stands_at m.past.history t) t (listening_of m session) (views_of m.past.history t (listening_of m session)) front rest time token is
  raise_last session (Loading id) is = absurd (none_stands is)
  raise_last session NoTarget is = absurd (none_stands is)

  raise_if : (session : ℕ) (full ready : Bool) → Stands (raise_says_if m session full ready) → rest ≡ []
  raise_if session true ready is = absurd (none_stands is)
  raise_if session false true is = raise_last session (cut_of m session) is
  raise_if session false false is = absurd (none_stands is)

  raise_to : (session : ℕ) (b : Bool) → Stands (cond b (raise_says m session) []) → rest ≡ []
  raise_to session true is = raise_if session (outbox_is_full m session) (is_ready (listening_of m session)) is
  raise_to session false is = absurd (none_stands is)

  reset_none : (target : ℕ) (reset : Bool) → NoRaise (reset_of target reset)
  reset_none target true = (refl, tt)
  reset_none target false = tt

  load_by : (target : ℕ) (there reset : Bool) → NoRaise (cond there [] (reset_of target reset))
  load_by target true reset = tt
  load_by target false reset = reset_none target reset

  load_none : (target : ℕ) (found : Option Listened) (refusal : Option Refusal) → NoRaise (load_says_if m target found refusal)
  load_none target None refusal = tt
  load_none target (Some l) (Some refusal) = tt
  load_none target (Some l) None = load_by target (is_loaded l.loaded) (is_lost m.past.floor l.token)

  either_none : (ms : List ListenMessage) (b : Bool) → NoRaise ms → NoRaise (cond b ms [])
  either_none ms true none = none
  either_none ms false none = tt

  -- the event is a raise, and tells nothing behind it
  pub record IsRaise (e : Event) : Type 0 where
    pub session : ℕ
    pub raises : e ≡ Event.raising session
    pub last : rest ≡ []

  quiet : (e : Event) (said : List ListenMessage) → said ≡ [] → Stands said → IsRaise e
  quiet e said none is = absurd (none_stands (sym none ∙ is))

  raise_of : (e : Event) (k : ℕ) (said : List ListenMessage) → Says m e k said → Stands said → IsRaise e
  raise_of Event.opening k said says is = quiet Event.opening said says is
  raise_of (Event.leaving session) k said says is = quiet (Event.leaving session) said says is
  raise_of (Event.asking session e) k said says is = absurd (not_among said front rest time token (answers_none said says) is)
  raise_of (Event.retrying place) k said says is = quiet (Event.retrying place) said says is
  raise_of (Event.deciding id) k said says is = quiet (Event.deciding id) said says is
  raise_of (Event.advancing now) k said says is = quiet (Event.advancing now) said says is
  raise_of Event.releasing k said says is = quiet Event.releasing said says is
  raise_of (Event.compacting to) k said says is = quiet (Event.compacting to) said says is
  raise_of (Event.loading session target at) k said says is =
      absurd (not_among (cond (session == k) (load_says m session target at) []) front rest time token
      (either_none (load_says m session target at) (session == k) (load_none target (get (listening_of m session).targets target) (load_refusal m session target at)))
      (sym says ∙ is))
  raise_of (Event.matching shard to) k said says is = quiet (Event.matching shard to) said says is
  raise_of (Event.raising session) k said says is = record { session = session; raises = refl; last = raise_to session (session == k) (sym says ∙ is) }
  raise_of (Event.taking session) k said says is = quiet (Event.taking session) said says is

-- the session was open, then
raise_told : (m : Machine) (e : Event) (k : ℕ) (front rest : List ListenMessage) (time : ℤ) (token : List ℕ) (b : Bool) → Facts m → is_open k m.sessions ≡ b
    → told_by m e k ≡ front ++ listen.NoChange time token ∷ rest → (is_open k m.sessions ≡ true) × IsRaise m front rest time token e
raise_told m e k front rest time token true facts is stands = (is, raise_of m front rest time token e k (told_by m e k) (told_says m e k facts is) stands)
raise_told m e k front rest time token false facts is stands = absurd (not_empty front (listen.NoChange time token) rest (sym (told_closed m e k is) ∙ stands))

pub raises_end : RaisesEndWhatIsTold
raises_end m e k front rest time token facts stands = (raise_told m e k front rest time token (is_open k m.sessions) facts refl stands).1.last

-- ---- over a run

-- where one of two lists has it
abbrev Placed : {X : Type 0} → List X → List X → List X → X → List X → Type 0
Placed {X} xs ys front x rest = ((mid : List X) × (xs ≡ front ++ x ∷ mid) × (rest ≡ mid ++ ys)) ⊎ ((more : List X) × (front ≡ xs ++ more) × (ys ≡ more ++ x ∷ rest))

placed : {X : Type 0} (xs ys front : List X) (x : X) (rest : List X) → xs ++ ys ≡ front ++ x ∷ rest → Placed xs ys front x rest
placed [] ys front x rest is = inr (front, refl, is)
placed (a ∷ xs) ys [] x rest is = inl (xs, ap (λ y. y ∷ xs) (heads a x (xs ++ ys) rest is), sym (tails a x (xs ++ ys) rest is))
placed {X} (a ∷ xs) ys (f ∷ front) x rest is = next (placed xs ys front x rest (tails a f (xs ++ ys) (front ++ x ∷ rest) is)) where
  first : a ≡ f
  first = heads a f (xs ++ ys) (front ++ x ∷ rest) is

  next : Placed xs ys front x rest → Placed (a ∷ xs) ys (f ∷ front) x rest
  next (inl (mid, here, then)) = inl (mid, (λ i. first i ∷ here i), then)
  next (inr (more, here, then)) = inr (more, (λ i. sym first i ∷ here i), then)

-- the first of the events led to it
pub record Leads (m : Machine) (events : List Event) (k : ℕ) (said : List ListenMessage) : Type 0 where
  pub earlier : List Event
  pub later : List Event
  pub parts : events ≡ earlier ++ later
  pub opened : is_open k (after m earlier).sessions ≡ true
  pub told : told_in m earlier k ≡ said

still_open : (m : Machine) (session k : ℕ) (e : Event) → e ≡ Event.raising session → is_open k m.sessions ≡ true → is_open k (step m e).sessions ≡ true
still_open m session k e raises is =
    subst (λ d. is_open k (step m d).sessions ≡ true) (sym raises) (open_same m.sessions (raised m session).sessions k (raised_numbers m session) ∙ is)

led_to : (m : Machine) (es : List Event) (k : ℕ) (front rest : List ListenMessage) (time : ℤ) (token : List ℕ) → Facts m
    → told_in m es k ≡ front ++ listen.NoChange time token ∷ rest → Leads m es k (front ++ listen.NoChange time token ∷ [])
led_to m [] k front rest time token facts is = absurd (not_empty front (listen.NoChange time token) rest is)
led_to m (e ∷ es) k front rest time token facts is =
    by_place (λ more there. led_to (step m e) es k more rest time token (keeps m e facts) there)
    (placed (told_by m e k) (told_in (step m e) es k) front (listen.NoChange time token) rest is)
  where
    here_told : (mid : List ListenMessage) → told_by m e k ≡ front ++ listen.NoChange time token ∷ mid → Leads m (e ∷ es) k (front ++ listen.NoChange time token ∷ [])
    here_told mid here =
        let both = raise_told m e k front mid time token (is_open k m.sessions) facts refl here in
        record {
          earlier = e ∷ [];
          later = es;
          parts = refl;
          opened = still_open m both.1.session k e both.1.raises both.0;
          told = append-nil (told_by m e k) ∙ here ∙ ap (λ ms. front ++ listen.NoChange time token ∷ ms) both.1.last;
        }

    by_place : ((more : List ListenMessage) → told_in (step m e) es k ≡ more ++ listen.NoChange time token ∷ rest → Leads (step m e) es k (more ++ listen.NoChange time token ∷ []))
        → Placed (told_by m e k) (told_in (step m e) es k) front (listen.NoChange time token) rest → Leads m (e ∷ es) k (front ++ listen.NoChange time token ∷ [])
    by_place again (inl (mid, here, then)) = here_told mid here
    by_place again (inr (more, first, there)) =
        let leads = again more there in
        record {
          earlier = e ∷ leads.earlier;
          later = leads.later;
          parts = ap (λ ds. e ∷ ds) leads.parts;
          opened = leads.opened;
          told = ap (λ ms. told_by m e k ++ ms) leads.told
              ∙ sym (append_assoc (told_by m e k) more (listen.NoChange time token ∷ []))
              ∙ ap (λ ms. ms ++ listen.NoChange time token ∷ []) (sym first);
        }

pub consistent_at_each : ConsistentCuts → ConsistentAtEachRaise
consistent_at_each law config limits start events session front rest time token is =
    let m = started config limits start in
    let leads = led_to m events session front rest time token (begins config limits start) is in
    record {
      earlier = leads.earlier;
      later = leads.later;
      parts = leads.parts;
      opened = leads.opened;
      told = leads.told;
      views = subst (λ said. IsOneTime (world_of (after m leads.earlier) session said) time) leads.told
          (cuts_are_consistent law config limits start leads.earlier session time leads.opened (ap ended_at leads.told ∙ ended_with front (listen.NoChange time token)));
    }
