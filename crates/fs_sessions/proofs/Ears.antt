-- What sessions listen to, as the machine has it, and with what is kept of it: what is done to one is done to the other.
use Rattle.std.proofs.Common.{◌≡◌, ℕ, Bool, true, false, cond, List, [], ◌∷◌, ◌++◌, Some, None, refl, ap, subst}
use Rattle.std.specs.Prelude.{◌==◌}
use Rattle.std.specs.List.{AllByRecursion}
use Rattle.fs_listen.specs.Listening.{none_listened}
use Rattle.fs_machine.specs.Listeners.{Listener, listening_in, unheard, with_listener}
use Rattle.fs_sessions.specs.Heard.{Heard, heard_in, listener_of, listeners_of, with_heard, without_heard}

module _ (session : ℕ) (f : Heard → Heard) (g : Listener → Listener) where
  with_one : (b : Bool) (h : Heard) (hs : List Heard) → listener_of (f h) ≡ g (listener_of h) → listeners_of (with_heard session f hs) ≡ with_listener session g (listeners_of hs)
      → listeners_of (cond b (f h ∷ hs) (h ∷ with_heard session f hs)) ≡ cond b (g (listener_of h) ∷ listeners_of hs) (listener_of h ∷ with_listener session g (listeners_of hs))
  with_one true h hs one rest = ap (λ l. l ∷ listeners_of hs) one
  with_one false h hs one rest = ap (λ ls. listener_of h ∷ ls) rest

  pub listeners_with : (hs : List Heard) → AllByRecursion (λ (h : Heard). listener_of (f h) ≡ g (listener_of h)) hs → listeners_of (with_heard session f hs) ≡ with_listener session g (listeners_of hs)
  listeners_with [] all = refl
  listeners_with (h ∷ hs) all = with_one (h.session == session) h hs all.0 (listeners_with hs all.1)

pub listeners_more : (hs : List Heard) (h : Heard) → listeners_of (hs ++ h ∷ []) ≡ listeners_of hs ++ listener_of h ∷ []
listeners_more [] h = refl
listeners_more (k ∷ hs) h = ap (λ ls. listener_of k ∷ ls) (listeners_more hs h)

module _ (session : ℕ) where
  without_one : (b : Bool) (h : Heard) (hs : List Heard) → listeners_of (without_heard session hs) ≡ unheard session (listeners_of hs)
      → listeners_of (cond b hs (h ∷ without_heard session hs)) ≡ cond b (listeners_of hs) (listener_of h ∷ unheard session (listeners_of hs))
  without_one true h hs rest = refl
  without_one false h hs rest = ap (λ ls. listener_of h ∷ ls) rest

  pub listeners_without : (hs : List Heard) → listeners_of (without_heard session hs) ≡ unheard session (listeners_of hs)
  listeners_without [] = refl
  listeners_without (h ∷ hs) = without_one (h.session == session) h hs (listeners_without hs)

  -- what a session listens to is that of what is kept of it
  listening_one : (b : Bool) (h : Heard) (hs : List Heard) → (found : Heard) → cond b (Some h) (heard_in session hs) ≡ Some found
      → ((heard_in session hs ≡ Some found) → listening_in session (listeners_of hs) ≡ found.held.listening)
      → cond b h.held.listening (listening_in session (listeners_of hs)) ≡ found.held.listening
  listening_one true h hs found is rest = let same : h ≡ found = cc in ap (λ (x : Heard). x.held.listening) same
  listening_one false h hs found is rest = rest is

  pub listening_found : (hs : List Heard) (found : Heard) → heard_in session hs ≡ Some found → listening_in session (listeners_of hs) ≡ found.held.listening
  listening_found [] found is = absurd (cc)
  listening_found (h ∷ hs) found is = listening_one (h.session == session) h hs found is (listening_found hs found)

  listening_none_one : (b : Bool) (h : Heard) (hs : List Heard) → cond b (Some h) (heard_in session hs) ≡ None
      → (heard_in session hs ≡ None → listening_in session (listeners_of hs) ≡ none_listened)
      → cond b h.held.listening (listening_in session (listeners_of hs)) ≡ none_listened
  listening_none_one true h hs is rest = absurd (cc)
  listening_none_one false h hs is rest = rest is

  pub listening_none : (hs : List Heard) → heard_in session hs ≡ None → listening_in session (listeners_of hs) ≡ none_listened
  listening_none [] is = refl
  listening_none (h ∷ hs) is = listening_none_one (h.session == session) h hs is (listening_none hs)

-- ---- what holds of each

module _ (P : Heard → Type 0) (session : ℕ) where
  found_one : (b : Bool) (h : Heard) (hs : List Heard) (found : Heard) → cond b (Some h) (heard_in session hs) ≡ Some found → P h
      → (heard_in session hs ≡ Some found → P found) → P found
  found_one true h hs found is here rest = let same : h ≡ found = cc in subst P same here
  found_one false h hs found is here rest = rest is

  pub of_found : (hs : List Heard) → AllByRecursion P hs → (found : Heard) → heard_in session hs ≡ Some found → P found
  of_found [] all found is = absurd (cc)
  of_found (h ∷ hs) all found is = found_one (h.session == session) h hs found is all.0 (of_found hs all.1 found)

  module _ (f : Heard → Heard) where
    all_one : (b : Bool) (h : Heard) (hs : List Heard) → ((k : Heard) → cond b (Some h) (heard_in session hs) ≡ Some k → P k → P (f k)) → P h → AllByRecursion P hs
        → (((k : Heard) → heard_in session hs ≡ Some k → P k → P (f k)) → AllByRecursion P hs → AllByRecursion P (with_heard session f hs))
        → AllByRecursion P (cond b (f h ∷ hs) (h ∷ with_heard session f hs))
    all_one true h hs change here all rest = (change h refl here, all)
    all_one false h hs change here all rest = (here, rest change all)

    pub all_with : (hs : List Heard) → ((h : Heard) → heard_in session hs ≡ Some h → P h → P (f h)) → AllByRecursion P hs → AllByRecursion P (with_heard session f hs)
    all_with [] change all = tt
    all_with (h ∷ hs) change all = all_one (h.session == session) h hs change all.0 all.1 (all_with hs)

  without_all : (b : Bool) (h : Heard) (hs : List Heard) → P h → AllByRecursion P hs → AllByRecursion P (without_heard session hs)
      → AllByRecursion P (cond b hs (h ∷ without_heard session hs))
  without_all true h hs here all rest = all
  without_all false h hs here all rest = (here, rest)

  pub all_without : (hs : List Heard) → AllByRecursion P hs → AllByRecursion P (without_heard session hs)
  all_without [] all = tt
  all_without (h ∷ hs) all = without_all (h.session == session) h hs all.0 all.1 (all_without hs all.1)
