-- When a session is raised, and what it is told then.
use Rattle.std.proofs.Common.{◌≡◌, ℕ, ℤ, Bool, true, false, cond, List, [], ◌∷◌, ◌++◌, refl, sym, ap, ◌∙◌}
use Rattle.std.specs.Prelude.{not, ◌&&◌, ◌==◌}
use Rattle.std.proofs.lemmas.List.{append_assoc}
use Rattle.fs_token.specs.Token.{token_of}
use Rattle.fs_query.specs.declared.listen.ListenMessage.{ListenMessage}
use Rattle.fs_query.specs.declared.listen.ListenMessage.TheVariants as listen
use Rattle.fs_listen.specs.Cuts.{is_ready, is_ready_at}
use Rattle.fs_listen.specs.Listening.{Listening}
use Rattle.fs_listen.specs.Raised.{raised as sent_by, stands_at, views_of}
use Rattle.fs_listen.specs.ReadyLaws.{ReadyOnceDue, TogetherAtTheLeast}
use Rattle.fs_listen.specs.Sent.{current_from, new_targets}
use Rattle.fs_listen.specs.Told.{told}
use Rattle.fs_listen.specs.declared.cut.Cut.{Cut}
use Rattle.fs_listen.specs.declared.cut.Cut.TheVariants.{At, Loading, NoTarget}
use Rattle.fs_listen.proofs.Listed.{same_itself}
use Rattle.fs_machine.specs.Event.{Event}
use Rattle.fs_machine.specs.Listen.{listening_of}
use Rattle.fs_machine.specs.Raise.{cut_of}
use Rattle.fs_machine.specs.RaiseLaws.{OthersStayQuiet, QuietUnlessReady, RaisedOnceDue, RaisedWhenReady}
use Rattle.fs_machine.specs.Refusing.{outbox_is_full}
use Rattle.fs_machine.specs.State.{Machine}
use Rattle.fs_machine.specs.Told.{is_open, told_by}
use Rattle.fs_machine.proofs.Says.{none_either, raise_says, raise_says_at, raise_says_if, raised_says, told_closed, told_open}

-- what any session is told by it
raise_told : (m : Machine) (session k : ℕ) → is_open k m.sessions ≡ true → told_by m (Event.raising session) k ≡ cond (session == k) (raise_says m session) []
raise_told m session k is = told_open m (Event.raising session) k is ∙ raised_says m session k is

-- ---- ready, with room

-- whoever is ready is together at a time
ready_at : (s : Listening) (to : Cut) → is_ready_at s to ≡ true → (time : ℤ) × (to ≡ At time)
ready_at s (At time) is = (time, refl)
ready_at s (Loading id) is = absurd (cc)
ready_at s NoTarget is = absurd (cc)

both_parts : (ready full : Bool) → (ready && not full) ≡ true → (ready ≡ true) × (full ≡ false)
both_parts true true is = absurd (cc)
both_parts true false is = (refl, refl)
both_parts false full is = absurd (cc)

-- the messages of a raise end with its time
sent_front : (m : Machine) (session : ℕ) (time : ℤ) → (front : List ListenMessage) × (sent_by m.past.history time (listening_of m session) ≡ front ++ listen.NoChange time (token_of time) ∷ [])
sent_front m session time =
    let s = listening_of m session in
    let names = told (stands_at m.past.history time) time (views_of m.past.history time s) in
    let currents = current_from time (new_targets s) in
    (names ++ currents, sym (append_assoc names currents (listen.NoChange time (token_of time) ∷ [])))

pub raised_when_ready : RaisedWhenReady
raised_when_ready m session is may =
    let both = both_parts (is_ready (listening_of m session)) (outbox_is_full m session) may in
    let at = ready_at (listening_of m session) (cut_of m session) both.0 in
    let sends = sent_front m session at.0 in
    record {
      time = at.0;
      at = at.1;
      front = sends.0;
      told = raise_told m session session is
          ∙ ap (λ b. cond b (raise_says m session) []) (same_itself session)
          ∙ (λ i. raise_says_if m session (both.1 i) (both.0 i))
          ∙ ap (raise_says_at m session) at.1
          ∙ sends.1;
    }

-- ---- and else nothing

one_says : (m : Machine) (session : ℕ) (full ready : Bool) → (ready && not full) ≡ false → raise_says_if m session full ready ≡ []
one_says m session true ready is = refl
one_says m session false true is = absurd (cc)
one_says m session false false is = refl

by_open : (m : Machine) (session other : ℕ) → cond (session == other) (raise_says m session) [] ≡ [] → (b : Bool) → is_open other m.sessions ≡ b → told_by m (Event.raising session) other ≡ []
by_open m session other none true is = raise_told m session other is ∙ none
by_open m session other none false is = told_closed m (Event.raising session) other is

pub quiet_unless_ready : QuietUnlessReady
quiet_unless_ready m session other may =
    by_open m session other
    (ap (λ ms. cond (session == other) ms []) (one_says m session (outbox_is_full m session) (is_ready (listening_of m session)) may) ∙ none_either (session == other))
    (is_open other m.sessions) refl

pub others_stay_quiet : OthersStayQuiet
others_stay_quiet m session other apart = by_open m session other (ap (λ b. cond b (raise_says m session) []) apart) (is_open other m.sessions) refl

-- ---- once its targets are together at a time that is due

same_cut : (a b : ℤ) → At a ≡ At b → a ≡ b
same_cut a b is = cc

both_so : (ready full : Bool) → ready ≡ true → full ≡ false → (ready && not full) ≡ true
both_so ready full is room = λ i. is i && not (room i)

pub raised_once_due : TogetherAtTheLeast → ReadyOnceDue → RaisedOnceDue
raised_once_due least ready m session time is room are due =
    let at = least (listening_of m session) time are in
    let sends = raised_when_ready m session is (both_so (is_ready (listening_of m session)) (outbox_is_full m session) (ready (listening_of m session) time at due) room) in
    let one = same_cut sends.time time (sym sends.at ∙ at) in
    (sends.front, sends.told ∙ ap (λ t. sends.front ++ listen.NoChange t (token_of t) ∷ []) one)
