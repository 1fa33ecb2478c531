-- Whether a session is open, what is in its outbox, and what it listens to, after what happens to it and to others.
use Rattle.std.proofs.Common.{◌≡◌, ℕ, ◌+◌, ◌<◌, ◌≤◌, ℤ, Bool, true, false, cond, ◌||◌, List, [], ◌∷◌, ◌++◌, map, refl, sym, ap, ◌∙◌, arith}
use Rattle.std.specs.Prelude.{drop, length, ◌==◌}
use Rattle.std.proofs.Math.Seq.{drop-append_seam, drop-length, drop-nil}
use Rattle.std.proofs.lemmas.Bool.{eqb-true}
use Rattle.std.proofs.lemmas.Bool.Decides.{nat_tests}
use Rattle.fs_query.specs.declared.listen.ListenMessage.{ListenMessage}
use Rattle.fs_request.specs.declared.message.Message.{Message}
use Rattle.fs_request.specs.declared.message.Message.TheVariants as message
use Rattle.fs_listen.specs.Listening.{Listening, matched as matched_in, none_listened}
use Rattle.fs_machine.specs.Listeners.{Listener, listening_in, unheard, unlistening, with_listener}
use Rattle.fs_machine.specs.Match.{matched_to}
use Rattle.fs_machine.specs.Sessions.{outbox_in, with_outbox, without}
use Rattle.fs_machine.specs.SessionsNumbered.{NumbersRise}
use Rattle.fs_machine.specs.Told.{all_said, is_open}
use Rattle.fs_machine.specs.declared.session.Session.{Session}
use Rattle.fs_machine.proofs.ListenersHold.{listed_in}
use Rattle.fs_machine.proofs.SessionsNumbered.{numbers_of, rise_within}

-- ---- which are open

-- whether a number is among some
abbrev pub is_among : ℕ → List ℕ → Bool
is_among k [] = false
is_among k (n ∷ ns) = (n == k) || is_among k ns

open_by_number : (ss : List Session) (k : ℕ) → is_open k ss ≡ is_among k (numbers_of ss)
open_by_number [] k = refl
open_by_number (s ∷ ss) k = ap (λ b. (s.number == k) || b) (open_by_number ss k)

pub open_same : (ss other : List Session) (k : ℕ) → numbers_of other ≡ numbers_of ss → is_open k other ≡ is_open k ss
open_same ss other k same = open_by_number other k ∙ ap (is_among k) same ∙ sym (open_by_number ss k)

among_below : (ns : List ℕ) (from to k : ℕ) → NumbersRise from to ns → is_among k ns ≡ true → (from ≤ k) × (k < to)
among_below [] from to k rise is = absurd (cc)
among_below (n ∷ ns) from to k rise is = by_test (among_below ns (n + 1) to k rise.1) (n == k) refl is where
  by_test : (is_among k ns ≡ true → (n + 1 ≤ k) × (k < to)) → (same : Bool) → (n == k) ≡ same → (same || is_among k ns) ≡ true → (from ≤ k) × (k < to)
  by_test again true here is =
      let one = eqb-true n k here in
      let first = rise.0 in
      let last = rise_within ns (n + 1) to rise.1 in
      (omega (arith, one), omega (arith, one))
  by_test again false here is = let both = again is in let low = both.0 in let first = rise.0 in (omega arith, both.1)

-- one that is open has a number that was given
pub open_given : (ss : List Session) (given k : ℕ) → NumbersRise 0 given (numbers_of ss) → is_open k ss ≡ true → k < given
open_given ss given k rise is = (among_below (numbers_of ss) 0 given k rise (sym (open_by_number ss k) ∙ is)).1

pub among_open : (ss : List Session) (ns : List ℕ) (k : ℕ) (b : Bool) → ns ≡ numbers_of ss → is_open k ss ≡ b → is_among k ns ≡ b
among_open ss ns k b same is = ap (is_among k) same ∙ sym (open_by_number ss k) ∙ is

or_behind : (a b : Bool) → b ≡ true → (a || b) ≡ true
or_behind true b is = refl
or_behind false b is = is

pub open_without : (ss : List Session) (gone k : ℕ) → is_open k (without gone ss) ≡ true → is_open k ss ≡ true
open_without [] gone k is = is
open_without (s ∷ ss) gone k is = by_test (open_without ss gone k) (s.number == gone) is where
  by_test : (is_open k (without gone ss) ≡ true → is_open k ss ≡ true) → (same : Bool) → is_open k (cond same ss (s ∷ without gone ss)) ≡ true → ((s.number == k) || is_open k ss) ≡ true
  by_test again true is = or_behind (s.number == k) (is_open k ss) is
  by_test again false is = by_first (s.number == k) is where
    by_first : (first : Bool) → (first || is_open k (without gone ss)) ≡ true → (first || is_open k ss) ≡ true
    by_first true is = refl
    by_first false is = again is

-- one that left is open no more
pub left_closed : (ss : List Session) (gone from to : ℕ) → NumbersRise from to (numbers_of ss) → is_open gone (without gone ss) ≡ true → ⊥
left_closed [] gone from to rise is = cc
left_closed (s ∷ ss) gone from to rise is = by_test (left_closed ss gone (s.number + 1) to rise.1) (s.number == gone) refl is where
  by_test : (is_open gone (without gone ss) ≡ true → ⊥) → (same : Bool) → (s.number == gone) ≡ same → is_open gone (cond same ss (s ∷ without gone ss)) ≡ true → ⊥
  by_test again true here is =
      let one = eqb-true s.number gone here in
      let low = (among_below (numbers_of ss) (s.number + 1) to gone rise.1 (sym (open_by_number ss gone) ∙ is)).0 in
      omega (arith, one)
  by_test again false here is = again (sym (ap (λ b. b || is_open gone (without gone ss)) here) ∙ is)

pub open_more : (ss : List Session) (s : Session) (k : ℕ) → is_open k ss ≡ false → is_open k (ss ++ s ∷ []) ≡ true → (s.number == k) ≡ true
open_more [] s k closed is = by_test (s.number == k) is where
  by_test : (b : Bool) → (b || false) ≡ true → b ≡ true
  by_test true is = refl
  by_test false is = is
open_more (t ∷ ss) s k closed is = by_test (open_more ss s k) (t.number == k) closed is where
  by_test : (is_open k ss ≡ false → is_open k (ss ++ s ∷ []) ≡ true → (s.number == k) ≡ true) → (first : Bool) → (first || is_open k ss) ≡ false → (first || is_open k (ss ++ s ∷ [])) ≡ true → (s.number == k) ≡ true
  by_test again true closed is = absurd (cc)
  by_test again false closed is = again closed is

-- ---- its outbox

pub outbox_more : (ss : List Session) (s : Session) (k : ℕ) → is_open k ss ≡ true → outbox_in k (ss ++ s ∷ []) ≡ outbox_in k ss
outbox_more [] s k is = absurd (cc)
outbox_more (t ∷ ss) s k is = by_test (outbox_more ss s k) (t.number == k) is where
  by_test : (is_open k ss ≡ true → outbox_in k (ss ++ s ∷ []) ≡ outbox_in k ss) → (first : Bool) → (first || is_open k ss) ≡ true
      → cond first t.outbox (outbox_in k (ss ++ s ∷ [])) ≡ cond first t.outbox (outbox_in k ss)
  by_test again true is = refl
  by_test again false is = again is

differs_too : (n gone k : ℕ) → (n == gone) ≡ true → (gone == k) ≡ false → (n == k) ≡ false
differs_too n gone k same other = grind (arith, nat_tests)

pub outbox_without : (ss : List Session) (gone k : ℕ) → (gone == k) ≡ false → outbox_in k (without gone ss) ≡ outbox_in k ss
outbox_without [] gone k other = refl
outbox_without (s ∷ ss) gone k other = by_test (outbox_without ss gone k other) (s.number == gone) refl where
  by_test : outbox_in k (without gone ss) ≡ outbox_in k ss → (same : Bool) → (s.number == gone) ≡ same
      → outbox_in k (cond same ss (s ∷ without gone ss)) ≡ cond (s.number == k) s.outbox (outbox_in k ss)
  by_test rest true here = sym (ap (λ b. cond b s.outbox (outbox_in k ss)) (differs_too s.number gone k here other))
  by_test rest false here = ap (cond (s.number == k) s.outbox) rest

both_same : (n of k : ℕ) → (n == of) ≡ true → (n == k) ≡ true → (of == k) ≡ true
both_same n of k a b = grind (arith, nat_tests)

last_apart : (n of k : ℕ) → (n == of) ≡ true → (n == k) ≡ false → (of == k) ≡ false
last_apart n of k a b = grind (arith, nat_tests)

first_same : (n of k : ℕ) → (n == of) ≡ false → (n == k) ≡ true → (of == k) ≡ false
first_same n of k a b = grind (arith, nat_tests)

-- of an open session that gets other messages, or not
pub outbox_with : (ss : List Session) (of k : ℕ) (change : List Message → List Message) → is_open k ss ≡ true
    → outbox_in k (with_outbox of change ss) ≡ cond (of == k) (change (outbox_in k ss)) (outbox_in k ss)
outbox_with [] of k change is = absurd (cc)
outbox_with (s ∷ ss) of k change is = by_tests (outbox_with ss of k change) (s.number == of) (s.number == k) refl refl is where
  by_tests : (is_open k ss ≡ true → outbox_in k (with_outbox of change ss) ≡ cond (of == k) (change (outbox_in k ss)) (outbox_in k ss))
      → (mine here : Bool) → (s.number == of) ≡ mine → (s.number == k) ≡ here → (here || is_open k ss) ≡ true
      → outbox_in k (cond mine (record s { outbox = change s.outbox } ∷ ss) (s ∷ with_outbox of change ss)) ≡ cond (of == k) (change (cond here s.outbox (outbox_in k ss))) (cond here s.outbox (outbox_in k ss))
  by_tests again true true a b is =
      let one = both_same s.number of k a b in
      ap (λ x. cond x (change s.outbox) (outbox_in k ss)) b ∙ sym (ap (λ x. cond x (change s.outbox) s.outbox) one)
  by_tests again true false a b is =
      let other = last_apart s.number of k a b in
      ap (λ x. cond x (change s.outbox) (outbox_in k ss)) b ∙ sym (ap (λ x. cond x (change (outbox_in k ss)) (outbox_in k ss)) other)
  by_tests again false true a b is =
      let other = first_same s.number of k a b in
      ap (λ x. cond x s.outbox (outbox_in k (with_outbox of change ss))) b ∙ sym (ap (λ x. cond x (change s.outbox) s.outbox) other)
  by_tests again false false a b is = ap (λ x. cond x s.outbox (outbox_in k (with_outbox of change ss))) b ∙ again is

-- ---- what comes into it

-- messages behind those that stood there
pub said_behind : (before now more : List Message) → now ≡ before ++ more → all_said (drop (length before) now) ≡ all_said more
said_behind before now more is = ap (λ ms. all_said (drop (length before) ms)) is ∙ ap all_said (drop-append_seam before more)

pub said_same : (before now : List Message) → now ≡ before → all_said (drop (length before) now) ≡ []
said_same before now is = ap (λ ms. all_said (drop (length before) ms)) is ∙ ap all_said (drop-length before)

-- it was taken, or not
pub said_taken : (before now : List Message) (b : Bool) → now ≡ cond b [] before → all_said (drop (length before) now) ≡ []
said_taken before now true is = ap (λ ms. all_said (drop (length before) ms)) is ∙ ap all_said (drop-nil {A = Message} (length before))
said_taken before now false is = said_same before now is

-- what one session gets
pub said_to : (before now more : List Message) (b : Bool) → now ≡ cond b (before ++ more) before → all_said (drop (length before) now) ≡ cond b (all_said more) []
said_to before now more true is = said_behind before now more is
said_to before now more false is = said_same before now is

pub listened_said : (ms : List ListenMessage) → all_said (map message.Listen ms) ≡ ms
listened_said [] = refl
listened_said (m ∷ ms) = ap (λ ns. m ∷ ns) (listened_said ms)

-- ---- what it listens to

pub heard_more : (ls : List Listener) (of k : ℕ) → listening_in k (ls ++ unlistening of ∷ []) ≡ listening_in k ls
heard_more [] of k = by_test (of == k) where
  by_test : (b : Bool) → cond b none_listened none_listened ≡ none_listened
  by_test true = refl
  by_test false = refl
heard_more (l ∷ ls) of k = ap (cond (l.session == k) l.listening) (heard_more ls of k)

pub heard_none : (ls : List Listener) (k : ℕ) → is_among k (listed_in ls) ≡ false → listening_in k ls ≡ none_listened
heard_none [] k none = refl
heard_none (l ∷ ls) k none = by_test (heard_none ls k) (l.session == k) none where
  by_test : (is_among k (listed_in ls) ≡ false → listening_in k ls ≡ none_listened) → (here : Bool) → (here || is_among k (listed_in ls)) ≡ false → cond here l.listening (listening_in k ls) ≡ none_listened
  by_test again true none = absurd (cc)
  by_test again false none = again none

pub heard_without : (ls : List Listener) (gone k : ℕ) → (gone == k) ≡ false → listening_in k (unheard gone ls) ≡ listening_in k ls
heard_without [] gone k other = refl
heard_without (l ∷ ls) gone k other = by_test (heard_without ls gone k other) (l.session == gone) refl where
  by_test : listening_in k (unheard gone ls) ≡ listening_in k ls → (same : Bool) → (l.session == gone) ≡ same
      → listening_in k (cond same ls (l ∷ unheard gone ls)) ≡ cond (l.session == k) l.listening (listening_in k ls)
  by_test rest true here = sym (ap (λ b. cond b l.listening (listening_in k ls)) (differs_too l.session gone k here other))
  by_test rest false here = ap (cond (l.session == k) l.listening) rest

-- a change of one of them
module _ (change : Listener → Listener) (to : Listening → Listening) (same : (l : Listener) → (change l).session ≡ l.session) (heard : (l : Listener) → (change l).listening ≡ to l.listening) where
  pub heard_own : (ls : List Listener) (k : ℕ) → is_among k (listed_in ls) ≡ true → listening_in k (with_listener k change ls) ≡ to (listening_in k ls)
  heard_own [] k is = absurd (cc)
  heard_own (l ∷ ls) k is = by_test (heard_own ls k) (l.session == k) refl is where
    by_test : (is_among k (listed_in ls) ≡ true → listening_in k (with_listener k change ls) ≡ to (listening_in k ls)) → (here : Bool) → (l.session == k) ≡ here → (here || is_among k (listed_in ls)) ≡ true
        → listening_in k (cond here (change l ∷ ls) (l ∷ with_listener k change ls)) ≡ to (cond here l.listening (listening_in k ls))
    by_test again true at is = ap (λ n. cond (n == k) (change l).listening (listening_in k ls)) (same l) ∙ ap (λ b. cond b (change l).listening (listening_in k ls)) at ∙ heard l
    by_test again false at is = ap (λ b. cond b l.listening (listening_in k (with_listener k change ls))) at ∙ again is

  pub heard_others : (ls : List Listener) (of k : ℕ) → (of == k) ≡ false → listening_in k (with_listener of change ls) ≡ listening_in k ls
  heard_others [] of k other = refl
  heard_others (l ∷ ls) of k other = by_test (heard_others ls of k other) (l.session == of) refl where
    by_test : listening_in k (with_listener of change ls) ≡ listening_in k ls → (here : Bool) → (l.session == of) ≡ here
        → listening_in k (cond here (change l ∷ ls) (l ∷ with_listener of change ls)) ≡ cond (l.session == k) l.listening (listening_in k ls)
    by_test rest true at =
        let no = differs_too l.session of k at other in
        ap (λ n. cond (n == k) (change l).listening (listening_in k ls)) (same l) ∙ ap (λ b. cond b (change l).listening (listening_in k ls)) no ∙ sym (ap (λ b. cond b l.listening (listening_in k ls)) no)
    by_test rest false at = ap (cond (l.session == k) l.listening) rest

pub heard_matched : (ls : List Listener) (k shard : ℕ) (to : ℤ) → is_among k (listed_in ls) ≡ true → listening_in k (map (matched_to shard to) ls) ≡ matched_in shard to (listening_in k ls)
heard_matched [] k shard to is = absurd (cc)
heard_matched (l ∷ ls) k shard to is = by_test (heard_matched ls k shard to) (l.session == k) is where
  by_test : (is_among k (listed_in ls) ≡ true → listening_in k (map (matched_to shard to) ls) ≡ matched_in shard to (listening_in k ls)) → (here : Bool) → (here || is_among k (listed_in ls)) ≡ true
      → cond here (matched_in shard to l.listening) (listening_in k (map (matched_to shard to) ls)) ≡ matched_in shard to (cond here l.listening (listening_in k ls))
  by_test again true is = refl
  by_test again false is = again is
