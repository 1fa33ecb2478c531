-- Turns end: each does less and less, and enough of them are as good as more.
use Rattle.std.proofs.Common.{◌≡◌, ℕ, ◌≤◌, Bool, true, false, cond, refl, sym, ap, ◌∙◌, arith, suc, zero}
use Rattle.std.specs.Prelude.{nat_lt, length}
use Rattle.std.proofs.lemmas.Bool.Decides.{nat_tests}
use Rattle.fs_replay.specs.Played.{Played, nothing, followed_by}
use Rattle.fs_replay.specs.Settling.{did_something, left_to_do, settling, tries_all, tries_from, turn, turns}
use Rattle.fs_replay.specs.declared.state.State.{State}
use Rattle.fs_replay.proofs.Falling.{nothing_pending}
use Rattle.fs_replay.proofs.Shown.{shown}

-- what is played behind it, where it did something
abbrev Behind : ℕ → State → State → Played
Behind n s t = cond (did_something s t) (turns n t) (nothing t)

-- ---- where nothing is left to do

pub none_tried : (s : State) (n : ℕ) → n ≡ 0 → tries_from n 0 s ≡ nothing s
none_tried s n none = ap (λ k. tries_from k 0 s) none

pub idle_turn : (s : State) → left_to_do s.server ≡ 0 → turn s ≡ nothing s
idle_turn s none =
    let waits : length s.server.parked ≡ 0 = omega (arith, none) in
    ap (λ (p : Played). followed_by p tries_all) (nothing_pending s none)
    ∙ ap (λ (p : Played). followed_by (nothing s) (λ t. p)) (none_tried s (length s.server.parked) waits)

never_less : (n : ℕ) → nat_lt n n ≡ false
never_less n = grind (arith, nat_tests)

pub not_itself : (s : State) → did_something s s ≡ false
not_itself s = never_less (left_to_do s.server)

-- where one turn does nothing, no more do
pub idle_turns : (s : State) (n : ℕ) → turn s ≡ nothing s → turns n s ≡ nothing s
idle_turns s zero idle = refl
idle_turns s (suc n) idle =
    ap (λ (p : Played). followed_by p (Behind n s)) idle
    ∙ ap (λ b. followed_by (nothing s) (λ t. cond b (turns n s) (nothing s))) (not_itself s)

-- and where nothing is seen of one, nothing is seen of them
pub quiet_turns : (s : State) (n : ℕ) → shown (turn s) ≡ nothing s → shown (turns n s) ≡ nothing s
quiet_turns s zero quiet = refl
quiet_turns s (suc n) quiet =
    ap (λ (p : Played). shown (followed_by p (Behind n s))) quiet
    ∙ ap (λ b. shown (followed_by (nothing s) (λ t. cond b (turns n s) (nothing s)))) (not_itself s)

-- ---- enough are as good as more

below : (a b n : ℕ) → nat_lt b a ≡ true → a ≤ suc n → b ≤ n
below a b n less within = grind (arith, nat_tests)

pub less_left : (s t : State) (n : ℕ) → did_something s t ≡ true → left_to_do s.server ≤ suc n → left_to_do t.server ≤ n
less_left s t n did within = below (left_to_do s.server) (left_to_do t.server) n did within

same_behind : (n k : ℕ) (s t : State) (b : Bool) → did_something s t ≡ b → (did_something s t ≡ true → turns n t ≡ turns k t) → cond b (turns n t) (nothing t) ≡ cond b (turns k t) (nothing t)
same_behind n k s t true is same = same is
same_behind n k s t false is same = refl

pub enough : (n k : ℕ) (s : State) → left_to_do s.server ≤ n → left_to_do s.server ≤ k → turns n s ≡ turns k s
enough zero k s a b = sym (idle_turns s k (idle_turn s (omega (arith, a))))
enough (suc n) zero s a b = idle_turns s (suc n) (idle_turn s (omega (arith, b)))
enough (suc n) (suc k) s a b =
    let t = (turn s).state in
    let more = same_behind n k s t (did_something s t) refl (λ did. enough n k t (less_left s t n did a) (less_left s t k did b)) in
    ap (λ (p : Played). followed_by (turn s) (λ x. p)) more

-- ---- one turn, and what is settled behind it

abbrev pub Settled : State → State → Played
Settled s t = cond (did_something s t) (settling t) (nothing t)

step_of : (s : State) (n : ℕ) → left_to_do s.server ≡ n → turns n s ≡ followed_by (turn s) (Settled s)
step_of s zero is =
    sym (
    ap (λ (p : Played). followed_by p (Settled s)) (idle_turn s is)
    ∙ ap (λ b. followed_by (nothing s) (λ t. cond b (settling s) (nothing s))) (not_itself s)
    )
step_of s (suc n) is =
    let t = (turn s).state in
    let more = same_behind n (left_to_do t.server) s t (did_something s t) refl (λ did. enough n (left_to_do t.server) t (less_left s t n did (omega (arith, is))) (omega arith)) in
    ap (λ (p : Played). followed_by (turn s) (λ x. p)) more

pub settling_step : (s : State) → settling s ≡ followed_by (turn s) (Settled s)
settling_step s = step_of s (left_to_do s.server) refl
