-- Numbers of so many digits: their text is read, and what is read has that text.
use Rattle.std.proofs.Common.{◌≡◌, ℕ, zero, suc, ◌+◌, ◌-◌, ◌*◌, ◌/◌, ◌%◌, ◌^◌, ◌<◌, ◌≤◌, true, List, [], ◌∷◌, ◌++◌, All, length, Some, option_and_then, refl, sym, ap, ◌∙◌, arith, append_assoc, length-append}
use Rattle.std.proofs.Math.Nat.{pow-suc, pow-le-pow_right}
use Rattle.std.proofs.lemmas.Bool.Decides.{nat_tests}
use Rattle.std.proofs.lemmas.List.Elements.{All-nil, All-cons, All-append}
use Rattle.std.proofs.lemmas.Option.{none-some, same_Some}
use Rattle.std.specs.List.{prefix_len}
use Rattle.std.specs.Char.{is_ascii_digit}
use Rattle.fs_time.specs.Pieces.{digits, digit_more, number_at}
use Rattle.fs_time.proofs.Chains.{cond_some, then_some}

-- ---- the text

pub no_digits : (k n : ℕ) → k ≡ 0 → digits k n ≡ []
unfolding digits
no_digits k n e = rw e

pub last_digit : (k n : ℕ) → ¬ (k ≡ 0) → digits k n ≡ digits (k - 1) (n / 10) ++ (48 + n % 10) ∷ []
unfolding digits
last_digit zero n some = absurd (some refl)
last_digit (suc k) n some = let less : suc k - 1 ≡ k = omega arith in rw less

pub length-digits : (k n : ℕ) → length (digits k n) ≡ k
unfolding digits
length-digits zero n = refl
length-digits (suc k) n = omega (arith, length-append (digits k (n / 10)) ((48 + n % 10) ∷ []), length-digits k (n / 10))

abbrev pub IsAsciiText : List ℕ → Type 0
IsAsciiText text = All (λ b. b < 128) text

pub digits-ascii : (k n : ℕ) → IsAsciiText (digits k n)
unfolding digits
digits-ascii zero n = All-nil (λ b. b < 128)
digits-ascii (suc k) n =
    All-append (λ b. b < 128) (digits k (n / 10)) ((48 + n % 10) ∷ []) (digits-ascii k (n / 10))
    (All-cons (λ b. b < 128) (48 + n % 10) [] (omega arith) (All-nil (λ b. b < 128)))

-- ---- both ways

digit_more-sound : (m : ℕ) (text : List ℕ) (read : ℕ × List ℕ) → digit_more m text ≡ Some read → (d : ℕ) × (d < 10) × (text ≡ (48 + d) ∷ read.1) × (read.0 ≡ m * 10 + d)
digit_more-sound m [] read e = absurd (none-some read e)
digit_more-sound m (b ∷ rest) read e =
    let (digit, is) = cond_some (is_ascii_digit b) (m * 10 + (b - 48), rest) read e in
    let range : (48 ≤ b) × (b ≤ 57) = grind (arith, nat_tests) in
    let back : 48 + (b - 48) ≡ b = omega arith in
    (b - 48, omega arith, λ i. sym back i ∷ (is i).1, λ i. (sym is i).0)

digit_more-digit : (m d : ℕ) (rest : List ℕ) → d < 10 → digit_more m ((48 + d) ∷ rest) ≡ Some (m * 10 + d, rest)
digit_more-digit m d rest small =
    let digit : is_ascii_digit (48 + d) ≡ true = grind (arith, nat_tests) in
    let back : 48 + d - 48 ≡ d = omega arith in
    rw (digit, back)

pub number_at-sound : (k : ℕ) (text : List ℕ) (read : ℕ × List ℕ) → number_at k text ≡ Some read → (read.0 < 10 ^ k) × (text ≡ digits k read.0 ++ read.1)
unfolding number_at digits
number_at-sound zero text read e =
    let is = same_Some (0, text) read e in
    (let none : 0 ≡ read.0 = λ i. (is i).0 in omega arith, λ i. (is i).1)
number_at-sound (suc k) text read e =
    then_some (λ (front : ℕ × List ℕ). digit_more front.0 front.1) (number_at k text) read e λ front led got.
    let (below, front_is) = number_at-sound k text front led in
    let (d, small, next, value) = digit_more-sound front.0 front.1 read got in
    let high : read.0 / 10 ≡ front.0 = omega arith in
    let low : read.0 % 10 ≡ d = omega arith in
    (omega (arith, pow-suc 10 k), rw (high, low, append_assoc) (front_is ∙ ap (λ t. digits k front.0 ++ t) next))

pub number_at-digits : (k n : ℕ) (rest : List ℕ) → n < 10 ^ k → number_at k (digits k n ++ rest) ≡ Some (n, rest)
unfolding number_at digits
number_at-digits zero n rest small = let none : n ≡ 0 = omega arith in rw none
number_at-digits (suc k) n rest small =
    let front : n / 10 < 10 ^ k = omega (arith, pow-suc 10 k) in
    let whole : n / 10 * 10 + n % 10 ≡ n = omega arith in
    rw (append_assoc, number_at-digits k (n / 10) ((48 + n % 10) ∷ rest) front)
    (digit_more-digit (n / 10) (n % 10) rest (omega arith) ∙ ap (λ m. Some (m, rest)) whole)

pub prefix_len-digits : (k n : ℕ) (rest : List ℕ) → prefix_len is_ascii_digit (digits k n ++ rest) ≡ k + prefix_len is_ascii_digit rest
unfolding digits
prefix_len-digits zero n rest = omega arith
prefix_len-digits (suc k) n rest =
    let digit : is_ascii_digit (48 + n % 10) ≡ true = grind (arith, nat_tests) in
    rw (append_assoc, prefix_len-digits k (n / 10) ((48 + n % 10) ∷ rest), digit) (omega arith)

-- ---- one digit more

pub number_at-none : (k : ℕ) (text : List ℕ) → k ≡ 0 → number_at k text ≡ Some (0, text)
unfolding number_at
number_at-none k text e = rw e

pub number_at-more : (k : ℕ) (text : List ℕ) → ¬ (k ≡ 0) → number_at k text ≡ option_and_then (λ (front : ℕ × List ℕ). digit_more front.0 front.1) (number_at (k - 1) text)
unfolding number_at
number_at-more zero text some = absurd (some refl)
number_at-more (suc k) text some = let less : suc k - 1 ≡ k = omega arith in rw less

pub power_more : (k n : ℕ) → ¬ (k ≡ 0) → n < 10 ^ (k - 1) → (n + 1) * 10 ≤ 10 ^ k
power_more zero n some small = absurd (some refl)
power_more (suc k) n some small = let less : suc k - 1 ≡ k = omega arith in omega (arith, pow-suc 10 k, rw less at small)

pub power_below : (k n : ℕ) → ¬ (k ≡ 0) → k ≤ 9 → n < 10 ^ (k - 1) → n < 10 ^ 8
power_below k n some few small = omega (arith, pow-le-pow_right {n = 10} (omega arith) {i = k - 1} {j = 8} (omega arith))
