-- What `parse` gives for an optional `-` and digits.
use Rattle.std.proofs.Common.{◌≡◌, ℕ, zero, suc, ◌<◌, ◌≤◌, ◌^◌, ℤ, pos, neg_ℤ, List, drop, length, leb-true, Bool, true, false, get_or, Result, Ok, Err, refl, arith}
use Rattle.std.proofs.lemmas.Bool.{and_parts, eqb-true}
use Rattle.std.proofs.lemmas.Bool.Decides.{nat_tests}
use Rattle.std.proofs.lemmas.Str.Parse.{IsNumeralModel, numerals_by_value, tells_all_ascii_digits, parse_signed_minus, parse_signed_digits}
use Rattle.std.specs.Int.{w64}
use Rattle.std.specs.Result.{OkIff, result_ok}
use Rattle.std.specs.Str.{all_ascii_digits}
use Rattle.std.specs.Str.Parse.{digits_value, starts_with_minus, ParsesSigned}
use Rattle.fs_json.specs.Integer.{if_fits, integer_in_text, is_numeral, signed_value, without_minus}

pub own : IsNumeralModel (λ ds. all_ascii_digits ds ≡ true) (digits_value 10)
own = numerals_by_value _ tells_all_ascii_digits

fits_above : {E : Type 0} (r : Result ℤ E) (P : Type 0) (n : ℕ) → OkIff r (P × (n < 2 ^ 63)) (pos n) → P → result_ok r ≡ if_fits 63 (pos n)
fits_above (Ok x) P n h p = grind (arith, nat_tests)
fits_above (Err e) P n h p = grind (arith, nat_tests)

fits_below : {E : Type 0} (r : Result ℤ E) (P Q : Type 0) (n : ℕ) → OkIff r (P × Q × (n ≤ 2 ^ 63)) (neg_ℤ (pos n)) → P → Q → result_ok r ≡ if_fits 63 (neg_ℤ (pos n))
fits_below (Ok x) P Q zero h p q = grind (arith, nat_tests)
fits_below (Ok x) P Q (suc n) h p q = grind (arith, nat_tests)
fits_below (Err e) P Q zero h p q = grind (arith, nat_tests)
fits_below (Err e) P Q (suc n) h p q = grind (arith, nat_tests)

-- by what the text begins with
by_sign : {E : Type 0} (b : Bool) (text : List ℕ) (r : Result ℤ E) → starts_with_minus text ≡ b → ParsesSigned w64 10 text r
    → all_ascii_digits (without_minus text) ≡ true → 0 < length (without_minus text) → result_ok r ≡ if_fits 63 (signed_value text)
by_sign true text r minus h digits some =
    let begins : get_or text 0 0 ≡ 45 = eqb-true _ _ minus in
    let all : all_ascii_digits (drop 1 text) ≡ true = rw minus at digits in
    let one : 0 < length (drop 1 text) = rw minus at some in
    rw minus (fits_below r _ _ _ (parse_signed_minus own w64 text r h begins) all one)
by_sign false text r minus h digits some =
    let all : all_ascii_digits text ≡ true = rw minus at digits in
    let one : 0 < length text = rw minus at some in
    rw minus (fits_above r _ _ (parse_signed_digits own w64 text r h all) one)

pub parsed : {E : Type 0} (text : List ℕ) (r : Result ℤ E) → ParsesSigned w64 10 text r → is_numeral text ≡ true → result_ok r ≡ integer_in_text text
parsed text r h is =
    let least = and_parts _ _ is in
    let most = and_parts _ _ least.1 in
    rw is (by_sign _ text r refl h most.1 (leb-true _ _ least.0))
