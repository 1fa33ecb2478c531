-- What `parse` gives for a text of decimal digits, and that the digits of a number are read as that number.
use Rattle.std.proofs.Common.{◌≡◌, ◌≢◌, ℕ, ◌<◌, ◌≤◌, ◌^◌, List, length, Bool, true, decimal, get_or, Result, Ok, Err, ◌&&◌, Some, None, ap, arith, nat_le, nat_lt, if◌then◌else◌}
use Rattle.std.proofs.lemmas.Bool.Decides.{nat_tests}
use Rattle.std.proofs.lemmas.Fmt.{decimal_nonempty, digits_decimal, digits_value-decimal, length-decimal-le}
use Rattle.std.proofs.lemmas.Str.Parse.{parse_plain}
use Rattle.std.specs.Result.{OkIff, result_ok}
use Rattle.std.specs.Str.{all_ascii_digits}
use Rattle.std.specs.Str.Parse.{digits_value, ParsesUnsigned}
use Rattle.fs_path.specs.declared.place.Rule.TheVariants.{G}
use Rattle.fs_json.specs.Answer.{or_fault}
use Rattle.fs_json.proofs.Integers.{own}
use Rattle.fs_rpc.specs.Decimal.{number_in_text, IsDecimalHeld}

-- ---- reading

by_result : {E : Type 0} (r : Result ℕ E) (digits : Bool) (count n : ℕ) → OkIff r ((digits ≡ true) × (0 < count) × (n < 2 ^ 64)) n → count ≤ 20
    → result_ok r ≡ (if nat_le 1 count && (nat_le count 20 && digits) then if nat_lt n (2 ^ 64) then Some n else None else None)
by_result (Ok x) digits count n h short = grind (arith, nat_tests)
by_result (Err e) digits count n h short = grind (arith, nat_tests)

pub parsed : {E : Type 0} (text : List ℕ) (r : Result ℕ E) → ParsesUnsigned 64 10 text r → length text ≤ 20 → get_or text 0 0 ≢ 43 → result_ok r ≡ number_in_text text
parsed text r h short plain = by_result r (all_ascii_digits text) (length text) (digits_value 10 text) (parse_plain own 64 text r h plain) short

-- ---- writing

shown : (digits : Bool) (count value n : ℕ) → digits ≡ true → 0 < count → count ≤ 20 → value ≡ n → n < 2 ^ 64
    → (if nat_le 1 count && (nat_le count 20 && digits) then if nat_lt value (2 ^ 64) then Some value else None else None) ≡ Some n
shown digits count value n all some short is fits = grind (arith, nat_tests)

number_again : (n : ℕ) → n < 2 ^ 64 → number_in_text (decimal n) ≡ Some n
number_again n fits =
    shown (all_ascii_digits (decimal n)) (length (decimal n)) (digits_value 10 (decimal n)) n (digits_decimal own n fits) (decimal_nonempty n fits)
    (length-decimal-le 20 n (omega arith) (omega arith) fits) (digits_value-decimal own n fits) fits

pub decimal_again : (n : ℕ) → n < 2 ^ 64 → IsDecimalHeld n
decimal_again n fits = λ place. ap (or_fault G place) (number_again n fits)
