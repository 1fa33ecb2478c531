-- What is written is read again as the same value.
use Rattle.std.proofs.Common.{◌≡◌, ℕ, suc, ◌<◌, ◌≤◌, ◌^◌, ℤ, pos, negsuc, List, length, get_or, true, false, ltb, leb, Some, Ok, refl, arith, decimal, le-leb, eqb}
use Rattle.std.proofs.lemmas.Bool.Decides.{nat_tests}
use Rattle.std.proofs.lemmas.Fmt.{decimal_is_IsNumeral, length-decimal-le}
use Rattle.std.proofs.lemmas.Str.Parse.{digit_at}
use Rattle.std.specs.Fmt.{signed_decimal}
use Rattle.std.specs.Str.{all_ascii_digits}
use Rattle.std.specs.Str.Parse.{digits_value}
use lib.Signed.{mag}
use Rattle.base64.specs.Engines.{standard}
use Rattle.base64.specs.GeneralPurpose.{decode_of, decoded_of}
use Rattle.fs_json.specs.Base64.{decoded}
use Rattle.fs_json.specs.Integer.{integer_in_text}
use Rattle.fs_json.proofs.Integers.{own}

pub decoded-standard : (text b : List ℕ) → decode_of standard text ≡ Ok b → decoded text ≡ Some b
unfolding decoded decoded_of
decoded-standard text b h = rw h refl

record AreDigits (n : ℕ) : Type 0 where
  digits : all_ascii_digits (decimal n) ≡ true
  one : leb 1 (length (decimal n)) ≡ true
  short : leb (length (decimal n)) 19 ≡ true
  value : digits_value 10 (decimal n) ≡ n
  plain : eqb (get_or (decimal n) 0 0) 45 ≡ false

are_digits : (n : ℕ) → n ≤ 2 ^ 63 → AreDigits n
are_digits n h =
    let is = decimal_is_IsNumeral n (omega arith) in
    let first = digit_at (decimal n) 0 is.0.1 is.0.0 in
    record {
      digits = own.from _ is.0.1;
      one = le-leb _ _ is.0.0;
      short = le-leb _ _ (length-decimal-le 19 n (omega arith) (omega arith) (omega arith));
      value = is.1;
      plain = grind (arith, nat_tests, first);
    }

pub integer_in_text-signed_decimal : (z : ℤ) → mag z < 2 ^ 63 → integer_in_text (signed_decimal z) ≡ Some z
integer_in_text-signed_decimal (pos n) h =
    let d = are_digits n (omega arith) in
    let fits : ltb n (2 ^ 63) ≡ true = grind (arith, nat_tests) in
    rw (d.plain, d.one, d.short, d.digits, d.value, fits) refl
integer_in_text-signed_decimal (negsuc n) h =
    let d = are_digits (suc n) (omega arith) in
    let fits : ltb n (2 ^ 63) ≡ true = grind (arith, nat_tests) in
    rw (d.one, d.short, d.digits, d.value, fits) refl
