-- Numbers of a few digits.
use Rattle.std.proofs.Common.{◌≡◌, ℕ, ◌<◌, ◌≤◌, ◌^◌, List, length, leb-true, true, Result, arith, rules, ap, ◌∙◌, sym}
use Rattle.std.proofs.lemmas.Bool.{and_parts}
use Rattle.std.proofs.lemmas.Str.Parse.{IsNumeralModel, numerals_by_value, digits_value_short, parse_gives}
use Rattle.std.specs.Char.{is_ascii_digit}
use Rattle.std.specs.List.{list_all}
use Rattle.std.specs.Result.{result_ok}
use Rattle.std.specs.Str.Parse.{digits_value, ParsesUnsigned}
use Rattle.fsemu.specs.Words.{is_number}
use Rattle.fsemu.specs.Reader.{number_in}

own : IsNumeralModel (λ ds. list_all is_ascii_digit ds ≡ true) (digits_value 10)
own = numerals_by_value _ (search rules)

-- what ten digits write fits 64 bits
pub parsed : {E : Type 0} (text : List ℕ) (r : Result ℕ E) → ParsesUnsigned 64 10 text r → is_number text ≡ true → result_ok r ≡ number_in text
parsed text r h is =
    let parts = and_parts _ _ is in
    let bounds = and_parts _ _ parts.0 in
    let least : 1 ≤ length text = leb-true _ _ bounds.0 in
    let most : length text ≤ 10 = leb-true _ _ bounds.1 in
    let short = digits_value_short own text 10 parts.1 most in
    let fits : digits_value 10 text < 2 ^ 64 = omega (arith, short) in
    ap result_ok (parse_gives own 64 text r h parts.1 least fits) ∙ sym (rw is)
