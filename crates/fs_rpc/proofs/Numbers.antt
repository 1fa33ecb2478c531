-- The 8 bytes of a number are those of no other, so what is written of a number is read as the same.
use Rattle.std.proofs.Common.{◌≡◌, ◌==◌, ◌↔◌, ℕ, ◌<◌, ◌^◌, Bool, true, false, List, length, get_or, Option, Some, None, cond, refl, sym, ap, ◌∙◌, arith}
use Rattle.std.proofs.lemmas.Bool.Decides.{nat_tests}
use Rattle.std.proofs.lemmas.Nat.{be_bytes_8, from_be_bytes-to_be_bytes_8}
use Rattle.std.specs.Int.{w64, from_be_bytes, to_be_bytes}
use Rattle.fs_path.specs.declared.place.Rule.TheVariants.{G}
use Rattle.fs_json.specs.Answer.{or_fault, ◌>>=◌}
use Rattle.fs_json.specs.Base64.{decoded}
use Rattle.fs_rpc.specs.Eight.{number_of, eight_text, IsEightHeld}

number_again : (n : ℕ) → n < 2 ^ 64 → number_of (to_be_bytes w64 n) ≡ Some n
unfolding number_of
number_again n fits = ap Some (from_be_bytes-to_be_bytes_8 n fits)

-- what is read is the number whose bytes these are
only_at : (b : Bool) (bytes : List ℕ) (n : ℕ) → (length bytes == 8) ≡ b → ((i : ℕ) → get_or bytes i 0 < 256) → cond b (Some (from_be_bytes w64 bytes)) None ≡ Some n → bytes ≡ to_be_bytes w64 n
only_at true bytes n eight each e =
    let is : from_be_bytes w64 bytes ≡ n = cc in
    sym (be_bytes_8 bytes n (grind (arith, nat_tests)) each (sym is))
only_at false bytes n eight each e = absurd (cc)

pub number_both_ways : (found : Option ℕ) (bytes : List ℕ) (n : ℕ) → found ≡ number_of bytes → ((i : ℕ) → get_or bytes i 0 < 256) → n < 2 ^ 64 → (found ≡ Some n) ↔ (bytes ≡ to_be_bytes w64 n)
unfolding number_of
number_both_ways found bytes n read each fits =
    (λ e. only_at (length bytes == 8) bytes n refl each (sym read ∙ e), λ is. read ∙ ap number_of is ∙ number_again n fits)

pub eight_again : (n : ℕ) → n < 2 ^ 64 → decoded (eight_text n) ≡ Some (to_be_bytes w64 n) → IsEightHeld n
eight_again n fits read = λ place.
    ap (λ o. or_fault G place o >>= λ bytes. or_fault G place (number_of bytes)) read ∙ ap (or_fault G place) (number_again n fits)
