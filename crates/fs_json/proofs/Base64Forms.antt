-- A text is the base64 of at most one list of bytes, whichever of the four forms it has.
use Rattle.std.proofs.Common.{◌≡◌, ℕ, zero, suc, ◌⊎◌, inl, inr, List, [], ◌∷◌, map, length, replicate, slice_index, Bool, true, false, cond, eqb, Option, Some, None, Result, Ok, Err, refl, sym, ap, ◌∙◌, arith}
use mathlib.Core.List.{map-append}
use Rattle.std.specs.Option.{option_or}
use Rattle.std.specs.Result.{result_ok}
use Rattle.base64.specs.Engines.{standard, standard_no_pad, url_safe, url_safe_no_pad}
use Rattle.base64.specs.GeneralPurpose.{decode_of, decoded_of, decoded_bytes_of, encode_of, IsBytes, IsConsistent, IsStrict}
use Rattle.base64.specs.Decode.{decode_outcome, decoded_bytes}
use Rattle.base64.specs.Rfc4648.{encode, encode_symbols, padding_len}
use Rattle.base64.specs.declared.decode.DecodeError.{DecodeError}
use Rattle.base64.specs.declared.engine.DecodePaddingMode.TheVariants.{Indifferent}
use Rattle.base64.specs.declared.engine.general_purpose.GeneralPurpose.{GeneralPurpose}
use Rattle.base64.specs.Tables.{all_below}
use Rattle.base64.proofs.EngineFacts.{decode_of-encode_of, decode_of_strict}
use Rattle.base64.proofs.RoundTrip.{decode-encode}
use Rattle.base64.proofs.Tables.{all_below_at}
use Rattle.std.proofs.lemmas.Bool.{cases_lt, eqb-true}
use Rattle.std.proofs.lemmas.List.{get_or_past}
use Rattle.fs_json.specs.Base64.{IsBase64, decoded}

-- ---- from the URL alphabet to the standard one

abbrev plain : ℕ → ℕ
plain c = cond (eqb c 45) 43 (cond (eqb c 95) 47 c)

abbrev same_at : List ℕ → ℕ → Bool
same_at t i = eqb (plain (slice_index t i)) (slice_index standard.encode_table i)

plain_table : (t : List ℕ) → length t ≡ 64 → all_below (same_at t) 64 ≡ true → (i : ℕ) → plain (slice_index t i) ≡ slice_index standard.encode_table i
plain_table t len all i =
    elim (cases_lt i 64) [
      | inl below ↦ eqb-true _ _ (all_below_at (same_at t) 64 i all below)
      | inr past ↦
          let ours : slice_index t i ≡ 0 = get_or_past t i 0 (omega arith) in
          let theirs : slice_index standard.encode_table i ≡ 0 = get_or_past standard.encode_table i 0 past in
          rw (ours, theirs) refl
    ]

-- all but the padding of a text, symbol by symbol
plain_symbols : (t : List ℕ) → ((i : ℕ) → plain (slice_index t i) ≡ slice_index standard.encode_table i) → (m : List ℕ) → map plain (encode_symbols t m) ≡ encode_symbols standard.encode_table m
unfolding encode_symbols
plain_symbols t same [] = refl
plain_symbols t same (a ∷ []) = simp same
plain_symbols t same (a ∷ b ∷ []) = simp same
plain_symbols t same (a ∷ b ∷ c ∷ rest) = simp (same, plain_symbols t same rest)

plain_padding : (n : ℕ) → map plain (replicate n 61) ≡ replicate n 61
plain_padding zero = refl
plain_padding (suc n) = ap (λ xs. 61 ∷ xs) (plain_padding n)

plain_end : (padding : Bool) (n : ℕ) → map plain (cond padding (replicate n 61) []) ≡ cond padding (replicate n 61) []
plain_end true n = plain_padding n
plain_end false n = refl

plain_text : (t : List ℕ) (padding : Bool) → ((i : ℕ) → plain (slice_index t i) ≡ slice_index standard.encode_table i) → (m : List ℕ) → map plain (encode t 61 padding m) ≡ encode standard.encode_table 61 padding m
plain_text t padding same m =
    map-append plain (encode_symbols t m) _ ∙ rw (plain_symbols t same m, plain_end padding (padding_len (length m))) refl

of_standard : (i : ℕ) → plain (slice_index standard.encode_table i) ≡ slice_index standard.encode_table i
of_standard = plain_table standard.encode_table refl refl

of_url_safe : (i : ℕ) → plain (slice_index url_safe.encode_table i) ≡ slice_index standard.encode_table i
of_url_safe = plain_table url_safe.encode_table refl refl

-- ---- one text, one list of bytes

standard_bytes : (padding : Bool) (b : List ℕ) → IsBytes b → decoded_bytes standard.decode_table 61 (encode standard.encode_table 61 padding b) ≡ b
standard_bytes padding b bytes = (decode-encode standard.encode_table standard.decode_table b 61 false Indifferent padding standard.tables bytes tt).1

url_safe_bytes : (padding : Bool) (b : List ℕ) → IsBytes b → decoded_bytes url_safe.decode_table 61 (encode url_safe.encode_table 61 padding b) ≡ b
url_safe_bytes padding b bytes = (decode-encode url_safe.encode_table url_safe.decode_table b 61 false Indifferent padding url_safe.tables bytes tt).1

outcome_bytes : (error : Option DecodeError) (bytes b : List ℕ) → decode_outcome error bytes ≡ Ok b → b ≡ bytes
outcome_bytes None bytes b e = cc
outcome_bytes (Some x) bytes b e = cc

-- what the standard alphabet reads of a text of either alphabet
as_standard : (text b c : List ℕ) (padding : Bool) → IsBytes b → c ≡ decoded_bytes standard.decode_table 61 text → text ≡ encode standard.encode_table 61 padding b → c ≡ b
as_standard text b c padding bytes read is = read ∙ rw is (standard_bytes padding b bytes)

as_url_safe : (text b c : List ℕ) (padding : Bool) → IsBytes b → c ≡ decoded_bytes url_safe.decode_table 61 text → text ≡ encode url_safe.encode_table 61 padding b → c ≡ b
as_url_safe text b c padding bytes read is = read ∙ rw is (url_safe_bytes padding b bytes)

across : (text b c : List ℕ) (one other : Bool) → IsBytes b → c ≡ decoded_bytes standard.decode_table 61 text → text ≡ encode standard.encode_table 61 one c → text ≡ encode url_safe.encode_table 61 other b → c ≡ b
across text b c one other bytes read is said =
    let same : text ≡ encode standard.encode_table 61 other b =
    is ∙ sym (plain_text standard.encode_table one of_standard c) ∙ ap (map plain) (sym is ∙ said) ∙ plain_text url_safe.encode_table other of_url_safe b in
    as_standard text b c other bytes read same

-- ---- the four forms in turn

ok_of : {E : Type 0} (r : Result (List ℕ) E) (b : List ℕ) → result_ok r ≡ Some b → r ≡ Ok b
ok_of (Ok c) b e = cc
ok_of (Err x) b e = cc

reads : (e : GeneralPurpose) (text c : List ℕ) → IsStrict e → IsBytes text → decoded_of e text ≡ Some c → (c ≡ decoded_bytes_of e text) × (text ≡ encode_of e c)
unfolding decoded_of
reads e text c strict bytes is =
    let ok = ok_of (decode_of e text) c is in
    (outcome_bytes _ _ c ok, decode_of_strict e text c strict bytes ok)

written : (e : GeneralPurpose) (text b : List ℕ) → IsConsistent e → IsBytes b → text ≡ encode_of e b → decoded_of e text ≡ Some b
unfolding decoded_of
written e text b consistent bytes is = ap (λ t. result_ok (decode_of e t)) is ∙ ap result_ok (decode_of-encode_of e b consistent bytes)

either : {A : Type 0} (x y : Option A) (b : A) → option_or x y ≡ Some b → (x ≡ Some b) ⊎ (y ≡ Some b)
either None y b e = inr e
either (Some c) y b e = inl e

first : {A : Type 0} (x y : Option A) (b : A) → ((c : A) → x ≡ Some c → c ≡ b) → y ≡ Some b → option_or x y ≡ Some b
first None y b same here = here
first (Some c) y b same here = ap Some (same c refl)

-- what is read is said so in one of the four forms
pub found : (text b : List ℕ) → IsBytes text → decoded text ≡ Some b → IsBase64 text b
unfolding decoded
found text b bytes is =
    elim (either (decoded_of standard text) _ b is) [
      | inl read ↦ inl (reads standard text b (refl, refl) bytes read).1
      | inr later ↦ elim (either (decoded_of standard_no_pad text) _ b later) [
        | inl read ↦ inr (inl (reads standard_no_pad text b (refl, refl) bytes read).1)
        | inr later ↦ elim (either (decoded_of url_safe text) _ b later) [
          | inl read ↦ inr (inr (inl (reads url_safe text b (refl, refl) bytes read).1))
          | inr read ↦ inr (inr (inr (reads url_safe_no_pad text b (refl, refl) bytes read).1))
        ]
      ]
    ]

-- what is said so in one of the four forms is read
pub only : (text b : List ℕ) → IsBytes text → IsBytes b → IsBase64 text b → decoded text ≡ Some b
unfolding decoded
only text b bytes wide (inl is) = rw (written standard text b refl wide is) refl
only text b bytes wide (inr (inl is)) =
    first _ _ b (λ c r. as_standard text b c false wide (reads standard text c (refl, refl) bytes r).0 is)
    (rw (written standard_no_pad text b refl wide is) refl)
only text b bytes wide (inr (inr (inl is))) =
    first _ _ b (λ c r. let p = reads standard text c (refl, refl) bytes r in across text b c true true wide p.0 p.1 is)
    (first _ _ b (λ c r. let p = reads standard_no_pad text c (refl, refl) bytes r in across text b c false true wide p.0 p.1 is)
    (rw (written url_safe text b refl wide is) refl))
only text b bytes wide (inr (inr (inr is))) =
    first _ _ b (λ c r. let p = reads standard text c (refl, refl) bytes r in across text b c true false wide p.0 p.1 is)
    (first _ _ b (λ c r. let p = reads standard_no_pad text c (refl, refl) bytes r in across text b c false false wide p.0 p.1 is)
    (first _ _ b (λ c r. as_url_safe text b c false wide (reads url_safe text c (refl, refl) bytes r).0 is) (written url_safe_no_pad text b refl wide is)))
