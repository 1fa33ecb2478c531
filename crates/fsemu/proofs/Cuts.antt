-- A word that is cut at its first `=`.
use Rattle.std.proofs.Common.{◌≡◌, ℕ, ◌+◌, ◌<◌, true, List, ◌∷◌, ◌++◌, length, take, drop, get_or, not, ap, ◌∙◌, arith, length-append}
use Rattle.std.proofs.lemmas.Bool.{ltb-true, lt-ltb}
use Rattle.std.proofs.lemmas.Bool.Decides.{nat_tests}
use Rattle.std.proofs.lemmas.List.Folds.{prefix_len-append}
use Rattle.std.proofs.lemmas.List.Sums.{prefix_len_stops, split_at_first}
use Rattle.std.proofs.Math.Seq.{take-append_seam, drop-append-add}
use Rattle.std.specs.List.{before_first, after_first, position_or_len}
use Rattle.fsemu.specs.Reader.{has_equals, is_equals}

-- a word with an `=` is its name, the `=`, and its value
pub joined : (word : List ℕ) → has_equals word ≡ true → word ≡ before_first is_equals word ++ (61 ∷ after_first is_equals word)
joined word h =
    let within : position_or_len is_equals word < length word = ltb-true _ _ h in
    let stops = prefix_len_stops _ word 0 within in
    let here : get_or word (position_or_len is_equals word) 0 ≡ 61 = grind (arith, nat_tests) in
    split_at_first is_equals word 0 within ∙ ap (λ c. before_first is_equals word ++ (c ∷ after_first is_equals word)) here

-- the first `=` stands behind a name that has none
place : (name value : List ℕ) → position_or_len is_equals name ≡ length name → position_or_len is_equals (name ++ 61 ∷ value) ≡ length name
place name value h =
    let both = prefix_len-append (λ c. not (is_equals c)) name (61 ∷ value) in
    grind (arith, nat_tests)

pub has : (name value : List ℕ) → position_or_len is_equals name ≡ length name → has_equals (name ++ 61 ∷ value) ≡ true
has name value h = rw (place name value h) (lt-ltb _ _ (omega (arith, length-append name (61 ∷ value))))

pub before : (name value : List ℕ) → position_or_len is_equals name ≡ length name → before_first is_equals (name ++ 61 ∷ value) ≡ name
before name value h = ap (λ n. take n (name ++ 61 ∷ value)) (place name value h) ∙ take-append_seam name (61 ∷ value)

pub after : (name value : List ℕ) → position_or_len is_equals name ≡ length name → after_first is_equals (name ++ 61 ∷ value) ≡ value
after name value h = ap (λ n. drop (n + 1) (name ++ 61 ∷ value)) (place name value h) ∙ drop-append-add name (61 ∷ value) 1
