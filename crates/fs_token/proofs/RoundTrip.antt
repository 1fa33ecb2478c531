-- Just the tokens of moments are read, each as its moment.
use Rattle.std.proofs.Common.{◌≡◌, ◌≢◌, ℕ, ◌+◌, ◌-◌, ◌<◌, ◌^◌, ◌↔◌, ℤ, pos, negsuc, Result, Ok, Err, List, [], ◌∷◌, ◌++◌, length, take, drop, get_or, Bool, nat_eq, true, false, refl, sym, ◌∙◌, ap, subst, ◌==◌, eqb-true, arith, to_z, of_z, FitsSigned, w64}
use Rattle.std.specs.Bool.{Decides}
use Rattle.std.specs.List.{starts_with}
use Rattle.std.specs.Int.{to_be_bytes, from_be_bytes}
use Rattle.std.proofs.lemmas.Bool.{false_from_ne_true}
use Rattle.std.proofs.lemmas.Int.{ints, to_z-of_z, of_z-to_z}
use Rattle.std.proofs.Math.Facts.{Fits-of_z}
use Rattle.std.proofs.lemmas.Nat.{be_bytes_8, from_be_bytes-to_be_bytes_8}
use Rattle.std.proofs.lemmas.List.{take-append-drop, length-drop, get_or-drop}
use Rattle.std.proofs.lemmas.Slice.Eq.{bytes_eq-Decides}
use Rattle.fs_time.specs.Moment.{is_moment, IsMoment}
use Rattle.fs_time.proofs.Moments.{moment_range}
use Rattle.fs_token.specs.Token.{token_of, time_in, number_in, token_length, mark, time_of_number}
use Rattle.fs_token.specs.declared.error.TokenError.{TokenError}
use Rattle.fs_token.specs.declared.error.TokenError.TheVariants.{BadLength, BadMark, BadTime}

pub fits_signed : (t : ℤ) → IsMoment t → FitsSigned w64 t
fits_signed (pos n) h = grind (arith, ints, moment_range (pos n) h)
fits_signed (negsuc n) h = grind (arith, ints, moment_range (negsuc n) h)

-- whether bytes begin as a token
marked : (bytes : List ℕ) → Decides (starts_with nat_eq bytes mark) (take 4 bytes ≡ mark)
marked bytes =
    let both = bytes_eq-Decides mark (take 4 bytes) in
    (λ e. sym (both.0 e), λ e. both.1 (sym e))

-- each reading
pub time_in-short : (bytes : List ℕ) → length bytes ≢ token_length → time_in bytes ≡ Err (BadLength (length bytes))
unfolding time_in
time_in-short bytes short =
    let differs : (length bytes == token_length) ≡ false = false_from_ne_true (length bytes == token_length) (λ e. short (eqb-true (length bytes) token_length e)) in
    rw differs refl

pub time_in-unmarked : (bytes : List ℕ) → length bytes ≡ token_length → starts_with nat_eq bytes mark ≡ false → time_in bytes ≡ Err BadMark
unfolding time_in
time_in-unmarked bytes long other = rw long (rw other refl)

pub time_in-marked : (bytes : List ℕ) → length bytes ≡ token_length → starts_with nat_eq bytes mark ≡ true → time_in bytes ≡ time_of_number (number_in bytes)
unfolding time_in
time_in-marked bytes long begins = rw long (rw begins refl)

-- the 8 bytes of a moment show it
number_in-token_of : (t : ℤ) → IsMoment t → number_in (token_of t) ≡ t
unfolding token_of
number_in-token_of t h =
    let fits = fits_signed t h in
    ap (to_z w64) (from_be_bytes-to_be_bytes_8 (of_z w64 t) (omega (arith, Fits-of_z fits))) ∙ to_z-of_z w64 t fits

-- what is written is read
pub time_in-token_of : (t : ℤ) → IsMoment t → time_in (token_of t) ≡ Ok t
unfolding token_of
time_in-token_of t h =
    time_in-marked (token_of t) refl refl ∙ ap time_of_number (number_in-token_of t h) ∙ rw h refl

-- A token's bytes behind the mark, taken one by one.
abbrev spread : List ℕ → List ℕ
spread bs =
    mark ++ get_or bs 0 0 ∷ get_or bs 1 0 ∷ get_or bs 2 0 ∷ get_or bs 3 0 ∷ get_or bs 4 0 ∷ get_or bs 5 0 ∷ get_or bs 6 0 ∷ get_or bs 7 0 ∷ []

pub spread_of : (bs : List ℕ) (z t : ℤ) → FitsSigned w64 z → z ≡ t → bs ≡ to_be_bytes w64 (of_z w64 (to_z w64 (of_z w64 z))) → spread bs ≡ token_of t
unfolding token_of
spread_of bs z t fits same e = ap spread (e ∙ ap (λ n. to_be_bytes w64 (of_z w64 n)) (to_z-of_z w64 z fits ∙ same))

-- 8 bytes are a number of 64 bits
eight_fit : (bytes : List ℕ) → ((i : ℕ) → get_or bytes i 0 < 256) → from_be_bytes w64 bytes < 2 ^ 64
eight_fit bytes small =
    let a = small 0 in
    let b = small 1 in
    let c = small 2 in
    let d = small 3 in
    let e = small 4 in
    let f = small 5 in
    let g = small 6 in
    let h = small 7 in
    omega arith

small_behind : (bytes : List ℕ) → ((i : ℕ) → get_or bytes i 0 < 256) → (i : ℕ) → get_or (drop 4 bytes) i 0 < 256
small_behind bytes small i = rw (get_or-drop 4 bytes i 0) (small (4 + i))

written : (bytes : List ℕ) (t : ℤ) → ((i : ℕ) → get_or bytes i 0 < 256) → length bytes ≡ token_length → take 4 bytes ≡ mark → number_in bytes ≡ t → bytes ≡ token_of t
unfolding token_of
written bytes t small long begins shown =
    let behind = small_behind bytes small in
    let eight : length (drop 4 bytes) ≡ 8 = length-drop 4 bytes ∙ ap (λ n. n - 4) long in
    let number : of_z w64 t ≡ from_be_bytes w64 (drop 4 bytes) =
    ap (of_z w64) (sym shown) ∙ of_z-to_z w64 (from_be_bytes w64 (drop 4 bytes)) (eight_fit (drop 4 bytes) behind)
    in
    sym (take-append-drop 4 bytes) ∙ ap (λ xs. xs ++ drop 4 bytes) begins
    ∙ ap (λ xs. mark ++ xs) (sym (be_bytes_8 (drop 4 bytes) (of_z w64 t) eight behind number))

moment_shown : (z t : ℤ) (b : Bool) → is_moment z ≡ b → time_of_number z ≡ Ok t → IsMoment t × (z ≡ t)
moment_shown z t false is e = absurd (let no : Err BadTime ≡ Ok t = rw is at e in cc)
moment_shown z t true is e = let same : z ≡ t = (let yes : Ok z ≡ Ok t = rw is at e in cc) in (subst IsMoment same is, same)

-- what is read was written
read_marked : (bytes : List ℕ) (t : ℤ) → ((i : ℕ) → get_or bytes i 0 < 256) → length bytes ≡ token_length → starts_with nat_eq bytes mark ≡ true → time_in bytes ≡ Ok t → IsMoment t × (bytes ≡ token_of t)
read_marked bytes t small long begins e =
    let shown = moment_shown (number_in bytes) t (is_moment (number_in bytes)) refl (sym (time_in-marked bytes long begins) ∙ e) in
    (shown.0, written bytes t small long ((marked bytes).0 begins) shown.1)

read_long : (bytes : List ℕ) (t : ℤ) → ((i : ℕ) → get_or bytes i 0 < 256) → length bytes ≡ token_length → (b : Bool) → starts_with nat_eq bytes mark ≡ b → time_in bytes ≡ Ok t → IsMoment t × (bytes ≡ token_of t)
read_long bytes t small long true is e = read_marked bytes t small long is e
read_long bytes t small long false is e =
    absurd (let no = time_in-unmarked bytes long is in cc)

read_of_length : (bytes : List ℕ) (t : ℤ) → ((i : ℕ) → get_or bytes i 0 < 256) → (b : Bool) → (length bytes == token_length) ≡ b → time_in bytes ≡ Ok t → IsMoment t × (bytes ≡ token_of t)
read_of_length bytes t small true is e = read_long bytes t small (eqb-true (length bytes) token_length is) (starts_with nat_eq bytes mark) refl e
read_of_length bytes t small false is e =
    let short : length bytes ≢ token_length = λ l. absurd (let no : true ≡ false = rw l at is in cc) in
    absurd (let no = time_in-short bytes short in cc)

-- Just the tokens of moments are read.
pub reads_exactly : (bytes : List ℕ) (r : Result ℤ TokenError) → ((i : ℕ) → get_or bytes i 0 < 256) → r ≡ time_in bytes → (t : ℤ) → (r ≡ Ok t) ↔ (IsMoment t × (bytes ≡ token_of t))
reads_exactly bytes r small e t = (
  λ ok. read_of_length bytes t small (length bytes == token_length) refl (sym e ∙ ok),
  λ is. e ∙ ap time_in is.1 ∙ time_in-token_of t is.0,
)

-- the bytes behind the mark, taken one by one
abbrev pub eight_behind : List ℕ → List ℕ
eight_behind bs =
    get_or bs 4 0 ∷ get_or bs 5 0 ∷ get_or bs 6 0 ∷ get_or bs 7 0 ∷ get_or bs 8 0 ∷ get_or bs 9 0 ∷ get_or bs 10 0 ∷ get_or bs 11 0 ∷ []

pub number_is : (bytes : List ℕ) → length bytes ≡ token_length → to_z w64 (from_be_bytes w64 (eight_behind bytes)) ≡ number_in bytes
number_is (a ∷ b ∷ c ∷ d ∷ rest) e = refl
number_is [] e = absurd (omega arith)
number_is (a ∷ []) e = absurd (omega arith)
number_is (a ∷ b ∷ []) e = absurd (omega arith)
number_is (a ∷ b ∷ c ∷ []) e = absurd (omega arith)
