-- Texts that are cut at a slash, and the texts of paths.
use Rattle.std.proofs.Common.{◌≡◌, ℕ, ◌<◌, suc, Bool, true, false, cond, eqb, List, [], ◌∷◌, ◌++◌, length, take, drop, get_or, Option, Some, None, refl, sym, ap, ◌∙◌, arith}
use Rattle.std.specs.Prelude.{◌≢◌, ◌&&◌, not}
use Rattle.std.specs.Cmp.{first_so, second_so}
use Rattle.std.specs.List.{AllByRecursion, join_with_byte, onto_first}
use Rattle.std.specs.Str.{NoCharPasses}
use Rattle.std.specs.Str.Pattern.{HasCharAt}
use Rattle.std.proofs.lemmas.Bool.{eqb-true, not-true}
use Rattle.std.proofs.lemmas.List.{append_cancel_left, length-append, take-append-drop, take_at}
use Rattle.std.proofs.lemmas.List.Folds.{list_all-append}
use Rattle.std.proofs.lemmas.List.Splits.{join_with_byte-slice_split}
use Rattle.std.proofs.lemmas.Str.Pattern.{NoCharPasses-char, drop_at_char}
use Rattle.fs_path.proofs.Segments.{join_slashed, segments_all, whole_parts}
use Rattle.fs_path.specs.Cursor.{rest_segments}
use Rattle.fs_path.specs.Segment.{segments, has_slash}
use Rattle.fs_path.specs.TextOrder.{text_eq_equiv, text_is}
use Rattle.fs_locks.specs.Paths.{is_plain, path_eq, path_text}

-- ---- a text that is cut

onto_more : (x : ℕ) (parts more : List (List ℕ)) → parts ≢ [] → onto_first x (parts ++ more) ≡ onto_first x parts ++ more
onto_more x [] more some = absurd (some refl)
onto_more x (part ∷ parts) more some = refl

some_onto : (x : ℕ) (parts : List (List ℕ)) → onto_first x parts ≢ []
some_onto x [] e = cc
some_onto x (part ∷ parts) e = cc

some_segments : (text : List ℕ) → segments text ≢ []
some_segments [] e = cc
some_segments (x ∷ xs) e = at (eqb x 47) e
  where
    at : (b : Bool) → cond b ([] ∷ segments xs) (onto_first x (segments xs)) ≡ [] → ⊥
    at true e = cc
    at false e = some_onto x (segments xs) e

-- the parts of a text are those before one of its slashes and those after it
pub segments_cut : (xs ys : List ℕ) → segments (xs ++ 47 ∷ ys) ≡ segments xs ++ segments ys
segments_cut [] ys = refl
segments_cut (x ∷ xs) ys = at (eqb x 47) (segments_cut xs ys)
  where
    at : (b : Bool) → segments (xs ++ 47 ∷ ys) ≡ segments xs ++ segments ys
        → cond b ([] ∷ segments (xs ++ 47 ∷ ys)) (onto_first x (segments (xs ++ 47 ∷ ys))) ≡ cond b ([] ∷ segments xs) (onto_first x (segments xs)) ++ segments ys
    at true more = ap (λ parts. [] ∷ parts) more
    at false more = ap (onto_first x) more ∙ onto_more x (segments xs) (segments ys) (some_segments xs)

apart : (x : ℕ) → x ≢ 47 → eqb x 47 ≡ false
apart x other = at (eqb x 47) refl
  where
    at : (b : Bool) → eqb x 47 ≡ b → b ≡ false
    at true same = absurd (other (eqb-true x 47 same))
    at false same = refl

slashless : (bs : List ℕ) → ((i : ℕ) → i < length bs → get_or bs i 0 ≢ 47) → has_slash bs ≡ false
slashless [] none = refl
slashless (x ∷ bs) none =
    let first : eqb x 47 ≡ false = apart x (none 0 (omega arith)) in
    rw first (slashless bs (λ i h. none (suc i) (omega arith)))

-- no slash is found
pub no_slash : (bs : List ℕ) → NoCharPasses (λ d. eqb d 47) bs → has_slash bs ≡ false
no_slash bs none = slashless bs (λ i h. NoCharPasses-char 47 bs i none (omega arith) h)

-- the last slash is found
pub cut_last : (bs front last : List ℕ) (i j : ℕ) → HasCharAt 47 bs i j → front ≡ take i bs → last ≡ drop j bs → bs ≡ front ++ 47 ∷ last
cut_last bs front last i j there before after =
    sym (take-append-drop i bs) ∙ ap (λ r. take i bs ++ r) (drop_at_char 47 bs i j there (omega arith)) ∙ ap (λ f. f ++ 47 ∷ drop j bs) (sym before) ∙ ap (λ l. front ++ 47 ∷ l) (sym after)

-- ---- lists that end alike

pub same_ends : (xs ys : List (List ℕ)) (x y l m : List ℕ) → xs ++ x ∷ l ∷ [] ≡ ys ++ y ∷ m ∷ [] → (xs ≡ ys) × (x ≡ y)
same_ends xs ys x y l m same =
    let long = length-append xs (x ∷ l ∷ []) in
    let long' = length-append ys (y ∷ m ∷ []) in
    let counts = ap length same in
    let count : length xs ≡ length ys = omega arith in
    let front : xs ≡ ys =
    sym (take_at xs (x ∷ l ∷ []) (length xs) refl) ∙ ap (take (length xs)) same ∙ take_at ys (y ∷ m ∷ []) (length xs) (sym count) in
    let ends : x ∷ l ∷ [] ≡ y ∷ m ∷ [] = append_cancel_left ys (x ∷ l ∷ []) (y ∷ m ∷ []) (sym (ap (λ zs. zs ++ x ∷ l ∷ []) front) ∙ same) in
    (front, cc)

-- ---- the texts of paths

pub path_is : (s t : Option (List ℕ)) → path_eq s t ≡ true → s ≡ t
path_is None None h = refl
path_is None (Some t) h = absurd (cc)
path_is (Some s) None h = absurd (cc)
path_is (Some s) (Some t) h = ap (λ (x : List ℕ). Some x) (text_is s t h)

pub path_itself : (t : Option (List ℕ)) → path_eq t t ≡ true
path_itself None = refl
path_itself (Some t) = text_eq_equiv.refl t

text_of_parts : (text : List ℕ) (parts : List (List ℕ)) → segments text ≡ parts → path_text parts ≡ Some text
text_of_parts text [] are = absurd (some_segments text are)
text_of_parts text (part ∷ parts) are = ap (λ (x : List ℕ). Some x) (ap (join_with_byte 47) (sym are) ∙ join_with_byte-slice_split 47 text)

-- a path is told by its ids
pub text_again : (t : Option (List ℕ)) → path_text (rest_segments t) ≡ t
text_again None = refl
text_again (Some text) = text_of_parts text (segments text) refl

all_whole : (ids : List (List ℕ)) → is_plain ids ≡ true → AllByRecursion (λ id. has_slash id ≡ false) ids
all_whole [] h = tt
all_whole (id ∷ ids) h = (not-true (has_slash id) (first_so (not (has_slash id)) (is_plain ids) h), all_whole ids (second_so (not (has_slash id)) (is_plain ids) h))

all_plain : (ids : List (List ℕ)) → AllByRecursion (λ id. has_slash id ≡ false) ids → is_plain ids ≡ true
all_plain [] all = refl
all_plain (id ∷ ids) all = ap (λ b. not b && is_plain ids) all.0 ∙ all_plain ids all.1

-- and ids without slashes by their path
pub ids_again : (ids : List (List ℕ)) → is_plain ids ≡ true → rest_segments (path_text ids) ≡ ids
ids_again [] plain = refl
ids_again (id ∷ ids) plain =
    let whole = all_whole (id ∷ ids) plain in
    ap segments (join_slashed id ids) ∙ segments_all id ids whole.0 whole.1

pub plain_path : (t : Option (List ℕ)) → is_plain (rest_segments t) ≡ true
plain_path None = refl
plain_path (Some text) = all_plain (segments text) (whole_parts text)

pub plain_front : (front rest : List (List ℕ)) → is_plain (front ++ rest) ≡ true → is_plain front ≡ true
plain_front front rest plain = first_so (is_plain front) (is_plain rest) (sym (list_all-append (λ id. not (has_slash id)) front rest) ∙ plain)
