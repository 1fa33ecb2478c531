-- Texts and their parts between slashes.
use Rattle.std.proofs.Common.{◌≡◌, ℕ, ◌+◌, ◌<◌, zero, suc, Bool, true, false, cond, eqb, Some, List, [], ◌∷◌, ◌++◌, length, drop, slice_get, refl, ap, sym, ◌∙◌, subst, arith}
use Rattle.std.proofs.lemmas.Bool.{or_parts}
use Rattle.std.proofs.lemmas.List.{append-nil}
use Rattle.std.proofs.lemmas.List.Splits.{slice_split_first}
use Rattle.std.specs.List.{AllByRecursion, onto_first, join_with_byte, flat_map, slice_split, position_or_len, before_first, after_first}
use Rattle.fs_path.specs.Segment.{segments, has_slash}
use Rattle.fs_path.specs.Spelling.{slashed}

-- ---- the parts of a text that was joined from parts

-- a part with no slash in it ends at the slash after it
pub segments_at : (xs ys : List ℕ) → has_slash xs ≡ false → segments (xs ++ 47 ∷ ys) ≡ xs ∷ segments ys
segments_at [] ys h = refl
segments_at (x ∷ xs) ys h =
    let parts = or_parts (eqb x 47) (has_slash xs) h in
    let rest = segments_at xs ys parts.1 in
    rw (parts.0, rest) refl

pub segments_whole : (xs : List ℕ) → has_slash xs ≡ false → segments xs ≡ xs ∷ []
segments_whole [] h = refl
segments_whole (x ∷ xs) h =
    let parts = or_parts (eqb x 47) (has_slash xs) h in
    let rest = segments_whole xs parts.1 in
    rw (parts.0, rest) refl

pub segments_all : (x : List ℕ) (ids : List (List ℕ)) → has_slash x ≡ false → AllByRecursion (λ id. has_slash id ≡ false) ids → segments (x ++ flat_map slashed ids) ≡ x ∷ ids
segments_all x [] h all = ap segments (append-nil x) ∙ segments_whole x h
segments_all x (id ∷ ids) h all = segments_at x (id ++ flat_map slashed ids) h ∙ ap (λ r. x ∷ r) (segments_all id ids all.0 all.1)

-- ---- the text that was cut into parts

-- no part has a slash in it
onto_whole : (x : ℕ) (parts : List (List ℕ)) → eqb x 47 ≡ false → AllByRecursion (λ id. has_slash id ≡ false) parts → AllByRecursion (λ id. has_slash id ≡ false) (onto_first x parts)
onto_whole x [] e all = (rw e refl, tt)
onto_whole x (part ∷ parts) e all = (rw e all.0, all.1)

whole_parts_at : (x : ℕ) (xs : List ℕ) (b : Bool) → eqb x 47 ≡ b → AllByRecursion (λ id. has_slash id ≡ false) (segments xs) → AllByRecursion (λ id. has_slash id ≡ false) (cond b ([] ∷ segments xs) (onto_first x (segments xs)))
whole_parts_at x xs true e all = (refl, all)
whole_parts_at x xs false e all = onto_whole x (segments xs) e all

pub whole_parts : (xs : List ℕ) → AllByRecursion (λ id. has_slash id ≡ false) (segments xs)
whole_parts [] = (refl, tt)
whole_parts (x ∷ xs) = whole_parts_at x xs (eqb x 47) refl (whole_parts xs)

-- a join, and each later part after its slash
pub join_slashed : (x : List ℕ) (ids : List (List ℕ)) → join_with_byte 47 (x ∷ ids) ≡ x ++ flat_map slashed ids
join_slashed x [] = sym (append-nil x)
join_slashed x (id ∷ ids) = ap (λ r. x ++ (47 ∷ r)) (join_slashed id ids)

-- ---- a text with no slash, and what is left of segments

-- a text with no separator is one part
whole_at : (p : ℕ → Bool) (x : ℕ) (xs : List ℕ) (b : Bool) → p x ≡ b → (position_or_len p xs ≡ length xs → slice_split p xs ≡ xs ∷ []) → position_or_len p (x ∷ xs) ≡ length (x ∷ xs) → slice_split p (x ∷ xs) ≡ (x ∷ xs) ∷ []
whole_at p x xs true e more h = absurd (omega (arith, rw e at h))
whole_at p x xs false e more h = let rest : position_or_len p xs ≡ length xs = omega (arith, rw e at h) in rw (e, more rest) refl

pub whole : (p : ℕ → Bool) (xs : List ℕ) → position_or_len p xs ≡ length xs → slice_split p xs ≡ xs ∷ []
whole p [] h = refl
whole p (x ∷ xs) h = whole_at p x xs (p x) refl (whole p xs) h

-- a text that was cut at its first slash
pub cut : (text first rest : List ℕ) → first ≡ before_first (λ b. eqb b 47) text → rest ≡ after_first (λ b. eqb b 47) text → position_or_len (λ b. eqb b 47) text < length text → segments text ≡ first ∷ segments rest
cut text first rest front back there = slice_split_first (λ b. eqb b 47) text 0 there ∙ λ i. sym front i ∷ segments (sym back i)

pub first_whole : (text first : List ℕ) (ids : List (List ℕ)) → segments text ≡ first ∷ ids → has_slash first ≡ false
first_whole text first ids are = (subst (λ ps. AllByRecursion (λ id. has_slash id ≡ false) ps) are (whole_parts text)).0

-- ---- what is left of segments behind the first so many

pub there : {A : Type 0} (n : ℕ) (xs : List A) (y : A) (ys : List A) → drop n xs ≡ y ∷ ys → slice_get xs n ≡ Some y
there zero [] y ys h = cc
there zero (x ∷ xs) y ys h = cc
there (suc n) [] y ys h = cc
there (suc n) (x ∷ xs) y ys h = there n xs y ys h

pub next_left : {A : Type 0} (n : ℕ) (xs : List A) (y : A) (ys : List A) → drop n xs ≡ y ∷ ys → drop (n + 1) xs ≡ ys
next_left zero [] y ys h = cc
next_left zero (x ∷ xs) y ys h = cc
next_left (suc n) [] y ys h = cc
next_left (suc n) (x ∷ xs) y ys h = let place : suc n + 1 ≡ suc (n + 1) = omega arith in ap (λ k. drop k (x ∷ xs)) place ∙ next_left n xs y ys h
