-- Names and the texts that hold them.
use Rattle.std.proofs.Common.{◌≡◌, ℕ, ◌+◌, ◌<◌, Bool, true, false, eqb, sum_by, Option, Some, None, List, [], ◌∷◌, ◌++◌, length, refl, ap, sym, ◌∙◌, subst, arith}
use Rattle.std.proofs.lemmas.List.{append_assoc}
use Rattle.std.proofs.lemmas.List.Sums.{sum_by-cons}
use Rattle.std.proofs.lemmas.List.Splits.{join_with_byte-slice_split}
use Rattle.std.specs.List.{AllByRecursion, join_with_byte, flat_map}
use Rattle.fs_path.specs.Segment.{segments, has_slash}
use Rattle.fs_path.proofs.Segments.{segments_at, segments_all, whole_parts, join_slashed}
use Rattle.fs_path.specs.Spelling.{slashed}
use Rattle.fs_path.specs.Cursor.{rest_segments, after_slash}
use Rattle.fs_path.specs.Name.{named, name_in, path_of, IsPath}
use Rattle.fs_path.proofs.PathOrder.{parts}

-- ---- a path that was joined from parts

pub path_parts : (p d : List ℕ) (ids : List (List ℕ)) → has_slash p ≡ false → has_slash d ≡ false → AllByRecursion (λ id. has_slash id ≡ false) ids → segments (p ++ 47 ∷ (d ++ flat_map slashed ids)) ≡ p ∷ d ∷ ids
path_parts p d ids hp hd all = segments_at p (d ++ flat_map slashed ids) hp ∙ ap (λ r. p ∷ r) (segments_all d ids hd all)

-- a text, and its segments each after a slash
pub slashed_text : (text : List ℕ) → 47 ∷ text ≡ flat_map slashed (segments text)
slashed_text text =
    let p = parts text in
    ap (λ t. 47 ∷ t) (sym (join_with_byte-slice_split 47 text) ∙ (ap (join_with_byte 47) p.are ∙ join_slashed p.first p.rest)) ∙ ap (flat_map slashed) (sym p.are)

pub slashed_rest : (o : Option (List ℕ)) → after_slash o ≡ flat_map slashed (rest_segments o)
slashed_rest None = refl
slashed_rest (Some text) = slashed_text text

pub whole_rest : (o : Option (List ℕ)) → AllByRecursion (λ id. has_slash id ≡ false) (rest_segments o)
whole_rest None = tt
whole_rest (Some text) = whole_parts text

pub head_parts : (p d : List ℕ) (o : Option (List ℕ)) → has_slash p ≡ false → has_slash d ≡ false → segments (p ++ 47 ∷ (d ++ after_slash o)) ≡ p ∷ d ∷ rest_segments o
head_parts p d o hp hd = ap (λ t. segments (p ++ 47 ∷ (d ++ t))) (slashed_rest o) ∙ path_parts p d (rest_segments o) hp hd (whole_rest o)

pub some_path : (path p d : List ℕ) (ids : List (List ℕ)) → segments path ≡ p ∷ d ∷ ids → IsPath path
some_path path p d ids h = subst (λ ps. 1 < length ps) (sym h) (omega arith)

-- a text with a slash
pub some_rest : (path p rest : List ℕ) → segments path ≡ p ∷ segments rest → IsPath path
some_rest path p rest h = let r = parts rest in some_path path p r.first r.rest (h ∙ ap (λ ps. p ∷ ps) r.are)

-- ---- texts that were written piece by piece

pub path_pieces : (p d t : List ℕ) → ((p ++ 47 ∷ []) ++ d) ++ t ≡ p ++ 47 ∷ (d ++ t)
path_pieces p d t = append_assoc (p ++ 47 ∷ []) d t ∙ append_assoc p (47 ∷ []) (d ++ t)

pub name_pieces : (a p b d c t : List ℕ) → ((((a ++ p) ++ b) ++ d) ++ c) ++ t ≡ a ++ (p ++ (b ++ (d ++ (c ++ t))))
name_pieces a p b d c t =
    append_assoc (((a ++ p) ++ b) ++ d) c t
    ∙ (append_assoc ((a ++ p) ++ b) d (c ++ t)
    ∙ (append_assoc (a ++ p) b (d ++ (c ++ t))
    ∙ append_assoc a p (b ++ (d ++ (c ++ t)))))

-- ---- the bytes of a path, and 1

sum_at : (x : ℕ) (xs : List ℕ) (b : Bool) → eqb x 47 ≡ b → sum_by (λ id. length id + 1) (segments xs) ≡ length xs + 1 → sum_by (λ id. length id + 1) (segments (x ∷ xs)) ≡ length (x ∷ xs) + 1
sum_at x xs true e h = rw e (omega (arith, sum_by-cons (λ id. length id + 1) [] (segments xs), h))
sum_at x xs false e h =
    let p = parts xs in
    let before = ap (sum_by (λ id. length id + 1)) (sym p.are) ∙ h in
    rw (e, p.are) (omega (arith, sum_by-cons (λ id. length id + 1) (x ∷ p.first) p.rest, sum_by-cons (λ id. length id + 1) p.first p.rest, before))

pub segments-size : (text : List ℕ) → sum_by (λ id. length id + 1) (segments text) ≡ length text + 1
segments-size [] = refl
segments-size (x ∷ xs) = sum_at x xs (eqb x 47) refl (segments-size xs)

path_again_at : (path : List ℕ) (ids : List (List ℕ)) → segments path ≡ ids → 1 < length ids → path ≡ path_of (named ids)
path_again_at path [] is some = absurd (omega arith)
path_again_at path (p ∷ []) is some = absurd (omega arith)
path_again_at path (p ∷ d ∷ ids) is some = sym (join_with_byte-slice_split 47 path) ∙ ap (join_with_byte 47) is

-- the text of a name is the one that holds it
pub path_again : (path : List ℕ) → IsPath path → path ≡ path_of (name_in path)
path_again path some = path_again_at path (segments path) refl some
