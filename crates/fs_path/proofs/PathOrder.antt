-- The order of paths byte by byte is the order of names segment by segment.
use Rattle.std.proofs.Common.{◌≡◌, ℕ, ◌+◌, ◌<◌, ◌≤◌, zero, suc, Bool, true, false, eqb, ltb, List, [], ◌∷◌, length, take, drop, get_or, refl, ap, sym, ◌∙◌, arith}
use Rattle.std.proofs.lemmas.Bool.{eqb-true, false≢true}
use Rattle.std.proofs.lemmas.Bool.Decides.{nat_tests}
use Rattle.std.proofs.lemmas.Cmp.{tied_itself, nat_cmp_total}
use Rattle.std.proofs.lemmas.Slice.Eq.{bytes_eq-Decides}
use Rattle.std.specs.FinMap.{IsAntisymmetric, slice_cmp-IsAntisymmetric, nat_cmp-IsAntisymmetric}
use Rattle.std.specs.Ordering.{ordering_then, nat_cmp, is_eq}
use Rattle.std.specs.declared.cmp.Ordering.{Ordering}
use Rattle.std.specs.declared.cmp.Ordering.TheVariants.{Less, Equal, Greater}
use Rattle.fs_path.specs.TextOrder.{text_cmp, text_eq, ids_cmp}
use Rattle.fs_path.specs.Segment.{segments}
use Rattle.fs_path.specs.Name.{named, name_in, IsPath}
use Rattle.fs_path.specs.NameOrder.{name_cmp, name_cmp_total, name_eq}
use Rattle.fs_path.proofs.Orders.{then_assoc}
use Rattle.fs_path.specs.PathOrder.{rank, byte_cmp, path_cmp}

-- there is a first segment
pub record Parts (xs : List ℕ) : Type 0 where
  pub first : List ℕ
  pub rest : List (List ℕ)
  pub are : segments xs ≡ first ∷ rest

parts_at : (x : ℕ) (xs : List ℕ) (b : Bool) → eqb x 47 ≡ b → Parts xs → Parts (x ∷ xs)
parts_at x xs true e p = record { first = []; rest = segments xs; are = rw e refl }
parts_at x xs false e p = record { first = x ∷ p.first; rest = p.rest; are = rw (e, p.are) refl }

pub parts : (xs : List ℕ) → Parts xs
parts [] = record { first = []; rest = []; are = refl }
parts (x ∷ xs) = parts_at x xs (eqb x 47) refl (parts xs)

-- ---- two bytes

rank_slash : (x : ℕ) → eqb x 47 ≡ true → rank x ≡ 0
rank_slash x e = rw e refl

rank_other : (x : ℕ) → eqb x 47 ≡ false → rank x ≡ x + 1
rank_other x e = rw e refl

slash_first : (y : ℕ) → nat_cmp 0 (y + 1) ≡ Less
slash_first y = let below : ltb 0 (y + 1) ≡ true = grind (arith, nat_tests) in rw below refl

slash_last : (x : ℕ) → nat_cmp (x + 1) 0 ≡ Greater
slash_last x = let above : ltb (x + 1) 0 ≡ false = grind (arith, nat_tests) in let apart : eqb (x + 1) 0 ≡ false = grind (arith, nat_tests) in rw (above, apart) refl

both_higher : (x y : ℕ) → nat_cmp (x + 1) (y + 1) ≡ nat_cmp x y
both_higher x y =
    let below : ltb (x + 1) (y + 1) ≡ ltb x y = grind (arith, nat_tests) in
    let same : eqb (x + 1) (y + 1) ≡ eqb x y = grind (arith, nat_tests) in
    rw (below, same) refl

-- ---- two texts

end_first : (y : ℕ) (ys : List ℕ) (b : Bool) → eqb y 47 ≡ b → Less ≡ ids_cmp ([] ∷ []) (segments (y ∷ ys))
end_first y ys true e = let p = parts ys in rw (e, p.are) refl
end_first y ys false e = let p = parts ys in rw (e, p.are) refl

end_last : (x : ℕ) (xs : List ℕ) (b : Bool) → eqb x 47 ≡ b → Greater ≡ ids_cmp (segments (x ∷ xs)) ([] ∷ [])
end_last x xs true e = let p = parts xs in rw (e, p.are) refl
end_last x xs false e = let p = parts xs in rw (e, p.are) refl

on_both : (x y : ℕ) (xs ys : List ℕ) (b c : Bool) → eqb x 47 ≡ b → eqb y 47 ≡ c → path_cmp xs ys ≡ ids_cmp (segments xs) (segments ys) → path_cmp (x ∷ xs) (y ∷ ys) ≡ ids_cmp (segments (x ∷ xs)) (segments (y ∷ ys))
on_both x y xs ys true true e f h =
    let first : byte_cmp x y ≡ Equal = rw (rank_slash x e, rank_slash y f) refl in
    ap (λ o. ordering_then o (path_cmp xs ys)) first ∙ rw (e, f) h
on_both x y xs ys true false e f h =
    let q = parts ys in
    let first : byte_cmp x y ≡ Less = rw (rank_slash x e, rank_other y f) (slash_first y) in
    ap (λ o. ordering_then o (path_cmp xs ys)) first ∙ rw (e, f, q.are) refl
on_both x y xs ys false true e f h =
    let p = parts xs in
    let first : byte_cmp x y ≡ Greater = rw (rank_other x e, rank_slash y f) (slash_last x) in
    ap (λ o. ordering_then o (path_cmp xs ys)) first ∙ rw (e, f, p.are) refl
on_both x y xs ys false false e f h =
    let p = parts xs in
    let q = parts ys in
    let first : byte_cmp x y ≡ nat_cmp x y = rw (rank_other x e, rank_other y f) (both_higher x y) in
    let more : path_cmp xs ys ≡ ordering_then (text_cmp p.first q.first) (ids_cmp p.rest q.rest) = h ∙ rw (p.are, q.are) refl in
    ap (λ o. ordering_then o (path_cmp xs ys)) first
    ∙ (ap (ordering_then (nat_cmp x y)) more
    ∙ (then_assoc (nat_cmp x y) (text_cmp p.first q.first) (ids_cmp p.rest q.rest) ∙ rw (e, f, p.are, q.are) refl))

pub segments_cmp : (xs ys : List ℕ) → path_cmp xs ys ≡ ids_cmp (segments xs) (segments ys)
segments_cmp [] [] = refl
segments_cmp [] (y ∷ ys) = end_first y ys (eqb y 47) refl
segments_cmp (x ∷ xs) [] = end_last x xs (eqb x 47) refl
segments_cmp (x ∷ xs) (y ∷ ys) = on_both x y xs ys (eqb x 47) (eqb y 47) refl refl (segments_cmp xs ys)

-- ---- two names

parts_cmp : (ps qs : List (List ℕ)) → 1 < length ps → 1 < length qs → ids_cmp ps qs ≡ name_cmp (named ps) (named qs)
parts_cmp [] qs p q = absurd (omega (arith, p))
parts_cmp (a ∷ []) qs p q = absurd (omega (arith, p))
parts_cmp (a ∷ b ∷ ps) [] p q = absurd (omega (arith, q))
parts_cmp (a ∷ b ∷ ps) (c ∷ []) p q = absurd (omega (arith, q))
parts_cmp (a ∷ b ∷ ps) (c ∷ d ∷ qs) p q = refl

pub name_cmp_paths : (xs ys : List ℕ) → IsPath xs → IsPath ys → path_cmp xs ys ≡ name_cmp (name_in xs) (name_in ys)
name_cmp_paths xs ys p q = segments_cmp xs ys ∙ parts_cmp (segments xs) (segments ys) p q

-- bytes of one rank are one
rank_same : (a b : ℕ) (s t : Bool) → eqb a 47 ≡ s → eqb b 47 ≡ t → rank a ≡ rank b → a ≡ b
rank_same a b true true e f h = eqb-true a 47 e ∙ sym (eqb-true b 47 f)
rank_same a b true false e f h = absurd (omega (arith, sym (rank_slash a e) ∙ (h ∙ rank_other b f)))
rank_same a b false true e f h = absurd (omega (arith, sym (rank_other a e) ∙ (h ∙ rank_slash b f)))
rank_same a b false false e f h = omega (arith, sym (rank_other a e) ∙ (h ∙ rank_other b f))

byte_same : IsAntisymmetric byte_cmp
byte_same a b h = rank_same a b (eqb a 47) (eqb b 47) refl refl (nat_cmp-IsAntisymmetric (rank a) (rank b) h)

-- names compare alike exactly where their paths are one
alike_at : (xs ys : List ℕ) (b : Bool) → text_eq xs ys ≡ b → IsPath xs → IsPath ys → b ≡ is_eq (name_cmp (name_in xs) (name_in ys))
alike_at xs ys true e p q =
    let same = (bytes_eq-Decides xs ys).0 e in
    sym (ap (λ t. is_eq (name_cmp (name_in xs) (name_in t))) (sym same) ∙ ap is_eq (tied_itself name_cmp_total (name_in xs)))
alike_at xs ys false e p q = apart (name_cmp (name_in xs) (name_in ys)) refl
  where
    apart : (o : Ordering) → name_cmp (name_in xs) (name_in ys) ≡ o → false ≡ is_eq (name_cmp (name_in xs) (name_in ys))
    apart Less h = ap is_eq (sym h)
    apart Greater h = ap is_eq (sym h)
    apart Equal h =
        let same = slice_cmp-IsAntisymmetric byte_same xs ys (name_cmp_paths xs ys p q ∙ h) in
        absurd (false≢true (sym e ∙ (bytes_eq-Decides xs ys).1 same))

pub name_eq_paths : (xs ys : List ℕ) → IsPath xs → IsPath ys → text_eq xs ys ≡ name_eq (name_in xs) (name_in ys)
name_eq_paths xs ys p q = alike_at xs ys (text_eq xs ys) refl p q

-- ---- what is left behind fronts that are one

pub alike_front : (k : ℕ) (xs ys : List ℕ) → k ≤ length xs → k ≤ length ys → take k xs ≡ take k ys → path_cmp (drop k xs) (drop k ys) ≡ path_cmp xs ys
alike_front zero xs ys p q h = refl
alike_front (suc k) [] ys p q h = absurd (omega (arith, p))
alike_front (suc k) (x ∷ xs) [] p q h = absurd (omega (arith, q))
alike_front (suc k) (x ∷ xs) (y ∷ ys) p q h =
    let first : x ≡ y = ap (λ t. get_or t 0 0) h in
    let rest : take k xs ≡ take k ys = ap (drop 1) h in
    let tied : byte_cmp x y ≡ Equal = ap (λ b. nat_cmp (rank x) (rank b)) (sym first) ∙ tied_itself nat_cmp_total (rank x) in
    alike_front k xs ys (omega (arith, p)) (omega (arith, q)) rest ∙ ap (λ o. ordering_then o (path_cmp xs ys)) (sym tied)

-- a text that goes on comes after one that ends
pub goes_on_last : (xs ys : List ℕ) → 0 < length xs → length ys ≡ 0 → Greater ≡ path_cmp xs ys
goes_on_last [] ys p q = absurd (omega (arith, p))
goes_on_last (x ∷ xs) [] p q = refl
goes_on_last (x ∷ xs) (y ∷ ys) p q = absurd (omega (arith, q))
