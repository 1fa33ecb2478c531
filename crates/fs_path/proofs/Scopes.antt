-- A scope's test says whether a document is in the scope.
use Rattle.std.proofs.Common.{◌≡◌, ℕ, ◌+◌, ◌-◌, ◌≤◌, true, ◌&&◌, ◌↔◌, IsTrue, eqb, leb, List, [], ◌∷◌, ◌++◌, length, take, drop, get_or, refl, ap, sym, ◌∙◌, arith}
use Rattle.std.proofs.lemmas.Bool.{and_parts}
use Rattle.std.proofs.lemmas.Bool.Decides.{nat_tests}
use Rattle.std.proofs.lemmas.List.{append_assoc, length-append, take-append-drop, take_at, drop-drop, drop_more, drop_all, get_or_at, nil_from_length}
use Rattle.std.proofs.lemmas.Slice.Eq.{bytes_eq-Decides, slice_eq-Decides}
use Rattle.std.specs.Cmp.Lexicographic.{pointwise}
use Rattle.fs_path.specs.declared.name.DocName.{DocName}
use Rattle.fs_path.specs.declared.scope.Scope.{Scope}
use Rattle.fs_path.specs.declared.scope.Scope.TheVariants.{Collection, Group}
use Rattle.fs_path.specs.TextOrder.{text_eq}
use Rattle.fs_path.specs.Scope.{Covers, covers, lies_in}

two_last : (ids : List (List ℕ)) (k : ℕ) → length ids ≡ k + 2 → drop k ids ≡ get_or ids k [] ∷ get_or ids (k + 1) [] ∷ []
two_last ids k h =
    drop_more ids k [] (omega arith) ∙ ap (λ r. get_or ids k [] ∷ r) (drop_more ids (k + 1) [] (omega arith) ∙ ap (λ r. get_or ids (k + 1) [] ∷ r) (drop_all (k + 1 + 1) ids (omega arith)))

record Lies (parent : List (List ℕ)) (id : List ℕ) (ids : List (List ℕ)) : Type 0 where
  between : List (List ℕ)
  last : List ℕ
  whole : ids ≡ parent ++ (between ++ id ∷ last ∷ [])

same_ids : (xs ys : List (List ℕ)) → pointwise text_eq xs ys ≡ true → xs ≡ ys
same_ids xs ys h = (slice_eq-Decides bytes_eq-Decides xs ys (pointwise text_eq xs ys) refl).0 h

self_ids : (xs ys : List (List ℕ)) → xs ≡ ys → pointwise text_eq xs ys ≡ true
self_ids xs ys h = (slice_eq-Decides bytes_eq-Decides xs ys (pointwise text_eq xs ys) refl).1 h

lies_from : (parent : List (List ℕ)) (id : List ℕ) (ids : List (List ℕ)) → lies_in parent id ids ≡ true → Lies parent id ids
lies_from parent id ids h =
    let both = and_parts (leb (length parent + 2) (length ids) && pointwise text_eq parent (take (length parent) ids)) (text_eq (get_or ids (length ids - 2) []) id) h in
    let first = and_parts (leb (length parent + 2) (length ids)) (pointwise text_eq parent (take (length parent) ids)) both.0 in
    let p = length parent in
    let k = length ids - 2 in
    let long : p + 2 ≤ length ids = grind (arith, nat_tests, first.0) in
    let starts : parent ≡ take p ids = same_ids parent (take p ids) first.1 in
    let is : get_or ids k [] ≡ id = (bytes_eq-Decides (get_or ids k []) id).0 both.1 in
    let count : length ids ≡ k + 2 = omega arith in
    let place : p + (k - p) ≡ k = omega arith in
    let rest : drop p ids ≡ take (k - p) (drop p ids) ++ id ∷ get_or ids (k + 1) [] ∷ [] =
    sym (take-append-drop (k - p) (drop p ids)) ∙ ap (λ r. take (k - p) (drop p ids) ++ r) (drop-drop (k - p) p ids ∙ (ap (λ n. drop n ids) place ∙ (two_last ids k count ∙ ap (λ x. x ∷ get_or ids (k + 1) [] ∷ []) is))) in
    record {
      between = take (k - p) (drop p ids);
      last = get_or ids (k + 1) [];
      whole = sym (take-append-drop p ids) ∙ (ap (λ x. x ++ drop p ids) (sym starts) ∙ ap (λ x. parent ++ x) rest);
    }

lies_to : (parent : List (List ℕ)) (id : List ℕ) (ids between : List (List ℕ)) (last : List ℕ) → ids ≡ parent ++ (between ++ id ∷ last ∷ []) → lies_in parent id ids ≡ true
lies_to parent id ids between last h =
    let end = id ∷ last ∷ [] in
    let inner = length-append between end in
    let outer = length-append parent (between ++ end) in
    let count : length ids ≡ length parent + (length between + 2) = ap length h ∙ (outer ∙ omega (arith, inner)) in
    let long : leb (length parent + 2) (length ids) ≡ true = grind (arith, nat_tests) in
    let starts : pointwise text_eq parent (take (length parent) ids) ≡ true =
    self_ids parent (take (length parent) ids) (sym (ap (take (length parent)) h ∙ take_at parent (between ++ end) (length parent) refl)) in
    let joined = length-append parent between in
    let at : get_or ids (length ids - 2) [] ≡ id =
    ap (λ x. get_or x (length ids - 2) []) (h ∙ sym (append_assoc parent between end)) ∙ get_or_at (parent ++ between) id (last ∷ []) [] (length ids - 2) (omega arith) in
    let ends : text_eq (get_or ids (length ids - 2) []) id ≡ true = (bytes_eq-Decides (get_or ids (length ids - 2) []) id).1 at in
    rw (long, starts, ends) refl

-- a test of a scope is that the document is in it
pub covers_law : (scope : Scope) (n : DocName) → IsTrue (covers scope n) ↔ Covers scope n
covers_law (Collection parent id) n = (forth, back)
  where
    forth : (lies_in parent id n.ids && eqb (length n.ids) (length parent + 2)) ≡ true → (last : List ℕ) × (n.ids ≡ parent ++ id ∷ last ∷ [])
    forth h =
        let parts = and_parts (lies_in parent id n.ids) (eqb (length n.ids) (length parent + 2)) h in
        let l = lies_from parent id n.ids parts.0 in
        let count : length n.ids ≡ length parent + 2 = grind (arith, nat_tests, parts.1) in
        let inner = length-append l.between (id ∷ l.last ∷ []) in
        let outer = ap length l.whole ∙ length-append parent (l.between ++ id ∷ l.last ∷ []) in
        let none = nil_from_length l.between (omega arith) in
        (l.last, l.whole ∙ ap (λ b. parent ++ (b ++ id ∷ l.last ∷ [])) none)

    back : (last : List ℕ) × (n.ids ≡ parent ++ id ∷ last ∷ []) → (lies_in parent id n.ids && eqb (length n.ids) (length parent + 2)) ≡ true
    back h =
        let lies = lies_to parent id n.ids [] h.0 h.1 in
        let outer = ap length h.1 ∙ length-append parent (id ∷ h.0 ∷ []) in
        let count : eqb (length n.ids) (length parent + 2) ≡ true = grind (arith, nat_tests) in
        rw (lies, count) refl
covers_law (Group parent id) n =
    (λ h. let l = lies_from parent id n.ids h in (l.between, l.last, l.whole), λ h. lies_to parent id n.ids h.0 h.1 h.2)
