-- Ids and names that no test refuses.
use Rattle.std.proofs.Common.{◌≡◌, ℕ, ◌<◌, ◌≤◌, ◌%◌, Bool, true, false, not, cond, ◌||◌, eqb, ltb, is_some, Some, List, [], ◌∷◌, length, refl, sym, ◌∙◌, subst, arith}
use Rattle.std.proofs.lemmas.Bool.{or_from}
use Rattle.std.proofs.lemmas.Bool.Decides.{nat_tests}
use Rattle.std.proofs.lemmas.Slice.Eq.{bytes_eq-Decides}
use Rattle.std.specs.List.{AllByRecursion, list_any, find}
use Rattle.std.specs.Option.{option_map}
use Rattle.fs_path.specs.declared.name.Root.{Root}
use Rattle.fs_path.specs.declared.name.DocName.{DocName}
use Rattle.fs_path.specs.Limits.{max_id, max_name, max_segments}
use Rattle.fs_path.specs.Segment.{has_slash, is_empty, is_reserved, is_dots, is_long, IsId}
use Rattle.fs_path.specs.Findings.{findings, id_refusals, document_refusals, is_even}
use Rattle.fs_path.specs.Spelling.{document_text, is_of}
use Rattle.fs_path.specs.Document.{IsDocument}

-- ids that no rule refuses, in a text of so many bytes
pub record IsGood (ids : List (List ℕ)) (bytes : ℕ) : Type 0 where
  pub each : AllByRecursion IsId ids
  pub deep : length ids ≤ max_segments
  pub long : bytes ≤ max_name

pub none_of : (p : List ℕ → Bool) (ids : List (List ℕ)) → ((id : List ℕ) → IsId id → p id ≡ false) → AllByRecursion IsId ids → list_any p ids ≡ false
none_of p [] each all = refl
none_of p (id ∷ ids) each all = or_from (p id) (list_any p ids) (each id all.0) (none_of p ids each all.1)

pub whole_ids : (ids : List (List ℕ)) → AllByRecursion IsId ids → AllByRecursion (λ id. has_slash id ≡ false) ids
whole_ids [] all = tt
whole_ids (id ∷ ids) all = (all.0.whole, whole_ids ids all.1)

pub odd_none : (n : ℕ) → n % 2 ≡ 0 → 0 < n → (not (is_even n) || eqb n 0) ≡ false
odd_none n e s = or_from (not (is_even n)) (eqb n 0) (rw e refl) (grind (arith, nat_tests))

-- some id is too long where one is found
pub some_long : (ids : List (List ℕ)) → is_some (option_map length (find is_long ids)) ≡ list_any is_long ids
some_long [] = refl
some_long (id ∷ ids) = at (is_long id) (some_long ids)
  where
    at : (b : Bool) → is_some (option_map length (find is_long ids)) ≡ list_any is_long ids → is_some (option_map length (cond b (Some id) (find is_long ids))) ≡ (b || list_any is_long ids)
    at true e = refl
    at false e = e

pub not_above : (m n : ℕ) → n ≤ m → ltb m n ≡ false
not_above m n h = grind (arith, nat_tests)

pub none_refused : (ids : List (List ℕ)) (bytes : ℕ) → IsGood ids bytes → AllByRecursion (λ t. t.0 ≡ false) (id_refusals (findings ids) bytes)
none_refused ids bytes g =
    let empty = none_of is_empty ids (λ id h. h.some) g.each in
    let reserved = none_of is_reserved ids (λ id h. h.free) g.each in
    let dots = none_of is_dots ids (λ id h. h.no_dots) g.each in
    let long = some_long ids ∙ none_of is_long ids (λ id h. not_above max_id (length id) h.short) g.each in
    (empty, (reserved, (dots, (long, (not_above max_name bytes g.long, (not_above max_segments (length ids) g.deep, tt))))))

pub none_from : (text : List ℕ) (n : DocName) → IsDocument n → text ≡ document_text n → AllByRecursion (λ t. t.0 ≡ false) (document_refusals (findings n.ids) (length text))
none_from text n d e =
    let good : IsGood n.ids (length text) = record { each = d.ids; deep = d.deep; long = subst (λ t. length t ≤ max_name) (sym e) d.long } in
    (odd_none (length n.ids) d.even d.some, none_refused n.ids (length text) good)

pub is_root : (root : Root) (n : DocName) → n.project ≡ root.project → n.database ≡ root.database → not (is_of root n) ≡ false
is_root root n p d = rw ((bytes_eq-Decides n.project root.project).1 p, (bytes_eq-Decides n.database root.database).1 d) refl
