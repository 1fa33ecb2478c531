-- What is read as names is names of the root's documents, each once, and what is read as the database is the root's.
use Rattle.std.proofs.Common.{◌≡◌, ℕ, List, [], ◌∷◌, ◌++◌, Bool, true, false, IfOk, codes, cond, refl, sym, ◌∙◌}
use Rattle.std.proofs.lemmas.Bool.{or_parts}
use Rattle.std.proofs.lemmas.List.Folds.{list_any-append}
use Rattle.std.proofs.lemmas.Map.Keys.{IsDistinct-cons}
use Rattle.std.specs.List.{list_any, AllByRecursion, IsDistinct}
use Rattle.serde_json.specs.Data.{Data}
use Rattle.serde_json.specs.Find.{as_array}
use Rattle.fs_path.specs.Database.{IsDatabase}
use Rattle.fs_path.specs.Document.{IsDocumentOf}
use Rattle.fs_path.specs.NameOrder.{name_eq, name_eq_equiv}
use Rattle.fs_path.specs.Place.{member_place}
use Rattle.fs_path.specs.declared.name.DocName.{DocName}
use Rattle.fs_path.specs.declared.name.Root.{Root}
use Rattle.fs_path.specs.declared.place.Rule.TheVariants.{G}
use Rattle.fs_json.specs.Answer.{or_fault}
use Rattle.fs_json.specs.Members.{required_at}
use Rattle.fs_json.specs.Paths.{document_name_at as name_at}
use Rattle.fs_json.specs.Scalars.{text_at}
use Rattle.fs_json.specs.Walk.{each_at}
use Rattle.fs_json.proofs.Named.{database_is, document_name_is}
use Rattle.fs_json.proofs.Readings.{at_last_holds, in_turn_holds}
use Rattle.fs_json.proofs.Walks.{each_item}
use Rattle.fs_rpc.specs.Requests.{database_at, names_at, once_after}

-- ---- names, each once

-- none of these stands before
abbrev AreNew : List DocName → List DocName → Type 0
AreNew before ns = AllByRecursion (λ n. list_any (name_eq n) before ≡ false) ns

new_before : (before : List DocName) (x : DocName) (ns : List DocName) → AreNew (before ++ x ∷ []) ns → AreNew before ns
new_before before x [] new = tt
new_before before x (n ∷ ns) new =
    ((or_parts (list_any (name_eq n) before) (list_any (name_eq n) (x ∷ [])) (sym (list_any-append (name_eq n) before (x ∷ [])) ∙ new.0)).0, new_before before x ns new.1)

new_beside : (before : List DocName) (x : DocName) (ns : List DocName) → AreNew (before ++ x ∷ []) ns → AllByRecursion (λ n. name_eq x n ≡ false) ns
new_beside before x [] new = tt
new_beside before x (n ∷ ns) new =
    let other = (or_parts (list_any (name_eq n) before) (list_any (name_eq n) (x ∷ [])) (sym (list_any-append (name_eq n) before (x ∷ [])) ∙ new.0)).1 in
    (name_eq_equiv.symm x n ∙ (or_parts (name_eq n x) false other).0, new_beside before x ns new.1)

new_at : (b : Bool) (before rest : List DocName) (n : DocName) (ns : List DocName) → list_any (name_eq n) before ≡ b → AreNew before rest → AreNew (before ++ n ∷ []) ns
    → AreNew before (cond b rest (n ∷ ns))
new_at true before rest n ns is new more = new
new_at false before rest n ns is new more = (is, new_before before n ns more)

once_new : (before ns : List DocName) → AreNew before (once_after before ns)
once_new before [] = tt
once_new before (n ∷ ns) =
    new_at (list_any (name_eq n) before) before (once_after before ns) n (once_after (before ++ n ∷ []) ns) refl (once_new before ns) (once_new (before ++ n ∷ []) ns)

distinct_at : (b : Bool) (before rest : List DocName) (n : DocName) (ns : List DocName) → AreNew (before ++ n ∷ []) ns → IsDistinct name_eq rest → IsDistinct name_eq ns
    → IsDistinct name_eq (cond b rest (n ∷ ns))
distinct_at true before rest n ns new distinct more = distinct
distinct_at false before rest n ns new distinct more = IsDistinct-cons name_eq n ns (new_beside before n ns new) more

once_distinct : (before ns : List DocName) → IsDistinct name_eq (once_after before ns)
unfolding IsDistinct
once_distinct before [] = tt
once_distinct before (n ∷ ns) =
    distinct_at (list_any (name_eq n) before) before (once_after before ns) n (once_after (before ++ n ∷ []) ns) (once_new (before ++ n ∷ []) ns) (once_distinct before ns)
    (once_distinct (before ++ n ∷ []) ns)

each_in : (P : DocName → Type 0) (b : Bool) (rest : List DocName) (n : DocName) (ns : List DocName) → P n → AllByRecursion P rest → AllByRecursion P ns → AllByRecursion P (cond b rest (n ∷ ns))
each_in P true rest n ns one each more = each
each_in P false rest n ns one each more = (one, more)

once_each : (P : DocName → Type 0) (before ns : List DocName) → AllByRecursion P ns → AllByRecursion P (once_after before ns)
once_each P before [] each = tt
once_each P before (n ∷ ns) each =
    each_in P (list_any (name_eq n) before) (once_after before ns) n (once_after (before ++ n ∷ []) ns) each.0 (once_each P before ns each.1) (once_each P (before ++ n ∷ []) ns each.1)

-- names of the root's documents, each once
pub record AreNames (root : Root) (ns : List DocName) : Type 0 where
  pub each : AllByRecursion (IsDocumentOf root) ns
  pub once : IsDistinct name_eq ns

pub names_valid : (root : Root) (d : Data) (place : List ℕ) → IfOk (names_at root d place) (AreNames root)
names_valid root d place =
    at_last_holds (AreNames root) (or_fault G place (as_array d)) _
    (λ items. in_turn_holds (AllByRecursion (IsDocumentOf root)) (AreNames root) (each_at (name_at root) items 0 place) _
    (each_item (IsDocumentOf root) (name_at root) items 0 place (document_name_is root))
    (λ ns each. record { each = once_each (IsDocumentOf root) [] ns each; once = once_distinct [] ns }))

-- ---- the database

pub database_valid : (root : Root) (d : Data) (place : List ℕ) → IfOk (database_at root d place) (λ u. IsDatabase root)
database_valid root d place =
    let inside = member_place place (codes "database") in
    at_last_holds (λ u. IsDatabase root) (required_at (codes "database") d place) _
    (λ x. at_last_holds (λ u. IsDatabase root) (text_at x inside) _ (λ text. database_is root text inside))
