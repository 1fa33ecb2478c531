-- What holds of the names of documents and of what has collections.
use Rattle.std.proofs.Common.{Err, ◌≡◌, ◌↔◌, ℕ, ◌<◌, ◌≤◌, ◌%◌, Bool, false, not, ◌||◌, eqb, Ok, List, [], ◌∷◌, length, refl, ap, sym, ◌∙◌, subst, arith}
use Rattle.std.proofs.lemmas.Bool.{or_parts, and_parts, eqb-true, ltb-false, not-false}
use Rattle.std.proofs.lemmas.Bool.Decides.{nat_tests}
use Rattle.std.specs.List.{AllByRecursion, list_any}
use Rattle.fs_path.specs.declared.name.Root.{Root}
use Rattle.fs_path.specs.declared.name.DocName.{DocName}
use Rattle.fs_path.specs.declared.error.PathError.{PathError}
use Rattle.fs_path.specs.declared.error.PathError.TheVariants.{BadPrefix, WrongDatabase}
use Rattle.fs_path.specs.TextOrder.{text_is}
use Rattle.fs_path.specs.Limits.{max_id, max_name, max_segments}
use Rattle.fs_path.specs.Segment.{has_slash, is_empty, is_reserved, is_dots, is_long, IsId}
use Rattle.fs_path.specs.Findings.{findings, id_refusals, document_refusals, parent_refusals, is_even}
use Rattle.fs_path.specs.Spelling.{document_text, is_of, IsLabel, IsSpelled}
use Rattle.fs_path.specs.Document.{IsDocument, IsDocumentOf, IsParentOf, under, document_of, reference_of, parent_of}
use Rattle.fs_path.proofs.Accepted.{IsGood, some_long, none_refused, none_from, whole_ids, is_root}
use Rattle.fs_path.proofs.Spellings.{Reads, of_documents, judged_found, judged_only, judged_prefix}

-- ---- ids that no test refuses

pub ids_from : (ids : List (List ℕ)) → AllByRecursion (λ id. has_slash id ≡ false) ids → list_any is_empty ids ≡ false → list_any is_reserved ids ≡ false → list_any is_dots ids ≡ false → list_any is_long ids ≡ false → AllByRecursion IsId ids
ids_from [] whole e r d l = tt
ids_from (id ∷ ids) whole e r d l =
    let empty = or_parts (is_empty id) (list_any is_empty ids) e in
    let reserved = or_parts (is_reserved id) (list_any is_reserved ids) r in
    let dots = or_parts (is_dots id) (list_any is_dots ids) d in
    let long = or_parts (is_long id) (list_any is_long ids) l in (
      record { some = empty.0; whole = whole.0; free = reserved.0; no_dots = dots.0; short = ltb-false max_id (length id) long.0 },
      ids_from ids whole.1 empty.1 reserved.1 dots.1 long.1,
    )

-- an even number, at least two
even_some : (n : ℕ) → (not (is_even n) || eqb n 0) ≡ false → (n % 2 ≡ 0) × (0 < n)
even_some n h =
    let parts = or_parts (not (is_even n)) (eqb n 0) h in
    (eqb-true (n % 2) 0 (not-false (is_even n) parts.0), grind (arith, nat_tests, parts.1))

good_from : (ids : List (List ℕ)) (bytes : ℕ) → AllByRecursion (λ id. has_slash id ≡ false) ids → AllByRecursion (λ t. t.0 ≡ false) (id_refusals (findings ids) bytes) → IsGood ids bytes
good_from ids bytes whole none =
    record {
      each = ids_from ids whole none.0 none.1.0 none.1.1.0 (sym (some_long ids) ∙ none.1.1.1.0);
      deep = ltb-false max_segments (length ids) none.1.1.1.1.1.0;
      long = ltb-false max_name bytes none.1.1.1.1.0;
    }

-- ---- what is accepted is a document's name, and each such name is accepted

document_from : (text : List ℕ) (n : DocName) → Reads of_documents text n → AllByRecursion (λ t. t.0 ≡ false) (document_refusals (findings n.ids) (length text)) → IsDocument n
document_from text n r none =
    let parity = even_some (length n.ids) none.0 in
    let good = good_from n.ids (length text) r.below.1 none.1 in
    record {
      project = r.project;
      database = r.database;
      ids = good.each;
      some = parity.1;
      even = parity.0;
      deep = good.deep;
      long = subst (λ t. length t ≤ max_name) r.text_is good.long;
    }

reads_of : (text : List ℕ) (n : DocName) → IsSpelled n → text ≡ document_text n → Reads of_documents text n
reads_of text n s e = record { text_is = e; project = s.project; database = s.database; below = (refl, s.ids); ids = refl }

pub reference_found : (text : List ℕ) (n : DocName) → reference_of text ≡ Ok n → IsDocument n × (text ≡ document_text n)
reference_found text n h =
    let f = judged_found of_documents (λ n. document_refusals (findings n.ids) (length text)) (λ n. n) text n h in
    subst (λ k. IsDocument k × (text ≡ document_text k)) f.taken (document_from text f.name f.reads f.none, f.reads.text_is)

spelled_from : (n : DocName) → IsDocument n → IsSpelled n
spelled_from n d = record { project = d.project; database = d.database; ids = whole_ids n.ids d.ids }

pub reference_only : (text : List ℕ) (n : DocName) → IsDocument n → text ≡ document_text n → reference_of text ≡ Ok n
reference_only text n d e =
    judged_only of_documents (λ m. document_refusals (findings m.ids) (length text)) (λ m. m) text n (reads_of text n (spelled_from n d) e) (none_from text n d e)

-- what is asked of a name in the root's database
abbrev document_tests : Root → List ℕ → DocName → List (Bool × PathError)
document_tests root text n = (not (is_of root n), WrongDatabase) ∷ document_refusals (findings n.ids) (length text)

abbrev parent_tests : Root → List ℕ → DocName → List (Bool × PathError)
parent_tests root text n = (not (is_of root n), WrongDatabase) ∷ parent_refusals (findings n.ids) (length text)

pub of_root : (root : Root) (n : DocName) → not (is_of root n) ≡ false → (n.project ≡ root.project) × (n.database ≡ root.database)
of_root root n h = let same = and_parts _ _ (not-false (is_of root n) h) in (text_is _ _ same.0, text_is _ _ same.1)

pub document_found : (root : Root) (text : List ℕ) (n : DocName) → document_of root text ≡ Ok n → IsDocumentOf root n × (text ≡ document_text n)
document_found root text n h =
    let f = judged_found of_documents (document_tests root text) (λ n. n) text n h in
    let own = of_root root f.name f.none.0 in
    subst (λ k. IsDocumentOf root k × (text ≡ document_text k)) f.taken
    (record { document = document_from text f.name f.reads f.none.1; project = own.0; database = own.1 }, f.reads.text_is)

pub document_only : (root : Root) (text : List ℕ) (n : DocName) → IsDocumentOf root n → text ≡ document_text n → document_of root text ≡ Ok n
document_only root text n d e =
    judged_only of_documents (document_tests root text) (λ m. m) text n (reads_of text n (spelled_from n d.document) e) (is_root root n d.project d.database, none_from text n d.document e)

parent_from : (root : Root) (text : List ℕ) (n : DocName) → Reads of_documents text n → AllByRecursion (λ t. t.0 ≡ false) (parent_tests root text n) → IsParentOf root n.ids × (text ≡ document_text (under root n.ids))
parent_from root text n r none =
    let own = of_root root n none.0 in
    let good = good_from n.ids (length text) r.below.1 none.1.1 in
    let text_is : text ≡ document_text (under root n.ids) = r.text_is ∙ ap document_text (λ i. record { project = own.0 i; database = own.1 i; ids = n.ids }) in (
      record {
        project = subst IsLabel own.0 r.project;
        database = subst IsLabel own.1 r.database;
        ids = good.each;
        even = eqb-true (length n.ids % 2) 0 (not-false (is_even (length n.ids)) none.1.0);
        deep = good.deep;
        long = subst (λ t. length t ≤ max_name) text_is good.long;
      },
      text_is,
    )

pub parent_found : (root : Root) (text : List ℕ) (ids : List (List ℕ)) → parent_of root text ≡ Ok ids → IsParentOf root ids × (text ≡ document_text (under root ids))
parent_found root text ids h =
    let f = judged_found of_documents (parent_tests root text) (λ n. n.ids) text ids h in
    subst (λ k. IsParentOf root k × (text ≡ document_text (under root k))) f.taken (parent_from root text f.name f.reads f.none)

pub parent_only : (root : Root) (text : List ℕ) (ids : List (List ℕ)) → IsParentOf root ids → text ≡ document_text (under root ids) → parent_of root text ≡ Ok ids
parent_only root text ids p e =
    let n = under root ids in
    let good : IsGood ids (length text) = record { each = p.ids; deep = p.deep; long = subst (λ t. length t ≤ max_name) (sym e) p.long } in
    let spelled : IsSpelled n = record { project = p.project; database = p.database; ids = whole_ids ids p.ids } in
    judged_only of_documents (parent_tests root text) (λ n. n.ids) text n (reads_of text n spelled e) (is_root root n refl refl, (rw p.even refl, none_refused ids (length text) good))

-- ---- the refusal of a text that is no name at all

-- ids are refused for other reasons
other_ids : (ids : List (List ℕ)) (bytes : ℕ) → AllByRecursion (λ t. t.1 ≡ BadPrefix → ⊥) (id_refusals (findings ids) bytes)
other_ids ids bytes = ((λ p. cc), ((λ p. cc), ((λ p. cc), ((λ p. cc), ((λ p. cc), ((λ p. cc), tt))))))

no_reads : (text : List ℕ) → ((n : DocName) → Reads of_documents text n → ⊥) ↔ ((n : DocName) → IsSpelled n → text ≡ document_text n → ⊥)
no_reads text = (
  λ never n s e. never n (reads_of text n s e),
  λ never n r. never n (record { project = r.project; database = r.database; ids = r.below.1 }) r.text_is,
)

-- it is told exactly where the text is that of no name, whatever its ids are
pub bad_reference : (text : List ℕ) → (reference_of text ≡ Err BadPrefix) ↔ ((n : DocName) → IsSpelled n → text ≡ document_text n → ⊥)
bad_reference text =
    let p = judged_prefix of_documents (λ n. document_refusals (findings n.ids) (length text)) (λ n. n) text (λ n. ((λ p. cc), other_ids n.ids (length text))) in
    (λ h. (no_reads text).0 (p.0 h), λ h. p.1 ((no_reads text).1 h))

pub bad_document : (root : Root) (text : List ℕ) → (document_of root text ≡ Err BadPrefix) ↔ ((n : DocName) → IsSpelled n → text ≡ document_text n → ⊥)
bad_document root text =
    let p = judged_prefix of_documents (document_tests root text) (λ n. n) text (λ n. ((λ p. cc), ((λ p. cc), other_ids n.ids (length text)))) in
    (λ h. (no_reads text).0 (p.0 h), λ h. p.1 ((no_reads text).1 h))

pub bad_parent : (root : Root) (text : List ℕ) → (parent_of root text ≡ Err BadPrefix) ↔ ((n : DocName) → IsSpelled n → text ≡ document_text n → ⊥)
bad_parent root text =
    let p = judged_prefix of_documents (parent_tests root text) (λ n. n.ids) text (λ n. ((λ p. cc), ((λ p. cc), other_ids n.ids (length text)))) in
    (λ h. (no_reads text).0 (p.0 h), λ h. p.1 ((no_reads text).1 h))
