-- Fields and documents that are the same.
use Rattle.std.proofs.Common.{◌≡◌, ℕ, ℤ, Bool, true, List, sym, ap, ◌∙◌}
use Rattle.std.specs.Prelude.{IsTrue, ◌↔◌, ◌&&◌}
use Rattle.std.specs.Cmp.{Equal-is, first_so, second_so}
use Rattle.std.specs.Ordering.{is_eq, int_cmp}
use Rattle.std.proofs.lemmas.Bool.{and_from}
use Rattle.std.proofs.lemmas.Bool.Decides.{same_from_decides}
use Rattle.std.proofs.lemmas.Cmp.{tied_itself, int_cmp_total}
use Rattle.std.specs.FinMap.{int_cmp-IsAntisymmetric}
use Rattle.fs_path.specs.NameOrder.{name_eq, name_is, name_itself}
use Rattle.fs_value.specs.Data.{Data, object, members_of, fields_of}
use Rattle.fs_value.specs.DataLaws.{fields_of-members_of}
use Rattle.fs_value.specs.Same.{same_document, same_fields}
use Rattle.fs_value.specs.ValueOrderLaws.{members_same, value_cmp_total}
use Rattle.fs_value.specs.declared.document.Document.{Document}

pub same_are : (a b : List (List ℕ × Data)) → same_fields a b ≡ true → a ≡ b
same_are a b t = sym (fields_of-members_of a) ∙ ap fields_of (members_same _ _ ((Equal-is _).0 t)) ∙ fields_of-members_of b

pub same_itself : (a : List (List ℕ × Data)) → same_fields a a ≡ true
same_itself a = (Equal-is _).1 (tied_itself value_cmp_total (object (members_of a)))

-- whether fields are the same is told by a test that is true exactly there
pub same_tested : (a b : List (List ℕ × Data)) (r : Bool) → (IsTrue r ↔ (a ≡ b)) → r ≡ same_fields a b
same_tested a b r h = same_from_decides r _ h (same_are a b, λ e. ap (same_fields a) (sym e) ∙ same_itself a)

-- ---- documents

pub document_is : (a b : Document) → a.name ≡ b.name → a.fields ≡ b.fields → a.created ≡ b.created → a.updated ≡ b.updated → a ≡ b
document_is a b n f c u = λ i. record { name = n i; fields = f i; created = c i; updated = u i }

times_are : (a b : ℤ) → is_eq (int_cmp a b) ≡ true → a ≡ b
times_are a b t = int_cmp-IsAntisymmetric a b ((Equal-is _).0 t)

times_themselves : (a : ℤ) → is_eq (int_cmp a a) ≡ true
times_themselves a = (Equal-is _).1 (tied_itself int_cmp_total a)

pub documents_are : (a b : Document) → same_document a b ≡ true → a ≡ b
documents_are a b t =
    let rest = second_so (name_eq a.name b.name) (same_fields a.fields b.fields && (is_eq (int_cmp a.created b.created) && is_eq (int_cmp a.updated b.updated))) t in
    let times = second_so (same_fields a.fields b.fields) (is_eq (int_cmp a.created b.created) && is_eq (int_cmp a.updated b.updated)) rest in
    document_is a b
    (name_is a.name b.name (first_so (name_eq a.name b.name) _ t))
    (same_are a.fields b.fields (first_so (same_fields a.fields b.fields) _ rest))
    (times_are a.created b.created (first_so (is_eq (int_cmp a.created b.created)) _ times))
    (times_are a.updated b.updated (second_so (is_eq (int_cmp a.created b.created)) _ times))

pub document_itself : (a : Document) → same_document a a ≡ true
document_itself a =
    and_from (name_eq a.name a.name) _ (name_itself a.name)
    (and_from (same_fields a.fields a.fields) _ (same_itself a.fields)
    (and_from (is_eq (int_cmp a.created a.created)) _ (times_themselves a.created) (times_themselves a.updated)))

-- the test says that documents are the same exactly where they are
pub document_told : (a b : Document) (r : Bool) → r ≡ same_document a b → IsTrue r ↔ (a ≡ b)
document_told a b r is = (
  λ t. documents_are a b (sym is ∙ t),
  λ e. is ∙ ap (same_document a) (sym e) ∙ document_itself a,
)
