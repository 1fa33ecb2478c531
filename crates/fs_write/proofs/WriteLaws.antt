-- The laws of one write.
use Rattle.std.proofs.Common.{◌≡◌, ℕ, suc, zero, ◌<◌, ◌≤◌, arith, ℤ, Bool, true, false, cond, List, [], ◌∷◌, length, Option, Some, None, option_map, Result, Ok, Err, refl, sym, ap, ◌∙◌, subst}
use Rattle.std.specs.Prelude.{IsTrue, ◌≢◌, nat_lt, unwrap_or}
use Rattle.std.proofs.lemmas.Bool.{or_parts}
use Rattle.std.proofs.lemmas.Bool.Decides.{nat_tests}
use Rattle.std.specs.List.{Contains, list_any, starts_with}
use Rattle.fs_path.proofs.Elements.{has_first, has_later}
use Rattle.fs_path.specs.TextOrder.{text_eq}
use Rattle.fs_path.specs.declared.field.FieldPath.{FieldPath}
use Rattle.fs_path.specs.declared.name.DocName.{DocName}
use Rattle.fs_value.specs.Data.{Data, members_of, members_depth}
use Rattle.fs_value.specs.FieldPaths.{get_fields, set_fields, unset_fields, IsApart}
use Rattle.fs_value.specs.Limits.{deepest_value, largest_document}
use Rattle.fs_value.specs.Size.{document_size}
use Rattle.fs_value.specs.declared.document.Document.{Document}
use Rattle.fs_write.specs.OneWrite.{Fault, deep, large, merged, with_field, fields_left, document_left, counted_size, unfit, unless, overlong, written, carried_out, unmet, one_write}
use Rattle.fs_value.specs.Same.{same_fields}
use Rattle.fs_write.specs.Rules.{overlap, some_overlap}
use Rattle.fs_write.specs.Transforms.{transformed, transform_results}
use Rattle.fs_write.specs.WrittenName.{written_name}
use Rattle.fs_write.specs.declared.write.Act.TheVariants.{Set, Delete}
use Rattle.fs_write.specs.declared.write.Precondition.TheVariants as condition
use Rattle.fs_write.specs.declared.write.Write.{Write}
use Rattle.fs_write.specs.declared.write_result.WriteResult.{WriteResult}
use Rattle.fs_write.proofs.Fields.{left_same, left_other}
use Rattle.fs_value.proofs.Alike.{same_are, same_itself}

document_in : Result (Option Document × WriteResult) Fault → Option Document
document_in (Ok p) = p.0
document_in (Err fault) = None

answer_in : WriteResult → Result (Option Document × WriteResult) Fault → WriteResult
answer_in r (Ok p) = p.1
answer_in r (Err fault) = r

-- what is done had no fault in front
pub unless_done : {A : Type 0} (u : Option Fault) (rest : Result A Fault) (x : A) → unless u rest ≡ Ok x → rest ≡ Ok x
unless_done (Some fault) rest x is = absurd (cc)
unless_done None rest x is = is

-- how a document was left
pub record IsLeft (before : Option Document) (w : Write) (t : ℤ) (d : Document) (r : WriteResult) : Type 0 where
  pub fields : List (List ℕ × Data)
  pub left : fields_left w.act before ≡ Some fields
  pub is : d ≡ document_left before (written_name w) (transformed w.transforms t fields) t
  pub fits : unfit d ≡ None
  pub updated : r.updated ≡ Some d.updated

module _ (before : Option Document) (w : Write) (t : ℤ) (d : Document) (r : WriteResult) where
  left_here : (fields : List (List ℕ × Data)) (x : Document) (rs : List Data) (u : Option Fault) → fields_left w.act before ≡ Some fields → x ≡ document_left before (written_name w) (transformed w.transforms t fields) t
      → unfit x ≡ u → unless {A = Option Document × WriteResult} u (Ok (Some x, record { updated = Some x.updated; transforms = rs })) ≡ Ok (Some d, r) → IsLeft before w t d r
  unfolding document_in answer_in
  left_here fields x rs (Some fault) left made fits is = absurd (cc)
  left_here fields x rs None left made fits is =
      let same : x ≡ d = ap (λ o. unwrap_or o x) (ap document_in is) in
      record {
        fields = fields;
        left = left;
        is = sym same ∙ made;
        fits = ap unfit (sym same) ∙ fits;
        updated = ap (λ a. a.updated) (sym (ap (answer_in r) is)) ∙ ap (λ y. Some y.updated) same;
      }

  left_so : (u : Option Fault) (f : Option (List (List ℕ × Data))) → fields_left w.act before ≡ f → unless u (carried_out f before w t) ≡ Ok (Some d, r) → IsLeft before w t d r
  unfolding document_in
  left_so (Some fault) f left is = absurd (cc)
  left_so None None left is = let none : None ≡ Some d = ap document_in is in absurd (cc)
  left_so None (Some fields) left is =
      let x = document_left before (written_name w) (transformed w.transforms t fields) t in
      let rs = transform_results w.transforms t fields in
      left_here fields x rs (unfit x) left refl refl (unless_done (overlong w.transforms) (written x rs) (Some d, r) is)

  pub left_by : one_write before w t ≡ Ok (Some d, r) → IsLeft before w t d r
  left_by is = left_so (unmet w.condition before) (fields_left w.act before) refl is

-- ---- fields

fields_of_left : (before : Option Document) (name : DocName) (fields : List (List ℕ × Data)) (t : ℤ) (b : Bool) → ((d : Document) → before ≡ Some d → same_fields d.fields fields ≡ b) → (document_left before name fields t).fields ≡ fields
fields_of_left None name fields t b same = refl
fields_of_left (Some d) name fields t true same = ap (λ x. x.fields) (left_same d name fields t (same d refl)) ∙ same_are d.fields fields (same d refl)
fields_of_left (Some d) name fields t false same = ap (λ x. x.fields) (left_other d name fields t (same d refl))

tested : Option Document → List (List ℕ × Data) → Bool
tested None fields = true
tested (Some d) fields = same_fields d.fields fields

tested_is : (before : Option Document) (fields : List (List ℕ × Data)) (d : Document) → before ≡ Some d → same_fields d.fields fields ≡ tested before fields
unfolding tested
tested_is before fields d is = ap (λ o. tested o fields) (sym is)

pub law_fields : (before : Option Document) (w : Write) (t : ℤ) (d : Document) (r : WriteResult) → one_write before w t ≡ Ok (Some d, r) → Some d.fields ≡ option_map (transformed w.transforms t) (fields_left w.act before)
law_fields before w t d r is =
    let l = left_by before w t d r is in
    let fields = transformed w.transforms t l.fields in
    ap (λ x. Some x.fields) l.is
    ∙ ap Some (fields_of_left before (written_name w) fields t (tested before fields) (tested_is before fields))
    ∙ ap (option_map (transformed w.transforms t)) (sym l.left)

pub law_set : (before : Option Document) (w : Write) (t : ℤ) (d : Document) (r : WriteResult) (name : DocName) (fs : List (List ℕ × Data))
    → one_write before w t ≡ Ok (Some d, r) → w.act ≡ Set name fs → w.transforms ≡ [] → d.fields ≡ fs
law_set before w t d r name fs is act none =
    ap (λ o. unwrap_or o fs)
    (law_fields before w t d r is
    ∙ ap (λ ts. option_map (transformed ts t) (fields_left w.act before)) none
    ∙ ap (λ a. option_map (transformed [] t) (fields_left a before)) act)

-- ---- times

module _ (before : Document) (name : DocName) (fields : List (List ℕ × Data)) (t : ℤ) where
  same_left : (b : Bool) → same_fields before.fields fields ≡ b → (document_left (Some before) name fields t).fields ≡ before.fields → document_left (Some before) name fields t ≡ before
  same_left true same is = left_same before name fields t same
  same_left false same is =
      let there : fields ≡ before.fields = ap (λ x. x.fields) (sym (left_other before name fields t same)) ∙ is in
      let itself : same_fields before.fields fields ≡ true = ap (same_fields before.fields) there ∙ same_itself before.fields in
      absurd (cc)

  other_left : (b : Bool) → same_fields before.fields fields ≡ b → (document_left (Some before) name fields t).fields ≢ before.fields → (document_left (Some before) name fields t).updated ≡ t
  other_left true same differs = absurd (differs (ap (λ x. x.fields) (left_same before name fields t same)))
  other_left false same differs = ap (λ x. x.updated) (left_other before name fields t same)

  created_left : (b : Bool) → same_fields before.fields fields ≡ b → (document_left (Some before) name fields t).created ≡ before.created
  created_left true same = ap (λ x. x.created) (left_same before name fields t same)
  created_left false same = ap (λ x. x.created) (left_other before name fields t same)

module _ (before : Document) (w : Write) (t : ℤ) (d : Document) (r : WriteResult) (is : one_write (Some before) w t ≡ Ok (Some d, r)) where
  pub law_same : d.fields ≡ before.fields → (d ≡ before) × (r.updated ≡ Some before.updated)
  law_same same =
      let l = left_by (Some before) w t d r is in
      let fields = transformed w.transforms t l.fields in
      let there : d ≡ before = l.is ∙ same_left before (written_name w) fields t (same_fields before.fields fields) refl (ap (λ x. x.fields) (sym l.is) ∙ same) in
      (there, l.updated ∙ ap (λ x. Some x.updated) there)

  pub law_other : d.fields ≢ before.fields → (d.updated ≡ t) × (r.updated ≡ Some t)
  law_other differs =
      let l = left_by (Some before) w t d r is in
      let fields = transformed w.transforms t l.fields in
      let now : d.updated ≡ t = ap (λ x. x.updated) l.is ∙ other_left before (written_name w) fields t (same_fields before.fields fields) refl (λ same. differs (ap (λ x. x.fields) l.is ∙ same)) in
      (now, l.updated ∙ ap Some now)

  pub law_created : d.created ≡ before.created
  law_created =
      let l = left_by (Some before) w t d r is in
      let fields = transformed w.transforms t l.fields in
      ap (λ x. x.created) l.is ∙ created_left before (written_name w) fields t (same_fields before.fields fields) refl

pub law_made : (w : Write) (t : ℤ) (d : Document) (r : WriteResult) → one_write None w t ≡ Ok (Some d, r) → (d.created ≡ t) × (d.updated ≡ t) × (r.updated ≡ Some t)
law_made w t d r is =
    let l = left_by None w t d r is in
    let now : d.updated ≡ t = ap (λ x. x.updated) l.is in
    (ap (λ x. x.created) l.is, now, l.updated ∙ ap Some now)

-- ---- what is left fits

not_below : (a b : ℕ) → nat_lt a b ≡ false → b ≤ a
not_below a b h = grind (arith, nat_tests)

fit_by : (d : Document) (a b : Bool) → nat_lt deepest_value (members_depth (members_of d.fields)) ≡ a → nat_lt largest_document (document_size d) ≡ b
    → cond a (Some deep) (cond b (Some (large (counted_size d))) None) ≡ None → (a ≡ false) × (b ≡ false)
fit_by d true b deep_is large_is none = absurd (cc)
fit_by d false true deep_is large_is none = absurd (cc)
fit_by d false false deep_is large_is none = (refl, refl)

pub law_fit : (before : Option Document) (w : Write) (t : ℤ) (d : Document) (r : WriteResult) → one_write before w t ≡ Ok (Some d, r) → (members_depth (members_of d.fields) ≤ deepest_value) × (document_size d ≤ largest_document)
law_fit before w t d r is =
    let l = left_by before w t d r is in
    let both = fit_by d (nat_lt deepest_value (members_depth (members_of d.fields))) (nat_lt largest_document (document_size d)) refl refl l.fits in
    (not_below deepest_value (members_depth (members_of d.fields)) both.0, not_below largest_document (document_size d) both.1)

-- ---- deletes

none_by : (u : Option Fault) (before after : Option Document) (w : Write) (t : ℤ) (r : WriteResult) → unless u (carried_out None before w t) ≡ Ok (after, r) → (after ≡ None) × (r.updated ≡ None)
unfolding document_in answer_in
none_by (Some fault) before after w t r is = absurd (cc)
none_by None before after w t r is = (sym (ap document_in is), ap (λ a. a.updated) (sym (ap (answer_in r) is)))

pub law_deleted : (before after : Option Document) (w : Write) (t : ℤ) (r : WriteResult) (name : DocName) → one_write before w t ≡ Ok (after, r) → w.act ≡ Delete name → (after ≡ None) × (r.updated ≡ None)
law_deleted before after w t r name is act =
    none_by (unmet w.condition before) before after w t r (ap (λ a. unless (unmet w.condition before) (carried_out (fields_left a before) before w t)) (sym act) ∙ is)

pub law_delete_done : (before : Option Document) (w : Write) (t : ℤ) (name : DocName) → w.act ≡ Delete name → w.condition ≡ condition.None → one_write before w t ≡ Ok (None, record { updated = None; transforms = [] })
law_delete_done before w t name act always =
    ap (λ a. unless (unmet w.condition before) (carried_out (fields_left a before) before w t)) act
    ∙ ap (λ k. unless (unmet k before) (carried_out None before w t)) always

-- ---- masks, from the laws of paths

not_true : (b : Bool) → b ≡ false → ¬ IsTrue b
not_true b is h = absurd (cc)

apart_by : (p q : FieldPath) → overlap p q ≡ false → IsApart p.parts q.parts
apart_by p q h =
    let both = or_parts (starts_with text_eq p.parts q.parts) (starts_with text_eq q.parts p.parts) h in
    (not_true _ both.0, not_true _ both.1)

apart_from : (p : FieldPath) (ps : List FieldPath) → list_any (overlap p) ps ≡ false → (q : FieldPath) → Contains ps q → IsApart p.parts q.parts
apart_from p [] h q at = absurd (omega (arith, at.1))
apart_from p (x ∷ ps) h q (zero, within, is) = subst (λ y. IsApart p.parts y.parts) is (apart_by p x (or_parts (overlap p x) (list_any (overlap p) ps) h).0)
apart_from p (x ∷ ps) h q (suc k, within, is) = apart_from p ps (or_parts (overlap p x) (list_any (overlap p) ps) h).1 q (k, omega arith, is)

turned_apart : (p q : List (List ℕ)) → IsApart p q → IsApart q p
turned_apart p q h = (h.1, h.0)

module _ (set_there : (p : List (List ℕ)) (v : Data) (fs : List (List ℕ × Data)) → 0 < length p → get_fields p (set_fields p v fs) ≡ Some v)
    (unset_gone : (p : List (List ℕ)) (fs : List (List ℕ × Data)) → get_fields p (unset_fields p fs) ≡ None)
    (set_apart : (p q : List (List ℕ)) (v : Data) (fs : List (List ℕ × Data)) → IsApart p q → get_fields q (set_fields p v fs) ≡ get_fields q fs)
    (unset_apart : (p q : List (List ℕ)) (fs : List (List ℕ × Data)) → IsApart p q → get_fields q (unset_fields p fs) ≡ get_fields q fs) where
  field_there : (p : FieldPath) (o : Option Data) (fs : List (List ℕ × Data)) → get_fields p.parts (with_field p.parts o fs) ≡ o
  field_there p None fs = unset_gone p.parts fs
  field_there p (Some v) fs = set_there p.parts v fs p.some

  field_apart : (p q : List (List ℕ)) (o : Option Data) (fs : List (List ℕ × Data)) → IsApart p q → get_fields q (with_field p o fs) ≡ get_fields q fs
  field_apart p q None fs apart = unset_apart p q fs apart
  field_apart p q (Some v) fs apart = set_apart p q v fs apart

  pub law_unmasked : (mask : List FieldPath) (input fs : List (List ℕ × Data)) (q : List (List ℕ)) → ((p : FieldPath) → Contains mask p → IsApart p.parts q) → get_fields q (merged mask input fs) ≡ get_fields q fs
  law_unmasked [] input fs q apart = refl
  law_unmasked (p ∷ ps) input fs q apart =
      law_unmasked ps input (with_field p.parts (get_fields p.parts input) fs) q (λ x at. apart x (has_later p ps x at))
      ∙ field_apart p.parts q (get_fields p.parts input) fs (apart p (has_first p ps))

  pub law_masked : (mask : List FieldPath) (input fs : List (List ℕ × Data)) (p : FieldPath) → some_overlap mask ≡ false → Contains mask p → get_fields p.parts (merged mask input fs) ≡ get_fields p.parts input
  law_masked [] input fs p alone at = absurd (omega (arith, at.1))
  law_masked (x ∷ ps) input fs p alone (zero, within, is) =
      let left = with_field x.parts (get_fields x.parts input) fs in
      let apart = apart_from x ps (or_parts (list_any (overlap x) ps) (some_overlap ps) alone).0 in
      subst (λ y. get_fields y.parts (merged ps input left) ≡ get_fields y.parts input) is
      (law_unmasked ps input left x.parts (λ q at. turned_apart x.parts q.parts (apart q at)) ∙ field_there x (get_fields x.parts input) fs)
  law_masked (x ∷ ps) input fs p alone (suc k, within, is) =
      law_masked ps input (with_field x.parts (get_fields x.parts input) fs) p (or_parts (list_any (overlap x) ps) (some_overlap ps) alone).1 (k, omega arith, is)
