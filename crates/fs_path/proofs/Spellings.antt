-- What a text spells, and what is judged of it, whatever stands behind its database.
use Rattle.std.proofs.Common.{Err, ◌≡◌, ◌↔◌, ℕ, Bool, true, false, cond, Option, Some, None, Ok, List, [], ◌∷◌, ◌++◌, codes, refl, ap, sym, ◌∙◌, subst}
use Rattle.std.proofs.lemmas.Bool.{and_parts, not-true}
use Rattle.std.proofs.lemmas.Option.{cond_some}
use Rattle.std.proofs.lemmas.List.Splits.{join_with_byte-slice_split}
use Rattle.std.specs.List.{AllByRecursion, join_with_byte, flat_map}
use Rattle.std.specs.Option.{option_map}
use Rattle.fs_path.specs.declared.name.DocName.{DocName}
use Rattle.fs_path.specs.declared.error.PathError.{PathError}
use Rattle.fs_path.specs.declared.error.PathError.TheVariants.{BadPrefix}
use Rattle.fs_path.specs.TextOrder.{text_eq, text_is}
use Rattle.fs_path.specs.Segment.{segments, has_slash, is_empty}
use Rattle.fs_path.specs.Spelling.{slashed, spelled, if_spelled, judged, documents, nothing, IsLabel}
use Rattle.fs_path.proofs.Refusals.{accepts, accepted, never_refused}
use Rattle.fs_path.proofs.Segments.{segments_all, whole_parts, join_slashed}

-- ---- a form of names: what is read below the database, and how it is written

pub record Form : Type 0 where
  pub below : List (List ℕ) → Option (List (List ℕ))
  pub above : List (List ℕ) → List (List ℕ)
  pub is_above : (parts ids : List (List ℕ)) → below parts ≡ Some ids → parts ≡ above ids

pub documents_above : (parts ids : List (List ℕ)) → documents parts ≡ Some ids → parts ≡ codes "documents" ∷ ids
documents_above [] ids h = cc
documents_above (first ∷ rest) ids h =
    let x = cond_some (text_eq first (codes "documents")) rest ids h in
    let is = text_is first (codes "documents") x.0 in
    λ i. is i ∷ x.1 i

pub nothing_above : (parts ids : List (List ℕ)) → nothing parts ≡ Some ids → parts ≡ ids
nothing_above [] ids h = cc
nothing_above (first ∷ rest) ids h = cc

abbrev pub of_documents : Form
of_documents = record { below = documents; above = λ ids. codes "documents" ∷ ids; is_above = documents_above }

abbrev pub of_database : Form
of_database = record { below = nothing; above = λ ids. ids; is_above = nothing_above }

-- ---- a name's text and its parts

abbrev pub text_of : Form → DocName → List ℕ
text_of f n = codes "projects/" ++ (n.project ++ (codes "/databases/" ++ (n.database ++ flat_map slashed (f.above n.ids))))

abbrev name_parts : Form → DocName → List (List ℕ)
name_parts f n = codes "projects" ∷ n.project ∷ codes "databases" ∷ n.database ∷ f.above n.ids

-- the name that a text spells is the name of that text
pub record Reads (f : Form) (text : List ℕ) (n : DocName) : Type 0 where
  pub text_is : text ≡ text_of f n
  pub project : IsLabel n.project
  pub database : IsLabel n.database
  pub below : AllByRecursion (λ id. has_slash id ≡ false) (f.above n.ids)
  pub ids : f.below (f.above n.ids) ≡ Some n.ids

record Spells (f : Form) (parts : List (List ℕ)) (n : DocName) : Type 0 where
  same : parts ≡ name_parts f n
  project : is_empty n.project ≡ false
  database : is_empty n.database ≡ false
  ids : f.below (f.above n.ids) ≡ Some n.ids

cond_from : {A : Type 0} (b : Bool) (o : Option A) (a : A) → cond b o None ≡ Some a → (b ≡ true) × (o ≡ Some a)
cond_from true o a h = (refl, h)
cond_from false o a h = cc

spells_at : (f : Form) (a p b d : List ℕ) (rest : List (List ℕ)) (n : DocName) (o : Option (List (List ℕ))) → f.below rest ≡ o → text_eq a (codes "projects") ≡ true → text_eq b (codes "databases") ≡ true → is_empty p ≡ false → is_empty d ≡ false
    → option_map (λ ids. record { project = p; database = d; ids = ids }) o ≡ Some n → Spells f (a ∷ p ∷ b ∷ d ∷ rest) n
spells_at f a p b d rest n None e ha hb hp hd h = cc
spells_at f a p b d rest n (Some ids) e ha hb hp hd h =
    let is : record { project = p; database = d; ids = ids } ≡ n = cc in
    let projects = text_is a (codes "projects") ha in
    let databases = text_is b (codes "databases") hb in
    let above = f.is_above rest ids e in
    let P : DocName → Type 0 = λ m. Spells f (a ∷ p ∷ b ∷ d ∷ rest) m in
    subst P is (record { same = λ i. projects i ∷ p ∷ databases i ∷ d ∷ above i; project = hp; database = hd; ids = ap f.below (sym above) ∙ e })

spells : (f : Form) (parts : List (List ℕ)) (n : DocName) → spelled f.below parts ≡ Some n → Spells f parts n
spells f [] n h = cc
spells f (a ∷ []) n h = cc
spells f (a ∷ p ∷ []) n h = cc
spells f (a ∷ p ∷ b ∷ []) n h = cc
spells f (a ∷ p ∷ b ∷ d ∷ rest) n h =
    let x = cond_from _ (option_map (λ ids. record { project = p; database = d; ids = ids }) (f.below rest)) n h in
    let e3 = and_parts _ _ x.0 in
    let e2 = and_parts _ _ e3.0 in
    let e1 = and_parts _ _ e2.0 in
    spells_at f a p b d rest n (f.below rest) refl e1.0 e1.1 (not-true _ e2.1) (not-true _ e3.1) x.1

pub reads : (f : Form) (text : List ℕ) (n : DocName) → spelled f.below (segments text) ≡ Some n → Reads f text n
reads f text n h =
    let s = spells f (segments text) n h in
    let whole = subst (λ parts. AllByRecursion (λ id. has_slash id ≡ false) parts) s.same (whole_parts text) in
    record {
      text_is = sym (join_with_byte-slice_split 47 text) ∙ (ap (join_with_byte 47) s.same ∙ join_slashed (codes "projects") (n.project ∷ codes "databases" ∷ n.database ∷ f.above n.ids));
      project = record { some = s.project; whole = whole.1.0 };
      database = record { some = s.database; whole = whole.1.1.1.0 };
      below = whole.1.1.1.1;
      ids = s.ids;
    }

-- a text with more behind its database is no database's name
anything_above : (parts ids : List (List ℕ)) → Some parts ≡ Some ids → parts ≡ ids
anything_above parts ids h = cc

abbrev of_anything : Form
of_anything = record { below = Some; above = λ ids. ids; is_above = anything_above }

pub not_nothing : (parts : List (List ℕ)) (n : DocName) (first : List ℕ) (rest : List (List ℕ)) → spelled Some parts ≡ Some n → n.ids ≡ first ∷ rest → spelled nothing parts ≡ None
not_nothing parts n first rest h e =
    let s = spells of_anything parts n h in
    ap (spelled nothing) (s.same ∙ ap (λ ids. codes "projects" ∷ n.project ∷ codes "databases" ∷ n.database ∷ ids) e) ∙ rw (s.project, s.database) refl

-- a text that is a name's is read as that name
pub again : (f : Form) (text : List ℕ) (n : DocName) → Reads f text n → spelled f.below (segments text) ≡ Some n
again f text n r =
    let parts = segments_all (codes "projects") (n.project ∷ codes "databases" ∷ n.database ∷ f.above n.ids) refl (r.project.whole, (refl, (r.database.whole, r.below))) in
    ap (λ t. spelled f.below (segments t)) r.text_is ∙ (ap (spelled f.below) parts ∙ rw (r.project.some, r.database.some, r.ids) refl)

-- ---- the judgement: what is accepted, and when the first refusal is told

pub record Found (f : Form) {A : Type 0} (tests : DocName → List (Bool × PathError)) (take : DocName → A) (text : List ℕ) (x : A) : Type 0 where
  pub name : DocName
  pub reads : Reads f text name
  pub none : AllByRecursion (λ t. t.0 ≡ false) (tests name)
  pub taken : take name ≡ x

found_at : (f : Form) {A : Type 0} (tests : DocName → List (Bool × PathError)) (take : DocName → A) (text : List ℕ) (x : A) (o : Option DocName) → spelled f.below (segments text) ≡ o → if_spelled tests take o ≡ Ok x → Found f tests take text x
found_at f tests take text x None e h = cc
found_at f tests take text x (Some n) e h = let a = accepted (take n) x (tests n) h in record { name = n; reads = reads f text n e; none = a.1; taken = a.0 }

pub judged_found : (f : Form) {A : Type 0} (tests : DocName → List (Bool × PathError)) (take : DocName → A) (text : List ℕ) (x : A) → judged f.below tests take text ≡ Ok x → Found f tests take text x
judged_found f tests take text x h = found_at f tests take text x (spelled f.below (segments text)) refl h

pub judged_only : (f : Form) {A : Type 0} (tests : DocName → List (Bool × PathError)) (take : DocName → A) (text : List ℕ) (n : DocName) → Reads f text n → AllByRecursion (λ t. t.0 ≡ false) (tests n) → judged f.below tests take text ≡ Ok (take n)
judged_only f tests take text n r none = ap (if_spelled tests take) (again f text n r) ∙ accepts (take n) (tests n) none

unspelled : {A : Type 0} (tests : DocName → List (Bool × PathError)) (take : DocName → A) (o : Option DocName) → ((n : DocName) → AllByRecursion (λ t. t.1 ≡ BadPrefix → ⊥) (tests n)) → if_spelled tests take o ≡ Err BadPrefix → o ≡ None
unspelled tests take None other h = refl
unspelled tests take (Some n) other h = absurd (never_refused (take n) BadPrefix (tests n) (other n) h)

spelled_none : (f : Form) (text : List ℕ) (o : Option DocName) → spelled f.below (segments text) ≡ o → ((n : DocName) → Reads f text n → ⊥) → spelled f.below (segments text) ≡ None
spelled_none f text None h never = h
spelled_none f text (Some n) h never = absurd (never n (reads f text n h))

both_ways : (f : Form) (text : List ℕ) (n : DocName) → spelled f.below (segments text) ≡ None → Reads f text n → ⊥
both_ways f text n h r = let both : None ≡ Some n = sym h ∙ again f text n r in cc

-- it is told exactly where the text is that of no name
pub judged_prefix : (f : Form) {A : Type 0} (tests : DocName → List (Bool × PathError)) (take : DocName → A) (text : List ℕ) → ((n : DocName) → AllByRecursion (λ t. t.1 ≡ BadPrefix → ⊥) (tests n)) → (judged f.below tests take text ≡ Err BadPrefix) ↔ ((n : DocName) → Reads f text n → ⊥)
judged_prefix f tests take text other = (
  λ h n r. both_ways f text n (unspelled tests take (spelled f.below (segments text)) other h) r,
  λ never. ap (if_spelled tests take) (spelled_none f text (spelled f.below (segments text)) refl never),
)
