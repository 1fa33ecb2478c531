-- The changes of the documents that were written.
use Rattle.std.proofs.Common.{◌≡◌, Bool, true, false, cond, List, [], ◌∷◌, ◌++◌, Option, Some, None, refl, sym, ap, ◌∙◌, subst}
use Rattle.std.specs.Prelude.{IsTrue}
use Rattle.std.specs.Ordering.{is_eq, is_lt}
use Rattle.std.specs.declared.cmp.Ordering.TheVariants.{Less}
use Rattle.std.specs.BTreeMap.{is_at}
use Rattle.std.specs.Cmp.Derive.{both_true}
use Rattle.std.specs.FinMap.{find, get, is_sorted}
use Rattle.std.specs.FinMap.Entries.{below_all}
use Rattle.std.specs.List.{AllByRecursion}
use Rattle.std.specs.List.Sorted.{IsStrictlySortedBy}
use Rattle.std.specs.Map.{keys_of}
use Rattle.std.proofs.lemmas.List.{append-nil}
use Rattle.fs_path.specs.NameOrder.{name_cmp, name_is}
use Rattle.fs_path.specs.declared.name.DocName.{DocName}
use Rattle.fs_value.specs.declared.document.Document.{Document}
use Rattle.fs_write.specs.Batch.{Docs, changes_by_name, change_of, is_unchanged, AreChanges}
use Rattle.fs_write.specs.Staging.{staged_at, both_of, with_change, IsStage, staged_change, AreStagedChanges}
use Rattle.fs_write.specs.declared.batch.Staged.{Staged}
use Rattle.fs_write.specs.declared.change.Change.{Change}
use Rattle.fs_value.proofs.Alike.{same_itself}

-- the changes of a stage, entry by entry
abbrev pub changes_in : List (DocName × Staged) → List Change
changes_in [] = []
changes_in (e ∷ es) = with_change (change_of e.0 e.1.before e.1.now) (changes_in es)

-- ---- one more entry

pub no_more : (done : List Change) (rest : List (DocName × Staged)) (whole : List Change) → done ++ changes_in rest ≡ whole → rest ≡ [] → done ≡ whole
no_more done rest whole from none = sym (append-nil done) ∙ ap (λ es. done ++ changes_in es) (sym none) ∙ from

-- ---- the changes of a stage are in order, and each name has its own

below_changes : (k : DocName) (o : Option Change) (n : DocName) (cs : List Change) → ((c : Change) → o ≡ Some c → c.name ≡ n) → name_cmp k n ≡ Less → IsTrue (below_all name_cmp k (changes_by_name cs))
    → IsTrue (below_all name_cmp k (changes_by_name (with_change o cs)))
below_changes k None n cs named less rest = rest
below_changes k (Some c) n cs named less rest = both_true (ap is_lt (ap (name_cmp k) (named c refl) ∙ less)) rest

named_change : (b : Bool) (name : DocName) (before after : Option Document) (c : Change) → cond b None (Some (record { name = name; before = before; after = after })) ≡ Some c → c.name ≡ name
named_change true name before after c is = absurd (cc)
named_change false name before after c is = cc

below_all_changes : (k : DocName) (es : List (DocName × Staged)) → AllByRecursion (λ l. name_cmp k l ≡ Less) (keys_of es) → IsTrue (below_all name_cmp k (changes_by_name (changes_in es)))
below_all_changes k [] h = refl
below_all_changes k (e ∷ es) h =
    below_changes k (change_of e.0 e.1.before e.1.now) e.0 (changes_in es) (named_change (is_unchanged e.1.before e.1.now) e.0 e.1.before e.1.now) h.0 (below_all_changes k es h.1)

sorted_change : (o : Option Change) (n : DocName) (cs : List Change) → ((c : Change) → o ≡ Some c → c.name ≡ n) → IsTrue (below_all name_cmp n (changes_by_name cs)) → IsTrue (is_sorted name_cmp (changes_by_name cs))
    → IsTrue (is_sorted name_cmp (changes_by_name (with_change o cs)))
sorted_change None n cs named below rest = rest
sorted_change (Some c) n cs named below rest = both_true (subst (λ m. IsTrue (below_all name_cmp m (changes_by_name cs))) (sym (named c refl)) below) rest

pub changes_rise : (es : List (DocName × Staged)) → IsStrictlySortedBy name_cmp (keys_of es) → IsTrue (is_sorted name_cmp (changes_by_name (changes_in es)))
unfolding IsStrictlySortedBy
changes_rise [] h = refl
changes_rise (e ∷ es) h =
    sorted_change (change_of e.0 e.1.before e.1.now) e.0 (changes_in es) (named_change (is_unchanged e.1.before e.1.now) e.0 e.1.before e.1.now) (below_all_changes e.0 es h.0) (changes_rise es h.1)

none_above : (k : DocName) (es : List (DocName × Staged)) → AllByRecursion (λ l. name_cmp k l ≡ Less) (keys_of es) → staged_at k es ≡ None
none_above k [] h = refl
none_above k (e ∷ es) h = ap (λ o. cond (is_eq o) (Some e.1) (staged_at k es)) h.0 ∙ none_above k es h.1

module _ (q k : DocName) (s : Staged) (cs : List Change) (found : Option Staged) where
  made : DocName → Change
  made n = record { name = n; before = s.before; after = s.now }

  found_here : (b t : Bool) → (t ≡ true → q ≡ k) → (t ≡ true → found ≡ None) → find name_cmp q (changes_by_name cs) ≡ staged_change q found → is_at (name_cmp q) k ≡ t → is_unchanged s.before s.now ≡ b
      → find name_cmp q (changes_by_name (with_change (cond b None (Some (made k))) cs)) ≡ staged_change q (cond t (Some s) found)
  unfolding made
  found_here true true same none rest tie is = rest ∙ ap (staged_change q) (none refl) ∙ ap (λ b. cond b None (Some (made q))) (sym is)
  found_here true false same none rest tie is = rest
  found_here false true same none rest tie is =
      ap (λ t. cond t (Some (made k)) (find name_cmp q (changes_by_name cs))) tie
      ∙ ap (λ n. Some (made n)) (sym (same refl))
      ∙ ap (λ b. cond b None (Some (made q))) (sym is)
  found_here false false same none rest tie is = ap (λ t. cond t (Some (made k)) (find name_cmp q (changes_by_name cs))) tie ∙ rest

pub changes_found : (es : List (DocName × Staged)) → IsStrictlySortedBy name_cmp (keys_of es) → (q : DocName) → find name_cmp q (changes_by_name (changes_in es)) ≡ staged_change q (staged_at q es)
unfolding IsStrictlySortedBy made
changes_found [] h q = refl
changes_found (e ∷ es) h q =
    found_here q e.0 e.1 (changes_in es) (staged_at q es) (is_unchanged e.1.before e.1.now) (is_at (name_cmp q) e.0) (name_is q e.0)
    (λ t. ap (λ n. staged_at n es) (name_is q e.0 t) ∙ none_above e.0 es h.0) (changes_found es h.1 q) refl refl

pub staged_changes : (es : List (DocName × Staged)) (changes : List Change) → IsStrictlySortedBy name_cmp (keys_of es) → changes ≡ changes_in es → AreStagedChanges es changes
staged_changes es changes h is = subst (AreStagedChanges es) (sym is) (record { rise = changes_rise es h; named_changes = changes_found es h })

-- of one entry
pub one_change : (name : DocName) (s : Staged) (changes : List Change) → changes ≡ with_change (change_of name s.before s.now) [] → AreStagedChanges ((name, s) ∷ []) changes
unfolding IsStrictlySortedBy
one_change name s changes is = staged_changes ((name, s) ∷ []) changes (tt, tt) is

-- ---- and so they are those of the batch

pub unchanged_itself : (o : Option Document) → is_unchanged o o ≡ true
unchanged_itself None = refl
unchanged_itself (Some d) = same_itself d.fields

staged_is : (name : DocName) (there then : Option Document) (o : Option Staged) → both_of there o ≡ (there, then) → staged_change name o ≡ change_of name there then
staged_is name there then None stage =
    let is : there ≡ then = ap (λ (p : Option Document × Option Document). p.1) stage in
    ap (λ b. cond b None (Some (record { name = name; before = there; after = then }))) (sym (ap (is_unchanged there) (sym is) ∙ unchanged_itself there))
staged_is name there then (Some s) stage = ap (λ (p : Option Document × Option Document). change_of name p.0 p.1) stage

pub batch_changes : (docs after : Docs) (es : List (DocName × Staged)) (changes : List Change) → IsStage docs es after → AreStagedChanges es changes → AreChanges docs after changes
batch_changes docs after es changes stage staged = record {
  rise = staged.rise;
  told = λ name. staged.named_changes name ∙ staged_is name (get docs name) (get after name) (staged_at name es) (stage name);
}
