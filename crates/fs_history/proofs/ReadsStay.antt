-- What a read showed is what the documents give still behind a batch that doesn't touch it.
use Rattle.std.proofs.Common.{◌≡◌, ℤ, Bool, true, false, cond, List, [], ◌∷◌, ◌⊎◌, inl, inr, Some, None, refl, sym, ap, ◌∙◌, subst}
use Rattle.std.specs.Prelude.{◌||◌, IsTrue}
use Rattle.std.specs.Cmp.{first_so, second_so}
use Rattle.std.specs.FinMap.{find, get, get-empty, get-entries, is_sorted, values}
use Rattle.std.specs.FinMap.Entries.{below_all}
use Rattle.std.specs.List.{Contains, list_any}
use Rattle.std.specs.Ordering.{eq_by_cmp}
use Rattle.std.proofs.lemmas.Bool.{or_parts}
use Rattle.fs_path.proofs.Elements.{has_first, has_later}
use Rattle.fs_path.specs.NameOrder.{name_cmp, name_is, name_itself}
use Rattle.fs_path.specs.Scope.{covers}
use Rattle.fs_path.specs.declared.name.DocName.{DocName}
use Rattle.fs_path.specs.declared.scope.Scope.{Scope}
use Rattle.fs_query.proofs.Rising.{has_cases, has_none}
use Rattle.fs_query.specs.Answer.{IsAnswer}
use Rattle.fs_query.specs.Asked.{Asked}
use Rattle.fs_query.specs.Fits.{fits}
use Rattle.fs_value.specs.Named.{by_name}
use Rattle.fs_value.specs.declared.document.Document.{Document}
use Rattle.fs_write.proofs.AfterLaws.{law_unwritten}
use Rattle.fs_write.specs.After.{after_batch}
use Rattle.fs_write.specs.Batch.{AreNamed, Docs}
use Rattle.fs_write.specs.WrittenName.{is_written, written_name}
use Rattle.fs_write.specs.declared.write.Write.{Write}
use Rattle.fs_history.specs.History.{whole}
use Rattle.fs_history.specs.Serial.{IsShown}
use Rattle.fs_history.specs.Touches.{touched}
use Rattle.fs_history.specs.declared.batch.Batch.{Batch}
use Rattle.fs_history.specs.declared.read.Read.{Read}
use Rattle.fs_history.specs.declared.read.Read.TheVariants as read
use Rattle.fs_history.proofs.Names.{none_below}
use Rattle.fs_history.proofs.NamesListed.{listed, listed_entries, none_named}

-- ---- documents in a list are those that their names find

found_next : (x : Document) (ds : List Document) (q : DocName) (d : Document) (b : Bool) → cond b (Some x) (find name_cmp q (by_name ds)) ≡ Some d → (find name_cmp q (by_name ds) ≡ Some d → Contains ds d) → Contains (x ∷ ds) d
found_next x ds q d true is more = let same : x ≡ d = cc in subst (Contains (x ∷ ds)) same (has_first x ds)
found_next x ds q d false is more = has_later x ds d (more is)

found_in : (ds : List Document) (q : DocName) (d : Document) → find name_cmp q (by_name ds) ≡ Some d → Contains ds d
found_in [] q d is = absurd (cc)
found_in (x ∷ ds) q d is = found_next x ds q d (eq_by_cmp name_cmp q x.name) is (found_in ds q d)

later_finds : (x : Document) (ds : List Document) (d : Document) (b : Bool) → eq_by_cmp name_cmp d.name x.name ≡ b → IsTrue (below_all name_cmp x.name (by_name ds)) → find name_cmp d.name (by_name ds) ≡ Some d
    → cond b (Some x) (find name_cmp d.name (by_name ds)) ≡ Some d
later_finds x ds d true ties below is =
    let none : find name_cmp d.name (by_name ds) ≡ None = ap (λ n. find name_cmp n (by_name ds)) (name_is d.name x.name ties) ∙ none_below x.name (by_name ds) below in
    absurd (cc)
later_finds x ds d false ties below is = is

in_finds : (ds : List Document) (d : Document) → IsTrue (is_sorted name_cmp (by_name ds)) → Contains ds d → find name_cmp d.name (by_name ds) ≡ Some d
in_finds [] d rise has = absurd (has_none d has)
in_finds (x ∷ ds) d rise has =
    let below = first_so (below_all name_cmp x.name (by_name ds)) (is_sorted name_cmp (by_name ds)) rise in
    let rest = second_so (below_all name_cmp x.name (by_name ds)) (is_sorted name_cmp (by_name ds)) rise in
    at below (in_finds ds d rest) (has_cases x ds d has)
  where
    at : IsTrue (below_all name_cmp x.name (by_name ds)) → (Contains ds d → find name_cmp d.name (by_name ds) ≡ Some d) → (x ≡ d) ⊎ Contains ds d → find name_cmp d.name (by_name (x ∷ ds)) ≡ Some d
    at below more (inl same) = ap (λ b. cond b (Some x) (find name_cmp d.name (by_name ds))) (ap (λ (y : Document). eq_by_cmp name_cmp y.name x.name) (sym same) ∙ name_itself x.name) ∙ ap Some same
    at below more (inr later) = later_finds x ds d (eq_by_cmp name_cmp d.name x.name) refl below (more later)

module _ (docs : Docs) (named : AreNamed docs) where
  got_is : (q : DocName) → find name_cmp q (by_name (values docs)) ≡ get docs q
  got_is q = ap (find name_cmp q) (listed_entries docs named) ∙ sym (get-entries docs q)

  pub got_in : (d : Document) → get docs d.name ≡ Some d → Contains (values docs) d
  got_in d is = found_in (values docs) d.name d (got_is d.name ∙ is)

  pub in_got : (d : Document) → Contains (values docs) d → get docs d.name ≡ Some d
  in_got d has = sym (got_is d.name) ∙ in_finds (values docs) d (listed docs named).0 has

-- ---- documents that agree in a scope have the same answer

abbrev pub AgreeIn : Scope → Docs → Docs → Type 0
AgreeIn scope docs other = (n : DocName) → IsTrue (covers scope n) → get other n ≡ get docs n

module _ (q : Asked) (docs other : Docs) (named : AreNamed docs) (too : AreNamed other) (agree : AgreeIn q.scope docs other) where
  moved_over : (d : Document) → Contains (values docs) d → IsTrue (fits q d) → Contains (values other) d
  moved_over d has fit = got_in other too d (agree d.name (first_so (covers q.scope d.name) _ fit) ∙ in_got docs named d has)

  moved_back : (d : Document) → Contains (values other) d → IsTrue (fits q d) → Contains (values docs) d
  moved_back d has fit = got_in docs named d (sym (agree d.name (first_so (covers q.scope d.name) _ fit)) ∙ in_got other too d has)

  pub same_answer : (shown : List Document) → IsAnswer q (values docs) shown → IsAnswer q (values other) shown
  same_answer shown is = record {
    all = is.all;
    are_fitting = record {
      rise = is.are_fitting.rise;
      fitting = λ d. (
        λ has. let both = (is.are_fitting.fitting d).0 has in (moved_over d both.0 both.1, both.1),
        λ both. (is.are_fitting.fitting d).1 (moved_back d both.0 both.1, both.1),
      );
    };
    is_cut = is.is_cut;
  }

-- ---- what isn't touched isn't written

covered_next : (scope : Scope) (w : Write) (ws : List Write) (n : DocName) (b : Bool) → eq_by_cmp name_cmp (written_name w) n ≡ b → covers scope (written_name w) ≡ false → IsTrue (covers scope n) → is_written n ws ≡ false
    → b || is_written n ws ≡ false
covered_next scope w ws n true ties apart at more = let same : covers scope n ≡ false = subst (λ m. covers scope m ≡ false) (name_is (written_name w) n ties) apart in absurd (cc)
covered_next scope w ws n false ties apart at more = more

covered : (scope : Scope) (ws : List Write) (n : DocName) → list_any (λ w. covers scope (written_name w)) ws ≡ false → IsTrue (covers scope n) → is_written n ws ≡ false
covered scope [] n none at = refl
covered scope (w ∷ ws) n none at =
    let both = or_parts (covers scope (written_name w)) (list_any (λ v. covers scope (written_name v)) ws) none in
    covered_next scope w ws n (eq_by_cmp name_cmp (written_name w) n) refl both.0 at (covered scope ws n both.1 at)

unnamed : (n : DocName) (ws : List Write) → list_any (λ w. eq_by_cmp name_cmp (written_name w) n) ws ≡ false → is_written n ws ≡ false
unnamed n [] none = refl
unnamed n (w ∷ ws) none =
    let both = or_parts (eq_by_cmp name_cmp (written_name w) n) (list_any (λ v. eq_by_cmp name_cmp (written_name v) n) ws) none in
    ap (λ b. b || is_written n ws) both.0 ∙ unnamed n ws both.1

module _ (at_own_names : (docs : Docs) (ws : List Write) (t : ℤ) → AreNamed docs → AreNamed (after_batch docs ws t)) where
  pub whole_named : (h : List Batch) → AreNamed (whole h)
  whole_named [] = λ q. none_named at_own_names q (get (whole []) q) (get-empty name_cmp q)
  whole_named (b ∷ h) = at_own_names (whole h) b.writes b.time (whole_named h)

  pub reads_stay : (b : Batch) (h : List Batch) (r : Read) → touched b.writes r ≡ false → IsShown (whole h) r → IsShown (whole (b ∷ h)) r
  reads_stay b h (read.Name name shown) apart is = is ∙ sym (law_unwritten (whole h) b.writes b.time name (unnamed name b.writes apart))
  reads_stay b h (read.Query query shown) apart is =
      same_answer query (whole h) (whole (b ∷ h)) (whole_named h) (whole_named (b ∷ h))
      (λ n at. law_unwritten (whole h) b.writes b.time n (covered query.scope b.writes n apart at)) shown is
