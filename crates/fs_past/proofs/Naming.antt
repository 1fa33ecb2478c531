-- The documents of the names that writes name.
use Rattle.std.proofs.Common.{◌≡◌, ℕ, ◌+◌, ◌<◌, Bool, true, false, cond, List, [], ◌∷◌, ◌++◌, length, get_or, take, Option, Some, None, refl, sym, ap, ◌∙◌, zero, suc, arith}
use Rattle.std.specs.Prelude.{◌||◌}
use Rattle.std.proofs.lemmas.Cmp.{eq_by_cmp_equiv}
use Rattle.std.proofs.lemmas.List.{take_more}
use Rattle.std.specs.Cmp.{Equal-is}
use Rattle.std.specs.FinMap.{get, insert, get-insert, get_tied}
use Rattle.std.specs.List.{Contains}
use Rattle.std.specs.Ordering.{eq_by_cmp}
use Rattle.std.proofs.Math.Bool.{or-false, or_assoc}
use Rattle.fs_path.specs.NameOrder.{name_cmp, name_cmp_total, name_itself}
use Rattle.fs_path.specs.declared.name.DocName.{DocName}
use Rattle.fs_value.specs.declared.document.Document.{Document}
use Rattle.fs_write.specs.Batch.{Docs}
use Rattle.fs_write.specs.WrittenName.{written_name, is_written}
use Rattle.fs_write.specs.declared.write.Write.{Write}

pub turned : (a b : DocName) → eq_by_cmp name_cmp a b ≡ eq_by_cmp name_cmp b a
turned a b = (eq_by_cmp_equiv name_cmp_total).symm a b

-- ---- the names that are written

written-push : (q : DocName) (ws : List Write) (w : Write) → is_written q (ws ++ w ∷ []) ≡ (is_written q ws || eq_by_cmp name_cmp (written_name w) q)
written-push q [] w = or-false (eq_by_cmp name_cmp (written_name w) q)
written-push q (x ∷ ws) w = ap (λ b. eq_by_cmp name_cmp (written_name x) q || b) (written-push q ws w) ∙ sym (or_assoc (eq_by_cmp name_cmp (written_name x) q) (is_written q ws) (eq_by_cmp name_cmp (written_name w) q))

written_or : (c a : Bool) → (a ≡ true) → (c || a) ≡ true
written_or true a h = refl
written_or false a h = h

tied_written : (ws : List Write) (q : DocName) (k : ℕ) (w : Write) → k < length ws → w ≡ get_or ws k w → eq_by_cmp name_cmp (written_name w) q ≡ true → is_written q ws ≡ true
tied_written [] q k w within is ties = absurd (omega arith)
tied_written (x ∷ ws) q zero w within is ties = ap (λ b. b || is_written q ws) (ap (λ y. eq_by_cmp name_cmp (written_name y) q) (sym is) ∙ ties)
tied_written (x ∷ ws) q (suc k) w within is ties = written_or (eq_by_cmp name_cmp (written_name x) q) (is_written q ws) (tied_written ws q k w (omega arith) is ties)

-- a write's own name is written
pub contained_written : (ws : List Write) (w : Write) → Contains ws w → is_written (written_name w) ws ≡ true
contained_written ws w (k, within, is) = tied_written ws (written_name w) k w within (sym is) (name_itself (written_name w))

-- ---- the documents of those names

-- the documents at the names of these writes, and none else
abbrev pub Shows : Docs → List Write → Docs → Type 0
Shows docs ws there = (q : DocName) → get there q ≡ cond (is_written q ws) (get docs q) None

found_tied : (docs : Docs) (q n : DocName) (o : Option Document) (b c : Bool) (before : Option Document) → eq_by_cmp name_cmp n q ≡ b → o ≡ get docs n → before ≡ cond c (get docs q) None
    → cond b o before ≡ cond (c || b) (get docs q) None
found_tied docs q n o true true before ties there shown = there ∙ get_tied name_cmp_total docs q n ((Equal-is _).0 (turned q n ∙ ties))
found_tied docs q n o true false before ties there shown = there ∙ get_tied name_cmp_total docs q n ((Equal-is _).0 (turned q n ∙ ties))
found_tied docs q n o false true before ties there shown = shown
found_tied docs q n o false false before ties there shown = shown

none_stays : (b c : Bool) (x y : Option Document) → x ≡ cond c y None → (b ≡ true → y ≡ None) → x ≡ cond b None x
none_stays true true x y shown none = shown ∙ none refl
none_stays true false x y shown none = shown
none_stays false c x y shown none = refl

module _ (docs : Docs) (ws : List Write) (i : ℕ) (w : Write) (there : Docs) (within : i < length ws) (is : w ≡ get_or ws i w) (shows : Shows docs (take i ws) there) where
  more_written : (q : DocName) → is_written q (take (i + 1) ws) ≡ (is_written q (take i ws) || eq_by_cmp name_cmp (written_name w) q)
  more_written q = ap (is_written q) (take_more ws i w within ∙ ap (λ x. take i ws ++ x ∷ []) (sym is)) ∙ written-push q (take i ws) w

  pub shows_found : (d : Document) (n : DocName) → n ≡ written_name w → Some d ≡ get docs n → d.name ≡ n → (then : Docs) → then ≡ insert there d.name d → Shows docs (take (i + 1) ws) then
  shows_found d n of here named then is_then q =
      let name : d.name ≡ written_name w = named ∙ of in
      ap (λ m. get m q) is_then
      ∙ get-insert name_cmp_total there d.name d q
      ∙ ap (λ b. cond b (Some d) (get there q)) (ap (eq_by_cmp name_cmp q) name ∙ turned q (written_name w))
      ∙ found_tied docs q (written_name w) (Some d) (eq_by_cmp name_cmp (written_name w) q) (is_written q (take i ws)) (get there q) refl (here ∙ ap (get docs) of) (shows q)
      ∙ ap (λ b. cond b (get docs q) None) (sym (more_written q))

  pub shows_absent : (n : DocName) → n ≡ written_name w → None ≡ get docs n → Shows docs (take (i + 1) ws) there
  shows_absent n of absent q =
      let b = eq_by_cmp name_cmp (written_name w) q in
      let none : b ≡ true → get docs q ≡ None = λ ties. sym (get_tied name_cmp_total docs q (written_name w) ((Equal-is _).0 (turned q (written_name w) ∙ ties))) ∙ ap (get docs) (sym of) ∙ sym absent in
      none_stays b (is_written q (take i ws)) (get there q) (get docs q) (shows q) none
      ∙ found_tied docs q (written_name w) None b (is_written q (take i ws)) (get there q) refl (absent ∙ ap (get docs) of) (shows q)
      ∙ ap (λ c. cond c (get docs q) None) (sym (more_written q))

-- those that a write names are the same
pub agrees : (docs found : Docs) (ws : List Write) → ((name : DocName) → is_written name ws ≡ true → get found name ≡ get docs name)
    → (w : Write) → Contains ws w → get found (written_name w) ≡ get docs (written_name w)
agrees docs found ws agree w at = agree (written_name w) (contained_written ws w at)
