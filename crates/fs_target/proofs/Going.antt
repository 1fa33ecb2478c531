-- Events that are gone over one after another.
use Rattle.std.proofs.Common.{◌≡◌, ℕ, ℤ, zero, suc, ◌+◌, ◌<◌, Bool, true, false, cond, List, [], ◌∷◌, ◌++◌, length, drop, get_or, refl, sym, ap, ◌∙◌, subst, arith, add-one, drop-cons}
use Rattle.std.proofs.Math.ListN.{set}
use Rattle.std.specs.Prelude.{IsTrue, int_le, int_lt}
use Rattle.std.specs.FinMap.{get}
use Rattle.std.specs.List.{filter}
use Rattle.std.proofs.lemmas.List.{drop-set-lt}
use Rattle.std.proofs.lemmas.List.Elements.{filter-append}
use Rattle.fs_path.specs.declared.name.DocName.{DocName}
use Rattle.fs_write.specs.Batch.{Docs, with_document}
use Rattle.fs_target.specs.Places.{HasPlace, HavePlaces, is_until}
use Rattle.fs_target.specs.Staged.{behind, gone_over, left_by, up_to}
use Rattle.fs_target.specs.declared.event.TimedEvent.{TimedEvent}
use Rattle.fs_target.proofs.Each.{each_before, each_behind, each_weaker}
use Rattle.fs_target.proofs.Standing.{Placed}

pub gone_over-append : (es fs : List TimedEvent) (docs : Docs) → gone_over (es ++ fs) docs ≡ gone_over fs (gone_over es docs)
gone_over-append [] fs docs = refl
gone_over-append (e ∷ es) fs docs = gone_over-append es fs (with_document docs e.name (left_by e))

-- where more places are there
pub kept_places : (old new : Placed) (es : List TimedEvent) → ((name : DocName) (t : ℤ) → IsTrue (is_until t (get old name)) → IsTrue (is_until t (get new name))) → HavePlaces old es → HavePlaces new es
kept_places old new es kept have = each_weaker (HasPlace old) (HasPlace new) (λ e has. (has.0, λ is. kept e.name e.time (has.1 is))) es have

-- where those stay that stay until a time behind another
pub kept_behind : (old new : Placed) (time : ℤ) (es : List TimedEvent) → ((name : DocName) (t : ℤ) → IsTrue (int_lt time t) → IsTrue (is_until t (get old name)) → IsTrue (is_until t (get new name)))
    → HavePlaces old (behind time es) → HavePlaces new (behind time es)
kept_behind old new time [] kept have = tt
kept_behind old new time (e ∷ es) kept have = one (int_lt time e.time) refl (kept_behind old new time es kept) have where
  one : (b : Bool) → int_lt time e.time ≡ b → (HavePlaces old (behind time es) → HavePlaces new (behind time es))
      → HavePlaces old (cond b (e ∷ behind time es) (behind time es)) → HavePlaces new (cond b (e ∷ behind time es) (behind time es))
  one true late rest have = ((have.0.0, λ is. kept e.name e.time late (have.0.1 is)), rest have.1)
  one false late rest have = rest have

-- ---- one that is put at a place of a list

pub filter_set : {X : Type 0} (p : X → Bool) (xs : List X) (i : ℕ) (y d : X) → i < length xs → filter p (y ∷ []) ≡ filter p (get_or xs i d ∷ []) → filter p (set xs i y) ≡ filter p xs
filter_set p [] i y d within same = absurd (omega arith)
filter_set p (x ∷ xs) zero y d within same = filter-append p (y ∷ []) xs ∙ ap (λ ys. ys ++ filter p xs) same ∙ sym (filter-append p (x ∷ []) xs)
filter_set p (x ∷ xs) (suc i) y d within same = ap (λ ys. cond (p x) (x ∷ ys) ys) (filter_set p xs i y d (omega arith) same)

-- the event at a place is the first of those that are left
here : (es : List TimedEvent) (i : ℕ) (d : TimedEvent) → i < length es → drop i es ≡ get_or es i d ∷ drop (i + 1) es
here es i d within = drop-cons es i d within ∙ ap (λ k. get_or es i d ∷ drop k es) (sym (add-one i))

module _ (time : ℤ) (es : List TimedEvent) (i : ℕ) (d : TimedEvent) (within : i < length es) where
  abbrev first : List TimedEvent
  first = up_to time (get_or es i d ∷ [])

  abbrev rest : List TimedEvent
  rest = up_to time (drop (i + 1) es)

  left_is : up_to time (drop i es) ≡ first ++ rest
  left_is = ap (up_to time) (here es i d within) ∙ filter-append (λ (e : TimedEvent). int_le e.time time) (get_or es i d ∷ []) (drop (i + 1) es)

  rest_is : (y : TimedEvent) → up_to time (drop (i + 1) (set es i y)) ≡ rest
  rest_is y = ap (up_to time) (drop-set-lt (i + 1) es i y (omega arith))

  -- the first of those that are left has a place
  pub place_first : (places : Placed) → HavePlaces places (up_to time (drop i es)) → HavePlaces places first
  place_first places have = each_before (HasPlace places) first rest (subst (HavePlaces places) left_is have)

  pub places_next : (old new : Placed) (y : TimedEvent) → ((name : DocName) (t : ℤ) → IsTrue (is_until t (get old name)) → IsTrue (is_until t (get new name)))
      → HavePlaces old (up_to time (drop i es)) → HavePlaces new (up_to time (drop (i + 1) (set es i y)))
  places_next old new y kept have =
      subst (HavePlaces new) (sym (rest_is y)) (kept_places old new rest kept (each_behind (HasPlace old) first rest (subst (HavePlaces old) left_is have)))

  pub gone_next : (old new : Docs) (y : TimedEvent) → new ≡ gone_over first old → gone_over (up_to time (drop (i + 1) (set es i y))) new ≡ gone_over (up_to time (drop i es)) old
  gone_next old new y is =
      ap (λ fs. gone_over fs new) (rest_is y)
      ∙ ap (gone_over rest) is
      ∙ sym (gone_over-append first rest old)
      ∙ ap (λ fs. gone_over fs old) (sym left_is)
