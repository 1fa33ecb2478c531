-- Fields whose value at a key's place is changed or taken out, told by key: `put` and `without` of the key. Their keys rise
-- still.
use Rattle.std.proofs.Common.{◌≡◌, ℕ, zero, suc, ◌<◌, Bool, true, false, cond, not, List, [], ◌∷◌, Option, Some, None, map, length, get_or, set, Less, refl, sym, ap, ◌∙◌, subst, arith}
use Rattle.std.specs.Prelude.{IsTrue}
use Rattle.std.specs.List.{remove}
use Rattle.std.specs.Ordering.{ordering_reverse, is_lt, is_eq, eq_by_cmp}
use Rattle.std.specs.Cmp.{first_so, second_so}
use Rattle.std.specs.FinMap.{find, put, is_sorted}
use Rattle.std.specs.FinMap.Entries.{below_all, find-put, is_sorted-put, is_sorted-where_key, same_entries}
use Rattle.std.proofs.lemmas.Cmp.{tied_itself}
use Rattle.std.proofs.lemmas.List.{get_or-map, length-map, map-set}
use Rattle.std.proofs.Math.Seq.{map-set_same}
use Rattle.fs_path.specs.TextOrder.{text_alike, text_cmp, text_cmp_total, text_same}
use Rattle.fs_value.specs.Data.{Data}
use Rattle.fs_value.specs.FieldPaths.{without}
use Rattle.fs_value.specs.FieldPlace.{IsFoundAt}
use Rattle.fs_path.proofs.Bools.{from_true, to_true}
use Rattle.fs_path.proofs.Orders.{less_is}
use Rattle.fs_value.specs.View.{view, field_view}
use Rattle.fs_value.specs.declared.value.Value.{Value}
use Rattle.fs_value.specs.declared.fields.Field.{Field}
use Rattle.fs_value.proofs.Places.{put_sorted}

-- ---- a new value at the place

within : (key : List ℕ) (fs : List Field) (i : ℕ) → IsFoundAt key (map field_view fs) i → i < length fs
within key fs i at = subst (λ (n : ℕ). i < n) (length-map fs field_view) at.within

pub found_there : (key : List ℕ) (fs : List Field) (i : ℕ) (r : Field) → IsFoundAt key (map field_view fs) i → r ≡ get_or fs i r → find text_cmp key (map field_view fs) ≡ Some (view r.value)
found_there key fs i r at is =
    at.found (field_view r) ∙ ap (λ p. Some p.1) (get_or-map field_view fs i r (field_view r) (within key fs i at)) ∙ sym (ap (λ f. Some (view f.value)) is)

pub replaced : (key : List ℕ) (fs : List Field) (i : ℕ) (r : Field) (v : Value) → IsFoundAt key (map field_view fs) i → r ≡ get_or fs i r
    → map field_view (set fs i (record { key = r.key; value = v })) ≡ put text_cmp key (view v) (map field_view fs)
replaced key fs i r v at is =
    let old : r.key ≡ key = ap (λ f. f.key) is ∙ ap (λ p. p.0) (sym (get_or-map field_view fs i r (field_view r) (within key fs i at))) ∙ at.same (field_view r) in
    map-set field_view fs i (record { key = r.key; value = v }) ∙ ap (λ k. set (map field_view fs) i (k, view v)) old ∙ sym (at.puts (view v))

-- a value that is as it was
pub kept : (fs : List Field) (i : ℕ) (r : Field) (v : Value) → r ≡ get_or fs i r → view v ≡ view r.value → map field_view (set fs i (record { key = r.key; value = v })) ≡ map field_view fs
kept fs i r v is same = map-set_same field_view fs i (record { key = r.key; value = v }) r (ap (λ d. (r.key, d)) same ∙ ap field_view is)

-- a value that stands there already
pub put_same : (key : List ℕ) (d : Data) (fs : List (List ℕ × Data)) → IsTrue (is_sorted text_cmp fs) → find text_cmp key fs ≡ Some d → put text_cmp key d fs ≡ fs
put_same key d fs rise is =
    let sorted = from_true (is_sorted text_cmp fs) rise in
    same_entries text_cmp text_cmp_total text_same (put text_cmp key d fs) fs (is_sorted-put text_cmp text_cmp_total key d fs sorted) sorted
    (λ q. find-put text_cmp text_cmp_total q key d fs
    ∙ elim (eq_by_cmp text_cmp q key) as (λ b. eq_by_cmp text_cmp q key ≡ b → cond b (Some d) (find text_cmp q fs) ≡ find text_cmp q fs) [
      | true ↦ λ e. sym is ∙ ap (λ x. find text_cmp x fs) (sym (text_alike q key e))
      | false ↦ λ e. refl
    ] refl)

pub put_rises : (key : List ℕ) (d : Data) (fs gs : List (List ℕ × Data)) → IsTrue (is_sorted text_cmp fs) → gs ≡ put text_cmp key d fs → IsTrue (is_sorted text_cmp gs)
put_rises key d fs gs rise is = subst (λ es. IsTrue (is_sorted text_cmp es)) (sym is) (put_sorted text_cmp text_cmp_total key d fs rise)

pub replaced_rises : (key : List ℕ) (fs : List Field) (i : ℕ) (r : Field) (v : Value) → IsTrue (is_sorted text_cmp (map field_view fs)) → IsFoundAt key (map field_view fs) i → r ≡ get_or fs i r
    → IsTrue (is_sorted text_cmp (map field_view (set fs i (record { key = r.key; value = v }))))
replaced_rises key fs i r v rise at is = put_rises key (view v) (map field_view fs) _ rise (replaced key fs i r v at is)

-- ---- the field taken out

without_next : (k : List ℕ) (e : List ℕ × Data) (es : List (List ℕ × Data)) → eq_by_cmp text_cmp k e.0 ≡ false → without k (e ∷ es) ≡ e ∷ without k es
without_next k e es apart = ap (λ b. cond (not b) (e ∷ without k es) (without k es)) apart

without_first : (k : List ℕ) (e : List ℕ × Data) (es : List (List ℕ × Data)) → eq_by_cmp text_cmp k e.0 ≡ true → without k (e ∷ es) ≡ without k es
without_first k e es ties = ap (λ b. cond (not b) (e ∷ without k es) (without k es)) ties

found_or_not : {X : Type 0} (b : Bool) (x : X) (o : Option X) → cond b (Some x) o ≡ None → (b ≡ false) × (o ≡ None)
found_or_not true x o h = absurd (cc)
found_or_not false x o h = (refl, h)

pub without_missing : (k : List ℕ) (es : List (List ℕ × Data)) → find text_cmp k es ≡ None → without k es ≡ es
without_missing k [] h = refl
without_missing k (e ∷ es) h =
    let parts = found_or_not (eq_by_cmp text_cmp k e.0) e.1 (find text_cmp k es) h in
    without_next k e es parts.0 ∙ ap (λ fs. e ∷ fs) (without_missing k es parts.1)

without_above : (k : List ℕ) (es : List (List ℕ × Data)) → IsTrue (below_all text_cmp k es) → without k es ≡ es
without_above k [] h = refl
without_above k (e ∷ es) h =
    without_next k e es (ap is_eq (less_is _ (first_so _ (below_all text_cmp k es) h)))
    ∙ ap (λ fs. e ∷ fs) (without_above k es (second_so (is_lt (text_cmp k e.0)) _ h))

below_later : (k : List ℕ) (es : List (List ℕ × Data)) (i : ℕ) (d : List ℕ × Data) → IsTrue (below_all text_cmp k es) → i < length es → text_cmp k (get_or es i d).0 ≡ Less
below_later k [] i d h low = absurd (omega arith)
below_later k (e ∷ es) zero d h low = less_is _ (first_so _ (below_all text_cmp k es) h)
below_later k (e ∷ es) (suc i) d h low = below_later k es i d (second_so (is_lt (text_cmp k e.0)) _ h) (omega arith)

pub without_at : (k : List ℕ) (es : List (List ℕ × Data)) (i : ℕ) → IsTrue (is_sorted text_cmp es) → i < length es → ((d : List ℕ × Data) → (get_or es i d).0 ≡ k) → without k es ≡ remove es i
without_at k [] i h low is = absurd (omega arith)
without_at k (e ∷ es) zero h low is =
    without_first k e es (ap (λ q. eq_by_cmp text_cmp q e.0) (sym (is e)) ∙ ap is_eq (tied_itself text_cmp_total e.0))
    ∙ without_above k es (subst (λ q. IsTrue (below_all text_cmp q es)) (is e) (first_so _ (is_sorted text_cmp es) h))
without_at k (e ∷ es) (suc i) h low is =
    let below : text_cmp e.0 k ≡ Less = subst (λ q. text_cmp e.0 q ≡ Less) (is e) (below_later e.0 es i e (first_so _ (is_sorted text_cmp es) h) (omega arith)) in
    without_next k e es (ap is_eq (text_cmp_total.antisymm k e.0 ∙ ap ordering_reverse below))
    ∙ ap (λ fs. e ∷ fs) (without_at k es i (second_so (below_all text_cmp e.0 es) _ h) (omega arith) is)

map-remove : (fs : List Field) (i : ℕ) → map field_view (remove fs i) ≡ remove (map field_view fs) i
map-remove [] zero = refl
map-remove [] (suc i) = refl
map-remove (f ∷ fs) zero = refl
map-remove (f ∷ fs) (suc i) = ap (λ es. field_view f ∷ es) (map-remove fs i)

pub removed : (key : List ℕ) (fs : List Field) (i : ℕ) → IsTrue (is_sorted text_cmp (map field_view fs)) → IsFoundAt key (map field_view fs) i → map field_view (remove fs i) ≡ without key (map field_view fs)
removed key fs i rise at = map-remove fs i ∙ sym (without_at key (map field_view fs) i rise at.within at.same)

pub without_rises : (key : List ℕ) (fs gs : List (List ℕ × Data)) → IsTrue (is_sorted text_cmp fs) → gs ≡ without key fs → IsTrue (is_sorted text_cmp gs)
without_rises key fs gs rise is = subst (λ es. IsTrue (is_sorted text_cmp es)) (sym is) (to_true _ (is_sorted-where_key text_cmp (λ x. not (eq_by_cmp text_cmp key x)) fs (from_true _ rise)))
