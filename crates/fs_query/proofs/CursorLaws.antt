-- Cursors keep what stands together in the order: what stands behind a document that starts is behind the start too. Behind
-- the values of a document stands what the order puts behind it.
use Rattle.std.proofs.Common.{◌≡◌, ℕ, zero, suc, min, length, drop, arith, Bool, true, false, List, [], ◌∷◌, Less, Equal, Greater, refl, sym, ap, ◌∙◌}
use Rattle.std.specs.Prelude.{Option, Some, None, ◌&&◌, unwrap_or, if◌then◌else◌}
use Rattle.std.specs.List.{list_all}
use Rattle.std.specs.Option.{is_some}
use Rattle.std.specs.Ordering.{ordering_then, ordering_reverse, is_gt, is_ge}
use Rattle.std.specs.declared.cmp.Ordering.{Ordering}
use Rattle.std.specs.Cmp.{IsTotalOrder}
use Rattle.std.proofs.Math.Seq.{drop-nil}
use Rattle.fs_value.specs.Data.{Data, null}
use Rattle.fs_value.specs.declared.document.Document.{Document}
use Rattle.fs_query.specs.Answer.{place_cmp, is_behind_start}
use Rattle.fs_query.specs.DocumentOrder.{orders_cmp}
use Rattle.fs_query.specs.Field.{value_at}
use Rattle.fs_query.specs.Fits.{has_field}
use Rattle.fs_query.specs.Laws.{values_of}
use Rattle.fs_query.specs.declared.cursor.Cursor.{Cursor}
use Rattle.fs_query.specs.declared.order.Order.{Order}
use Rattle.fs_query.proofs.OrderLaws.{found_by, found_by_total}

-- ---- beside the values of a document

some_again : (v : Option Data) → is_some v ≡ true → Some (unwrap_or v null) ≡ v
some_again None e = absurd (cc)
some_again (Some v) e = refl

pub first_true : (a b : Bool) → (a && b) ≡ true → a ≡ true
first_true true b e = refl
first_true false b e = e

pub second_true : (a b : Bool) → (a && b) ≡ true → b ≡ true
second_true true b e = e
second_true false b e = absurd (cc)

pub beside_document : (os : List Order) (d e : Document) → list_all (has_field d) os ≡ true → place_cmp os (values_of os d) e ≡ orders_cmp os e d
beside_document [] d e all = refl
beside_document (o ∷ os) d e all =
    let value = some_again (value_at o.path d) (first_true (has_field d o) (list_all (has_field d) os) all) in
    λ i. ordering_then (found_by o (value_at o.path e) (value i)) (beside_document os d e (second_true (has_field d o) (list_all (has_field d) os) all) i)

-- ---- behind a document that isn't before the values

-- a test that what is greater passes, and what is less doesn't
record IsUpward (t : Ordering → Bool) : Type 0 where
  less : t Less ≡ false
  greater : t Greater ≡ true

-- the fields of one order decide, or the rest does
behind_by : {t : Ordering → Bool} (u : IsUpward t) {K : Type 0} {R : K → K → Ordering} (total : IsTotalOrder R) (v d e : K) (rest p q : Ordering) (m n : Ordering) → R d e ≡ m → R d v ≡ n
    → is_gt (ordering_then m rest) ≡ false → t (ordering_then n p) ≡ true → (is_gt rest ≡ false → t p ≡ true → t q ≡ true) → t (ordering_then (R e v) q) ≡ true
behind_by {t} u {K} {R} total v d e rest p q Less Less de dv h k more = absurd (cc (u.less, k))
behind_by {t} u {K} {R} total v d e rest p q Less Equal de dv h k more =
    let ve : R v e ≡ Less = sym (total.congr d v e dv) ∙ de in
    ap (λ r. t (ordering_then r q)) (total.antisymm e v ∙ ap ordering_reverse ve) ∙ u.greater
behind_by {t} u {K} {R} total v d e rest p q Less Greater de dv h k more =
    let ve : R v e ≡ Less = total.trans v d e (total.antisymm v d ∙ ap ordering_reverse dv) de in
    ap (λ r. t (ordering_then r q)) (total.antisymm e v ∙ ap ordering_reverse ve) ∙ u.greater
behind_by {t} u {K} {R} total v d e rest p q Equal Less de dv h k more = absurd (cc (u.less, k))
behind_by {t} u {K} {R} total v d e rest p q Equal Equal de dv h k more =
    ap (λ r. t (ordering_then r q)) (sym (total.congr d e v de) ∙ dv) ∙ more h k
behind_by {t} u {K} {R} total v d e rest p q Equal Greater de dv h k more =
    ap (λ r. t (ordering_then r q)) (sym (total.congr d e v de) ∙ dv) ∙ u.greater
behind_by {t} u {K} {R} total v d e rest p q Greater n de dv h k more = absurd (cc)

behind_values : {t : Ordering → Bool} (u : IsUpward t) (os : List Order) (vs : List Data) (d e : Document) → is_gt (orders_cmp os d e) ≡ false → t (place_cmp os vs d) ≡ true → t (place_cmp os vs e) ≡ true
behind_values u [] vs d e h k = k
behind_values u (o ∷ os) [] d e h k = k
behind_values u (o ∷ os) (v ∷ vs) d e h k =
    behind_by u (found_by_total o) (Some v) (value_at o.path d) (value_at o.path e) (orders_cmp os d e) (place_cmp os vs d) (place_cmp os vs e)
    (found_by o (value_at o.path d) (value_at o.path e)) (found_by o (value_at o.path d) (Some v)) refl refl h k (behind_values u os vs d e)

behind_cursor : (os : List Order) (vs : List Data) (before : Bool) (d e : Document) → is_gt (orders_cmp os d e) ≡ false
    → (if before then is_ge (place_cmp os vs d) else is_gt (place_cmp os vs d)) ≡ true → (if before then is_ge (place_cmp os vs e) else is_gt (place_cmp os vs e)) ≡ true
behind_cursor os vs true d e = behind_values {t = is_ge} (record { less = refl; greater = refl }) os vs d e
behind_cursor os vs false d e = behind_values {t = is_gt} (record { less = refl; greater = refl }) os vs d e

pub behind_started : (os : List Order) (start : Option Cursor) (d e : Document) → orders_cmp os d e ≡ Less → is_behind_start os start d ≡ true → is_behind_start os start e ≡ true
behind_started os None d e h k = refl
behind_started os (Some c) d e h k = behind_cursor os c.values c.before d e (ap is_gt h) k

-- behind the end of the orders or of the values nothing is compared
pub place_end : (os : List Order) (vs : List Data) (d : Document) (n : ℕ) → n ≡ min (length os) (length vs) → place_cmp (drop n os) (drop n vs) d ≡ Equal
place_end [] vs d n e = ap (λ (xs : List Order). place_cmp xs (drop n vs) d) (drop-nil n)
place_end (o ∷ os) [] d n e = ap (λ (k : ℕ). place_cmp (drop k (o ∷ os)) (drop k []) d) (let z : n ≡ 0 = omega arith in z)
place_end (o ∷ os) (v ∷ vs) d zero e = absurd (omega arith)
place_end (o ∷ os) (v ∷ vs) d (suc n) e = place_end os vs d n (omega arith)
