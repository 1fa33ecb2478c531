-- The whole order of a query's documents, and how long it is.
use Rattle.std.proofs.Common.{◌≡◌, suc, ◌+◌, ◌-◌, Bool, true, false, cond, List, [], ◌∷◌, ◌++◌, map, length, sym, ap, ◌∙◌, arith, append_assoc}
use Rattle.std.specs.Prelude.{Some, slice_get}
use Rattle.std.proofs.lemmas.List.{append-nil, length-append, length-map}
use Rattle.fs_query.specs.Asked.{Asked}
use Rattle.fs_query.specs.Field.{name_path}
use Rattle.fs_query.specs.Normal.{is_ordered, joined, joining, last_descending, whole_order}
use Rattle.fs_query.specs.declared.order.Order.{Order}

-- ---- the last direction

last_front : (o p : Order) (os : List Order) → slice_get (o ∷ p ∷ os) (length (o ∷ p ∷ os) - 1) ≡ slice_get (p ∷ os) (length (p ∷ os) - 1)
last_front o p os = ap (slice_get (o ∷ p ∷ os)) (let e : length (o ∷ p ∷ os) - 1 ≡ suc (length (p ∷ os) - 1) = omega arith in e)

pub last_is : (os : List Order) (o : Order) → slice_get os (length os - 1) ≡ Some o → o.descending ≡ last_descending os
last_is [] o e = absurd (cc e)
last_is (p ∷ []) o e = ap (λ (x : Order). x.descending) (let s : o ≡ p = cc e in s)
last_is (p ∷ r ∷ os) o e = last_is (r ∷ os) o (sym (last_front p r os) ∙ e)

-- ---- with the name

whole_by : (q : Asked) (b : Bool) → q.orders ++ (map (joined q) (joining q) ++ cond b [] (joined q name_path ∷ [])) ≡ (q.orders ++ map (joined q) (joining q)) ++ cond b [] (joined q name_path ∷ [])
whole_by q b = sym (append_assoc q.orders (map (joined q) (joining q)) (cond b [] (joined q name_path ∷ [])))

pub with_name : (q : Asked) → is_ordered q.orders name_path ≡ false → (q.orders ++ map (joined q) (joining q)) ++ joined q name_path ∷ [] ≡ whole_order q
with_name q e = ap (λ b. (q.orders ++ map (joined q) (joining q)) ++ cond b [] (joined q name_path ∷ [])) (sym e) ∙ sym (whole_by q (is_ordered q.orders name_path))

pub without_name : (q : Asked) → is_ordered q.orders name_path ≡ true → q.orders ++ map (joined q) (joining q) ≡ whole_order q
without_name q e =
    sym (append-nil (q.orders ++ map (joined q) (joining q)))
    ∙ ap (λ b. (q.orders ++ map (joined q) (joining q)) ++ cond b [] (joined q name_path ∷ [])) (sym e)
    ∙ sym (whole_by q (is_ordered q.orders name_path))

joined_length : (q : Asked) → length (q.orders ++ map (joined q) (joining q)) ≡ length q.orders + length (joining q)
joined_length q = length-append q.orders (map (joined q) (joining q)) ∙ ap (λ n. length q.orders + n) (length-map (joining q) (joined q))

pub length_with_name : (q : Asked) → is_ordered q.orders name_path ≡ false → length (whole_order q) ≡ length q.orders + length (joining q) + 1
length_with_name q e =
    sym (ap length (with_name q e))
    ∙ length-append (q.orders ++ map (joined q) (joining q)) (joined q name_path ∷ [])
    ∙ ap (λ n. n + 1) (joined_length q)

pub length_without_name : (q : Asked) → is_ordered q.orders name_path ≡ true → length (whole_order q) ≡ length q.orders + length (joining q)
length_without_name q e = sym (ap length (without_name q e)) ∙ joined_length q
