-- How many disjuncts there are, where 1,000 stands for all greater numbers.
use Rattle.std.proofs.Common.{◌≡◌, ℕ, zero, suc, ◌+◌, ◌*◌, ◌≤◌, ◌<◌, List, [], ◌∷◌, ◌++◌, map, drop, length, get_or, sym, ap, ◌∙◌, arith, ◌⊎◌, inl, inr}
use Rattle.std.specs.Prelude.{min}
use Rattle.std.proofs.Math.Nat.{mul_comm, mul_assoc, mul-suc}
use Rattle.std.proofs.lemmas.Bool.{cases_lt}
use Rattle.std.proofs.lemmas.List.{length-map, length-append, drop_more}
use Rattle.fs_path.specs.declared.field.FieldPath.{FieldPath}
use Rattle.fs_value.specs.Data.{Data}
use Rattle.fs_query.specs.Condition.{Condition, compared, conditions_of}
use Rattle.fs_query.specs.Normal.{alternatives, products, conjunctions, conjunctions_of_all, conjunctions_of_any}
use Rattle.fs_query.specs.View.{view}
use Rattle.fs_query.specs.declared.filter.Filter.{Filter}
use Rattle.fs_query.specs.declared.op.Op.{Op}

-- ---- a list operator

pub values_counted : (p : FieldPath) (op : Op) (ws : List Data) → length (map (λ c. c ∷ []) (map (compared p op) ws)) ≡ length ws
values_counted p op ws = length-map (map (compared p op) ws) (λ c. c ∷ []) ∙ length-map ws (compared p op)

-- ---- products

products_counted : (xs ys : List (List Condition)) → length (products xs ys) ≡ length xs * length ys
products_counted [] ys = omega arith
products_counted (x ∷ xs) ys =
    length-append (map (λ y. x ++ y) ys) (products xs ys)
    ∙ (λ i. length-map ys (λ y. x ++ y) i + products_counted xs ys i)
    ∙ grind arith

cut_large : (x y : ℕ) → 1000 ≤ x → min (1000 * suc y) 1000 ≡ min (x * suc y) 1000
cut_large x y h = omega (arith, mul-suc x y)

-- a factor may be cut before it is used
cut_factor_by : (x y : ℕ) → (x < 1000) ⊎ (1000 ≤ x) → min (min x 1000 * y) 1000 ≡ min (x * y) 1000
cut_factor_by x y (inl h) = ap (λ n. min (n * y) 1000) (omega arith)
cut_factor_by x zero (inr h) = grind arith
cut_factor_by x (suc y) (inr h) = ap (λ n. min (n * suc y) 1000) (omega arith) ∙ cut_large x y h

cut_factor : (x y : ℕ) → min (min x 1000 * y) 1000 ≡ min (x * y) 1000
cut_factor x y = cut_factor_by x y (cases_lt x 1000)

swap_factors : (a b r : ℕ) → a * b * r ≡ b * (a * r)
swap_factors a b r = ap (λ n. n * r) (mul_comm a b) ∙ mul_assoc b a r

turn_factors : (a b r : ℕ) → b * (a * r) ≡ a * (b * r)
turn_factors a b r = sym (mul_assoc b a r) ∙ ap (λ n. n * r) (mul_comm b a) ∙ mul_assoc a b r

pub product_step : (a b r : ℕ) → min (min (a * min b 1000) 1000 * r) 1000 ≡ min (a * (b * r)) 1000
product_step a b r =
    cut_factor (a * min b 1000) r
    ∙ ap (λ n. min n 1000) (swap_factors a (min b 1000) r)
    ∙ cut_factor b (a * r)
    ∙ ap (λ n. min n 1000) (turn_factors a b r)

pub product_rest : (fs : List Filter) (k : ℕ) (f : Filter) (a : ℕ) → k < length fs
    → min (min (a * min (length (conjunctions alternatives (view (get_or fs k f)))) 1000) 1000 * length (conjunctions_of_all alternatives (conditions_of (map view (drop (k + 1) fs))))) 1000
    ≡ min (a * length (conjunctions_of_all alternatives (conditions_of (map view (drop k fs))))) 1000
product_rest fs k f a h =
    product_step a (length (conjunctions alternatives (view (get_or fs k f)))) (length (conjunctions_of_all alternatives (conditions_of (map view (drop (k + 1) fs)))))
    ∙ ap (λ n. min (a * n) 1000) (sym (products_counted (conjunctions alternatives (view (get_or fs k f))) (conjunctions_of_all alternatives (conditions_of (map view (drop (k + 1) fs))))))
    ∙ ap (λ gs. min (a * length (conjunctions_of_all alternatives (conditions_of (map view gs)))) 1000) (sym (drop_more fs k f h))

pub product_end : (a : ℕ) → a ≤ 1000 → min (a * 1) 1000 ≡ a
product_end a h = grind arith

-- ---- sums

pub sum_rest : (fs : List Filter) (k : ℕ) (f : Filter) (a : ℕ) → k < length fs
    → min (min (a + min (length (conjunctions alternatives (view (get_or fs k f)))) 1000) 1000 + length (conjunctions_of_any alternatives (conditions_of (map view (drop (k + 1) fs))))) 1000
    ≡ min (a + length (conjunctions_of_any alternatives (conditions_of (map view (drop k fs))))) 1000
sum_rest fs k f a h =
    (let e = length-append (conjunctions alternatives (view (get_or fs k f))) (conjunctions_of_any alternatives (conditions_of (map view (drop (k + 1) fs)))) in
    let s : min (min (a + min (length (conjunctions alternatives (view (get_or fs k f)))) 1000) 1000 + length (conjunctions_of_any alternatives (conditions_of (map view (drop (k + 1) fs))))) 1000
    ≡ min (a + length (conjunctions alternatives (view (get_or fs k f)) ++ conjunctions_of_any alternatives (conditions_of (map view (drop (k + 1) fs))))) 1000 = omega arith in s)
    ∙ ap (λ gs. min (a + length (conjunctions_of_any alternatives (conditions_of (map view gs)))) 1000) (sym (drop_more fs k f h))
