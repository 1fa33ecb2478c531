-- The conjunctions of several filters, filter by filter.
use Rattle.std.proofs.Common.{◌≡◌, ℕ, ◌+◌, ◌<◌, ◌≤◌, List, [], ◌∷◌, ◌++◌, map, take, length, get_or, slice_index_or, arith, refl, sym, ap, ◌∙◌, append_assoc}
use Rattle.std.proofs.lemmas.Grind.{flat_map-append}
use Rattle.std.proofs.lemmas.List.{take_more, map-append, append-nil}
use Rattle.fs_query.specs.Condition.{Condition, conditions_of}
use Rattle.fs_query.specs.Normal.{alternatives, products, conjunctions, conjunctions_of_all, conjunctions_of_any}
use Rattle.fs_query.specs.View.{view}
use Rattle.fs_query.specs.declared.filter.Filter.{Filter}

products_one : (fronts : List (List Condition)) (back : List Condition) → map (λ front. front ++ back) fronts ≡ products fronts (back ∷ [])
products_one [] back = refl
products_one (front ∷ fronts) back = λ j. (front ++ back) ∷ products_one fronts back j

pub products_alone : (fronts backs : List (List Condition)) (back : List Condition) → 1 ≤ length backs → length backs < 2
    → map (λ front. front ++ slice_index_or backs 0 back) fronts ≡ products fronts backs
products_alone fronts [] back some few = absurd (omega (arith, some))
products_alone fronts (one ∷ []) back some few = products_one fronts one
products_alone fronts (one ∷ other ∷ more) back some few = absurd (omega (arith, few))

pub products_more : (fronts backs : List (List Condition)) (k : ℕ) (f : List Condition) → k < length fronts
    → products (take (k + 1) fronts) backs ≡ products (take k fronts) backs ++ map (λ back. get_or fronts k f ++ back) backs
products_more fronts backs k f h =
    ap (λ xs. products xs backs) (take_more fronts k f h)
    ∙ flat_map-append (λ front. map (λ back. front ++ back) backs) (take k fronts) (get_or fronts k f ∷ [])
    ∙ ap (λ xs. products (take k fronts) backs ++ xs) (append-nil (map (λ back. get_or fronts k f ++ back) backs))

products_append : (fronts more backs : List (List Condition)) → products (fronts ++ more) backs ≡ products fronts backs ++ products more backs
products_append fronts more backs = flat_map-append (λ front. map (λ back. front ++ back) backs) fronts more

behind_each : (front middle : List Condition) (backs : List (List Condition))
    → map (λ back. (front ++ middle) ++ back) backs ≡ map (λ behind. front ++ behind) (map (λ back. middle ++ back) backs)
behind_each front middle [] = refl
behind_each front middle (back ∷ backs) = λ j. append_assoc front middle back j ∷ behind_each front middle backs j

-- a front stands before all
behind_one : (front : List Condition) (middles backs : List (List Condition))
    → products (map (λ middle. front ++ middle) middles) backs ≡ map (λ behind. front ++ behind) (products middles backs)
behind_one front [] backs = refl
behind_one front (middle ∷ middles) backs =
    (λ j. behind_each front middle backs j ++ behind_one front middles backs j)
    ∙ sym (map-append (λ behind. front ++ behind) (map (λ back. middle ++ back) backs) (products middles backs))

products_assoc : (fronts middles backs : List (List Condition)) → products (products fronts middles) backs ≡ products fronts (products middles backs)
products_assoc [] middles backs = refl
products_assoc (front ∷ fronts) middles backs =
    products_append (map (λ middle. front ++ middle) middles) (products fronts middles) backs
    ∙ (λ j. behind_one front middles backs j ++ products_assoc fronts middles backs j)

nothing_behind : (fronts : List (List Condition)) → products fronts ([] ∷ []) ≡ fronts
nothing_behind [] = refl
nothing_behind (front ∷ fronts) = λ j. append-nil front j ∷ nothing_behind fronts j

nothing_before : (backs : List (List Condition)) → map (λ back. [] ++ back) backs ++ [] ≡ backs
nothing_before [] = refl
nothing_before (back ∷ backs) = λ j. back ∷ nothing_before backs j

all_append : (cs : List Condition) (c : Condition) → conjunctions_of_all alternatives (conditions_of (cs ++ c ∷ [])) ≡ products (conjunctions_of_all alternatives (conditions_of cs)) (conjunctions alternatives c)
all_append [] c = nothing_behind (conjunctions alternatives c) ∙ sym (nothing_before (conjunctions alternatives c))
all_append (d ∷ cs) c =
    ap (λ xs. products (conjunctions alternatives d) xs) (all_append cs c)
    ∙ sym (products_assoc (conjunctions alternatives d) (conjunctions_of_all alternatives (conditions_of cs)) (conjunctions alternatives c))

pub all_more : (fs : List Filter) (k : ℕ) (f : Filter) → k < length fs
    → conjunctions_of_all alternatives (conditions_of (map view (take (k + 1) fs))) ≡ products (conjunctions_of_all alternatives (conditions_of (map view (take k fs)))) (conjunctions alternatives (view (get_or fs k f)))
all_more fs k f h =
    ap (λ gs. conjunctions_of_all alternatives (conditions_of (map view gs))) (take_more fs k f h)
    ∙ ap (λ cs. conjunctions_of_all alternatives (conditions_of cs)) (map-append view (take k fs) (get_or fs k f ∷ []))
    ∙ all_append (map view (take k fs)) (view (get_or fs k f))

any_append : (cs ds : List Condition) → conjunctions_of_any alternatives (conditions_of (cs ++ ds)) ≡ conjunctions_of_any alternatives (conditions_of cs) ++ conjunctions_of_any alternatives (conditions_of ds)
any_append [] ds = refl
any_append (c ∷ cs) ds =
    ap (λ xs. conjunctions alternatives c ++ xs) (any_append cs ds)
    ∙ sym (append_assoc (conjunctions alternatives c) (conjunctions_of_any alternatives (conditions_of cs)) (conjunctions_of_any alternatives (conditions_of ds)))

pub any_more : (fs : List Filter) (k : ℕ) (f : Filter) → k < length fs
    → conjunctions_of_any alternatives (conditions_of (map view (take (k + 1) fs))) ≡ conjunctions_of_any alternatives (conditions_of (map view (take k fs))) ++ conjunctions alternatives (view (get_or fs k f))
any_more fs k f h =
    ap (λ gs. conjunctions_of_any alternatives (conditions_of (map view gs))) (take_more fs k f h)
    ∙ ap (λ cs. conjunctions_of_any alternatives (conditions_of cs)) (map-append view (take k fs) (get_or fs k f ∷ []))
    ∙ any_append (map view (take k fs)) (view (get_or fs k f) ∷ [])
    ∙ ap (λ xs. conjunctions_of_any alternatives (conditions_of (map view (take k fs))) ++ xs) (append-nil (conjunctions alternatives (view (get_or fs k f))))
