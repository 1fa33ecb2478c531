-- Elements put at their places, of which of those that tie only the last is placed: each ties with one that is, and who is placed of a list is
-- placed of each part of it that has all that tie with it.
use Rattle.std.proofs.Common.{◌≡◌, ◌⊎◌, inl, inr, Bool, true, false, cond, List, [], ◌∷◌, map, Less, Equal, Greater, refl, sym, ap, ◌∙◌, subst}
use Rattle.std.specs.List.{Contains, filter}
use Rattle.std.specs.List.Sorted.{IsStrictlySortedBy}
use Rattle.std.specs.Ordering.{match_ordering}
use Rattle.std.specs.declared.cmp.Ordering.{Ordering}
use Rattle.std.specs.Cmp.{IsTotalOrder}
use Rattle.std.proofs.lemmas.Cmp.{tied_itself}
use Rattle.fs_path.proofs.Elements.{has_first, has_later}
use Rattle.fs_query.specs.AnswerTo.{in_rise, put_in}
use Rattle.fs_query.proofs.Rising.{first_below, from_rise, has_cases, has_kept, has_none, in_rise_rises, keeps, rise_rest}

module _ {X : Type 0} (c : X → X → Ordering) (o : IsTotalOrder c) where
  -- one that is there ties with it
  pub record Ties (xs : List X) (x : X) : Type 0 where
    pub other : X
    pub there : Contains xs other
    pub ties : c x other ≡ Equal

  abbrev pub NoneTies : List X → X → Type 0
  NoneTies xs x = (y : X) → Contains xs y → ¬ (c x y ≡ Equal)

  ties_later : (y : X) (ys : List X) (x : X) → Ties ys x → Ties (y ∷ ys) x
  ties_later y ys x t = record { other = t.other; there = has_later y ys t.other t.there; ties = t.ties }

  -- ---- one put at its place

  put_later : (x : X) (ys : List X) (d : X) → Contains ys d → Contains (put_in c x ys) d
  put_later x [] d has = absurd (has_none d has)
  put_later x (y ∷ ys) d has = by_place (c x y) (put_later x ys d) where
    by_place : (r : Ordering) → (Contains ys d → Contains (put_in c x ys) d) → Contains (match_ordering r (x ∷ y ∷ ys) (y ∷ ys) (y ∷ put_in c x ys)) d
    by_place Less again = has_later x (y ∷ ys) d has
    by_place Equal again = has
    by_place Greater again =
        elim (has_cases y ys d has) [
          | inl same ↦ subst (λ z. Contains (z ∷ put_in c x ys) d) (sym same) (has_first d (put_in c x ys))
          | inr later ↦ has_later y (put_in c x ys) d (again later)
        ]

  put_ties : (x : X) (ys : List X) → Ties (put_in c x ys) x
  put_ties x [] = record { other = x; there = has_first x []; ties = tied_itself o x }
  put_ties x (y ∷ ys) = by_place (c x y) refl (put_ties x ys) where
    by_place : (r : Ordering) → c x y ≡ r → Ties (put_in c x ys) x → Ties (match_ordering r (x ∷ y ∷ ys) (y ∷ ys) (y ∷ put_in c x ys)) x
    by_place Less is again = record { other = x; there = has_first x (y ∷ ys); ties = tied_itself o x }
    by_place Equal is again = record { other = y; there = has_first y ys; ties = is }
    by_place Greater is again = ties_later y (put_in c x ys) x again

  put_there : (x : X) (ys : List X) → NoneTies ys x → Contains (put_in c x ys) x
  put_there x [] none = has_first x []
  put_there x (y ∷ ys) none = by_place (c x y) refl (put_there x ys (λ z has. none z (has_later y ys z has))) where
    by_place : (r : Ordering) → c x y ≡ r → Contains (put_in c x ys) x → Contains (match_ordering r (x ∷ y ∷ ys) (y ∷ ys) (y ∷ put_in c x ys)) x
    by_place Less is again = has_first x (y ∷ ys)
    by_place Equal is again = absurd (none y (has_first y ys) is)
    by_place Greater is again = has_later y (put_in c x ys) x again

  -- what is there then was there, or it is this one, and none ties with it
  abbrev IsNew : List X → X → X → Type 0
  IsNew ys x d = (x ≡ d) × NoneTies ys x

  put_cases : (x : X) (ys : List X) (d : X) → IsStrictlySortedBy c ys → Contains (put_in c x ys) d → Contains ys d ⊎ IsNew ys x d
  put_cases x [] d rise has = elim (has_cases x [] d has) [ inl same ↦ inr (same, λ y there. absurd (has_none y there)) | inr none ↦ absurd (has_none d none) ]
  put_cases x (y ∷ ys) d rise has = by_place (c x y) refl (put_cases x ys d (rise_rest c y ys rise)) has where
    apart : c x y ≡ Less → NoneTies (y ∷ ys) x
    apart less z there ties =
        elim (has_cases y ys z there) [
          | inl same ↦ absurd (let both : Less ≡ Equal = sym less ∙ ap (c x) same ∙ ties in cc)
          | inr later ↦ absurd (let both : Less ≡ Equal = sym (o.trans x y z less (first_below c y ys z rise later)) ∙ ties in cc)
        ]

    apart_too : c x y ≡ Greater → NoneTies ys x → NoneTies (y ∷ ys) x
    apart_too greater none z there ties =
        elim (has_cases y ys z there) [
          | inl same ↦ absurd (let both : Greater ≡ Equal = sym greater ∙ ap (c x) same ∙ ties in cc)
          | inr later ↦ none z later ties
        ]

    by_place : (r : Ordering) → c x y ≡ r → (Contains (put_in c x ys) d → Contains ys d ⊎ IsNew ys x d) → Contains (match_ordering r (x ∷ y ∷ ys) (y ∷ ys) (y ∷ put_in c x ys)) d → Contains (y ∷ ys) d ⊎ IsNew (y ∷ ys) x d
    by_place Less is again has = elim (has_cases x (y ∷ ys) d has) [ inl same ↦ inr (same, apart is) | inr later ↦ inl later ]
    by_place Equal is again has = inl has
    by_place Greater is again has =
        elim (has_cases y (put_in c x ys) d has) [
          | inl same ↦ inl (subst (λ z. Contains (z ∷ ys) d) (sym same) (has_first d ys))
          | inr later ↦ elim (again later) [ inl there ↦ inl (has_later y ys d there) | inr new ↦ inr (new.0, apart_too is new.1) ]
        ]

  -- ---- all of a list

  pub rise_ties : (xs : List X) (x : X) → Contains xs x → Ties (in_rise c xs) x
  rise_ties [] x has = absurd (has_none x has)
  rise_ties (y ∷ ys) x has =
      elim (has_cases y ys x has) [
        | inl same ↦ subst (Ties (put_in c y (in_rise c ys))) same (put_ties y (in_rise c ys))
        | inr later ↦ (let t = rise_ties ys x later in record { other = t.other; there = put_later y (in_rise c ys) t.other t.there; ties = t.ties })
      ]

  -- ---- of a part of a list

  module _ {E : Type 0} (f : E → X) (fits : X → Bool) (stays : E → Bool) where
    abbrev whole : List E → List X
    whole es = filter fits (map f es)

    abbrev part : List E → List X
    part es = filter fits (map f (filter stays es))

    in_all : (es : List E) (x : X) → Contains (map f (filter stays es)) x → Contains (map f es) x
    in_all [] x has = has
    in_all (e ∷ es) x has = by_test (stays e) (in_all es x) has where
      by_test : (b : Bool) → (Contains (map f (filter stays es)) x → Contains (map f es) x) → Contains (map f (cond b (e ∷ filter stays es) (filter stays es))) x → Contains (f e ∷ map f es) x
      by_test true again at =
          elim (has_cases (f e) (map f (filter stays es)) x at) [
            | inl same ↦ subst (λ z. Contains (z ∷ map f es) x) (sym same) (has_first x (map f es))
            | inr later ↦ has_later (f e) (map f es) x (again later)
          ]
      by_test false again at = has_later (f e) (map f es) x (again at)

    pub in_whole : (es : List E) (x : X) → Contains (part es) x → Contains (whole es) x
    in_whole es x has = let both = has_kept fits (map f (filter stays es)) x has in keeps fits (map f es) x (in_all es x both.0) both.1

    -- who ties with none of those that are placed ties with none that is placed of the part
    none_in_part : (es : List E) (x : X) → NoneTies (in_rise c (whole es)) x → NoneTies (in_rise c (part es)) x
    none_in_part es x none y there ties =
        let t = rise_ties (whole es) y (in_whole es y (from_rise c o (part es) y there)) in
        none t.other t.there (o.congr x y t.other ties ∙ t.ties)

    abbrev StaysWith : X → List E → Type 0
    StaysWith d es = (e : E) → Contains es e → c (f e) d ≡ Equal → stays e ≡ true

    pub placed_in_part : (es : List E) (d : X) → StaysWith d es → Contains (in_rise c (whole es)) d → Contains (in_rise c (part es)) d
    placed_in_part [] d with_it has = has
    placed_in_part (e ∷ es) d with_it has = by_tests (placed_in_part es d (λ other there. with_it other (has_later e es other there))) (fits (f e)) refl (stays e) refl has where
      put_part : Contains (put_in c (f e) (in_rise c (part es))) d → fits (f e) ≡ true → Contains (in_rise c (cond (fits (f e)) (f e ∷ part es) (part es))) d
      put_part at fit = subst (λ b. Contains (in_rise c (cond b (f e ∷ part es) (part es))) d) (sym fit) at

      by_tests : (Contains (in_rise c (whole es)) d → Contains (in_rise c (part es)) d) → (fit : Bool) → fits (f e) ≡ fit → (stay : Bool) → stays e ≡ stay
          → Contains (in_rise c (cond fit (f e ∷ whole es) (whole es))) d → Contains (in_rise c (filter fits (map f (cond stay (e ∷ filter stays es) (filter stays es))))) d
      by_tests again false fit_is true stay_is at = subst (λ b. Contains (in_rise c (cond b (f e ∷ part es) (part es))) d) (sym fit_is) (again at)
      by_tests again false fit_is false stay_is at = again at
      by_tests again true fit_is true stay_is at =
          elim (put_cases (f e) (in_rise c (whole es)) d (in_rise_rises c o (whole es)) at) [
            | inl there ↦ put_part (put_later (f e) (in_rise c (part es)) d (again there)) fit_is
            | inr new ↦ put_part (subst (Contains (put_in c (f e) (in_rise c (part es)))) new.0 (put_there (f e) (in_rise c (part es)) (none_in_part es (f e) new.1))) fit_is
          ]
      by_tests again true fit_is false stay_is at =
          elim (put_cases (f e) (in_rise c (whole es)) d (in_rise_rises c o (whole es)) at) [
            | inl there ↦ again there
            | inr new ↦ absurd (let both : true ≡ false = sym (with_it e (has_first e es) (ap (c (f e)) (sym new.0) ∙ tied_itself o (f e))) ∙ stay_is in cc)
          ]
