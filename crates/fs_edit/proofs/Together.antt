-- The changes of an array, carried out together: what a change makes of them that comes before.
use Rattle.std.proofs.Common.{◌≡◌, Bool, true, false, cond, not, List, [], ◌∷◌, ◌++◌, map, reverse, filter, refl, sym, ap, ◌∙◌}
use Rattle.std.specs.Prelude.{◌||◌, ◌&&◌}
use Rattle.std.specs.BTreeSet.{BTreeSet}
use Rattle.std.proofs.lemmas.Cmp.{eq_by_cmp_equiv}
use Rattle.std.proofs.lemmas.List.{append-nil, reverse-append, reverse-reverse, map-append}
use Rattle.std.proofs.lemmas.List.Elements.{filter-append}
use Rattle.std.proofs.lemmas.List.Folds.{list_any-append}
use Rattle.std.proofs.lemmas.Map.Steps.{list_any_congr}
use Rattle.fs_value.specs.Data.{Data}
use Rattle.fs_value.specs.ValueOrderLaws.{value_cmp_total}
use Rattle.fs_value.specs.View.{view}
use Rattle.fs_value.specs.declared.value.Value.{Value}
use Rattle.fs_value.specs.Elements.{array_contains, same}
use Rattle.fs_edit.specs.Arrays.{append_missing, remove_all}
use Rattle.fs_edit.specs.ArrayChanges.{elements_after, after_all}
use Rattle.fs_edit.specs.Closing.{HasExactly, Gains, stacked, together, TakesIn, AreTogether}
use Rattle.fs_edit.specs.declared.array_change.ArrayChange.{ArrayChange}
use Rattle.fs_edit.specs.declared.array_change.ArrayChange.TheVariants.{Append, Remove}
use Rattle.fs_edit.proofs.ValueSets.{exactly_more}

-- ---- appending twice, and taking out twice

append_missing-append : (there ds es : List Data) → append_missing there (ds ++ es) ≡ append_missing (append_missing there ds) es
append_missing-append there [] es = refl
append_missing-append there (d ∷ ds) es = append_missing-append (cond (array_contains there d) there (there ++ d ∷ [])) ds es

kept_twice : (a b : Bool) (d : Data) (rest : List Data) (p : Data → Bool) → p d ≡ not b → filter p (cond (not a) (d ∷ rest) rest) ≡ cond (not (b || a)) (d ∷ filter p rest) (filter p rest)
kept_twice true true d rest p is = refl
kept_twice true false d rest p is = refl
kept_twice false true d rest p is = ap (λ c. cond c (d ∷ filter p rest) (filter p rest)) is
kept_twice false false d rest p is = ap (λ c. cond c (d ∷ filter p rest) (filter p rest)) is

remove_all-remove_all : (there ds gone : List Data) → remove_all (remove_all there ds) gone ≡ remove_all there (gone ++ ds)
remove_all-remove_all [] ds gone = refl
remove_all-remove_all (d ∷ there) ds gone =
    kept_twice (array_contains ds d) (array_contains gone d) d (remove_all there ds) (λ x. not (array_contains gone x)) refl
    ∙ ap (λ b. cond (not b) (d ∷ remove_all (remove_all there ds) gone) (remove_all (remove_all there ds) gone)) (sym (list_any-append (same d) gone ds))
    ∙ ap (λ rest. cond (not (array_contains (gone ++ ds) d)) (d ∷ rest) rest) (remove_all-remove_all there ds gone)

-- ---- taking out after appending

has_cond : (b : Bool) (d x : Data) (rest : List Data) → array_contains (cond b (d ∷ rest) rest) x ≡ cond b (same x d || array_contains rest x) (array_contains rest x)
has_cond true d x rest = refl
has_cond false d x rest = refl

-- of one element: whether it is taken out, it is looked for, others are found, it would be taken out, and is left there
left_by : (g s h k r : Bool) → (s ≡ true → g ≡ k) → r ≡ (h && not k) → cond (not g) (s || r) r ≡ ((s || h) && not k)
left_by true true true true r f is = is
left_by true true false true r f is = is
left_by true true h false r f is = let e : true ≡ false = f refl in absurd (cc)
left_by true false h k r f is = is
left_by false true h true r f is = let e : false ≡ true = f refl in absurd (cc)
left_by false true h false r f is = refl
left_by false false h k r f is = is

-- a value is left where it was there and isn't taken out
array_contains-remove_all : (there gone : List Data) (x : Data) → array_contains (remove_all there gone) x ≡ (array_contains there x && not (array_contains gone x))
array_contains-remove_all [] gone x = refl
array_contains-remove_all (d ∷ there) gone x =
    has_cond (not (array_contains gone d)) d x (remove_all there gone)
    ∙ left_by (array_contains gone d) (same x d) (array_contains there x) (array_contains gone x) (array_contains (remove_all there gone) x)
    (λ e. sym (list_any_congr (eq_by_cmp_equiv value_cmp_total) x d gone e)) (array_contains-remove_all there gone x)

-- one value, which is there or not (`a`) and is taken out or not (`g`)
module _ (there gone ds : List Data) (d : Data) where
  left_one : (g : Bool) → array_contains gone d ≡ g → remove_all (there ++ d ∷ []) gone ≡ remove_all there gone ++ cond (not g) (d ∷ []) []
  left_one g goes = filter-append (λ x. not (array_contains gone x)) there (d ∷ []) ∙ ap (λ b. remove_all there gone ++ cond (not b) (d ∷ []) []) goes

  appended_by : (b : Bool) → array_contains (remove_all there gone) d ≡ b
      → append_missing (remove_all there gone) (d ∷ ds) ≡ append_missing (cond b (remove_all there gone) (remove_all there gone ++ d ∷ [])) ds
  appended_by b is = ap (λ c. append_missing (cond c (remove_all there gone) (remove_all there gone ++ d ∷ [])) ds) is

  one_after : (a g : Bool) → array_contains there d ≡ a → array_contains gone d ≡ g
      → append_missing (remove_all (cond a there (there ++ d ∷ [])) gone) ds ≡ append_missing (remove_all there gone) (cond (not g) (d ∷ ds) ds)
  one_after true true was goes = refl
  one_after true false was goes = sym (appended_by true (array_contains-remove_all there gone d ∙ (λ i. was i && not (goes i))))
  one_after false true was goes = ap (λ xs. append_missing xs ds) (left_one true goes ∙ append-nil (remove_all there gone))
  one_after false false was goes =
      ap (λ xs. append_missing xs ds) (left_one false goes) ∙ sym (appended_by false (array_contains-remove_all there gone d ∙ (λ i. was i && not (goes i))))

remove_all-append_missing : (there ds gone : List Data) → remove_all (append_missing there ds) gone ≡ append_missing (remove_all there gone) (remove_all ds gone)
remove_all-append_missing there [] gone = refl
remove_all-append_missing there (d ∷ ds) gone =
    remove_all-append_missing (cond (array_contains there d) there (there ++ d ∷ [])) ds gone
    ∙ one_after there gone (remove_all ds gone) d (array_contains there d) (array_contains gone d) refl refl

-- ---- one change more is taken in

pub takes_append : (ds : List Data) (set : BTreeSet Value) (kept given given' : List Data) → ((gone : List Data) → HasExactly set gone → kept ≡ remove_all ds gone) → given' ≡ kept ++ given
    → TakesIn (Append ds) set given set given'
takes_append ds set kept given given' without is gone has = (
  gone,
  has,
  λ there. ap (together there gone) (is ∙ ap (λ xs. xs ++ given) (without gone has))
      ∙ append_missing-append (remove_all there gone) (remove_all ds gone) given
      ∙ ap (λ xs. append_missing xs given) (sym (remove_all-append_missing there ds gone)),
)

pub takes_remove : (ds : List Data) (set set' : BTreeSet Value) (given : List Data) → Gains set set' ds → TakesIn (Remove ds) set given set' given
takes_remove ds set set' given gains gone has =
    (gone ++ ds, exactly_more set set' gone ds gains has, λ there. ap (λ xs. append_missing xs given) (sym (remove_all-remove_all there ds gone)))

pub stacked-append : (old : List Value) (vs : List Value) → stacked (old ++ reverse vs) ≡ map view vs ++ stacked old
stacked-append old vs =
    ap (map view) (reverse-append old (reverse vs) ∙ ap (λ xs. xs ++ reverse old) (reverse-reverse vs)) ∙ map-append view vs (reverse old)

-- ---- all changes, from the last to the first

pub after_all-push : (cs : List ArrayChange) (c : ArrayChange) (there : List Data) → after_all (cs ++ c ∷ []) there ≡ elements_after c (after_all cs there)
after_all-push [] c there = refl
after_all-push (x ∷ cs) c there = after_all-push cs c (elements_after x there)

-- all changes are those that are left, and then those that are together
abbrev pub Gathered : List ArrayChange → List ArrayChange → BTreeSet Value → List Data → Type 0
Gathered all left set given = (gone : List Data) × HasExactly set gone × ((there : List Data) → together (after_all left there) gone given ≡ after_all all there)

remove_all-nil : (there : List Data) → remove_all there [] ≡ there
remove_all-nil [] = refl
remove_all-nil (d ∷ there) = ap (λ ds. d ∷ ds) (remove_all-nil there)

-- none is together yet
pub none_gathered : (all : List ArrayChange) (set : BTreeSet Value) → HasExactly set [] → Gathered all all set []
none_gathered all set has = ([], has, λ there. remove_all-nil (after_all all there))

pub one_gathered : (all now left : List ArrayChange) (c : ArrayChange) (set set' : BTreeSet Value) (given given' : List Data) → now ≡ left ++ c ∷ [] → TakesIn c set given set' given'
    → Gathered all now set given → Gathered all left set' given'
one_gathered all now left c set set' given given' split takes (gone, has, so) =
    let taken = takes gone has in (
      taken.0,
      taken.1,
      λ there. taken.2 (after_all left there)
          ∙ ap (λ xs. together xs gone given) (sym (after_all-push left c there) ∙ ap (λ cs. after_all cs there) (sym split))
          ∙ so there,
    )

pub all_gathered : (all left : List ArrayChange) (set : BTreeSet Value) (given : List Data) → left ≡ [] → Gathered all left set given → AreTogether all set given
all_gathered all left set given none (gone, has, so) = (gone, has, λ there. ap (λ cs. together (after_all cs there) gone given) (sym none) ∙ so there)

-- the elements that are closed
pub closed : (changes : List ArrayChange) (set : BTreeSet Value) (there kept given vs : List Data) → AreTogether changes set given → ((gone : List Data) → HasExactly set gone → kept ≡ remove_all there gone)
    → vs ≡ append_missing kept given → vs ≡ after_all changes there
closed changes set there kept given vs (gone, has, so) without is = is ∙ ap (λ xs. append_missing xs given) (without gone has) ∙ so there
