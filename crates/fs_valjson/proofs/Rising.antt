-- An object's keys rise, so fields that are pushed in their order rise too.
use Rattle.std.proofs.Common.{◌≡◌, ℕ, List, [], ◌∷◌, ◌++◌, map, String, Global, true, Less, string_bytes, string_cmp, refl, sym, ◌∙◌}
use mathlib.Core.List.{map-append}
use Rattle.std.specs.FinMap.{is_sorted}
use Rattle.std.specs.FinMap.Entries.{below_all}
use Rattle.std.specs.List.{AllByRecursion}
use Rattle.std.specs.List.Sorted.{IsStrictlySortedBy}
use Rattle.std.specs.Map.{keys_of}
use Rattle.serde_json.proofs.Views.{Entry}
use Rattle.fs_path.specs.TextOrder.{text_cmp}
use Rattle.fs_value.specs.Data.{Data}

below_front : (k : List ℕ) (s : String Global) (fs : List (List ℕ × Data)) (es left : List Entry) → k ≡ string_bytes s
    → map (λ f. f.0) fs ≡ map (λ e. string_bytes e.0) es → AllByRecursion (λ y. string_cmp s y ≡ Less) (keys_of (es ++ left)) → below_all text_cmp k fs ≡ true
below_front k s [] es left same keys all = refl
below_front k s (f ∷ fs) [] left same keys all = cc
below_front k s (f ∷ fs) (e ∷ es) left same keys all =
    let head : f.0 ≡ string_bytes e.0 = cc in
    let rest : map (λ f. f.0) fs ≡ map (λ e. string_bytes e.0) es = cc in
    let less : text_cmp k f.0 ≡ Less = rw (same, head) all.0 in
    rw less (below_front k s fs es left same rest all.1)

pub rising_front : (fs : List (List ℕ × Data)) (es left : List Entry) → map (λ f. f.0) fs ≡ map (λ e. string_bytes e.0) es
    → IsStrictlySortedBy string_cmp (keys_of (es ++ left)) → is_sorted text_cmp fs ≡ true
unfolding IsStrictlySortedBy
rising_front [] es left keys sorted = refl
rising_front (f ∷ fs) [] left keys sorted = cc
rising_front (f ∷ fs) (e ∷ es) left keys sorted =
    let head : f.0 ≡ string_bytes e.0 = cc in
    let rest : map (λ f. f.0) fs ≡ map (λ e. string_bytes e.0) es = cc in
    rw (below_front f.0 e.0 fs es left head rest sorted.0) (rising_front fs es left rest sorted.1)

-- the keys of one more field are those of one more member
pub one_more_key : (fs : List (List ℕ × Data)) (es : List Entry) (k : List ℕ) (d : Data) (e : Entry) → map (λ f. f.0) fs ≡ map (λ x. string_bytes x.0) es
    → k ≡ string_bytes e.0 → map (λ f. f.0) (fs ++ (k, d) ∷ []) ≡ map (λ x. string_bytes x.0) (es ++ e ∷ [])
one_more_key fs es k d e keys named =
    map-append (λ f. f.0) fs ((k, d) ∷ []) ∙ rw (keys, named) refl ∙ sym (map-append (λ x. string_bytes x.0) es (e ∷ []))
