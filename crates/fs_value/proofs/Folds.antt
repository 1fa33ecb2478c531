-- One more element, or one more field: its depth and its size join those before it.
use Rattle.std.proofs.Common.{◌≡◌, ℕ, ◌+◌, ◌<◌, List, [], ◌∷◌, ◌++◌, map, take, length, get_or, sym, ap, ◌∙◌, arith}
use Rattle.std.specs.Prelude.{max, min}
use Rattle.std.proofs.lemmas.List.{map_more}
use Rattle.fs_value.specs.Data.{Data, items_of, members_of, depth, items_depth, members_depth}
use Rattle.fs_value.specs.Size.{text_size, value_size, items_size, members_size}
use Rattle.fs_value.specs.View.{view, field_view}
use Rattle.fs_value.specs.declared.value.Value.{Value}
use Rattle.fs_value.specs.declared.fields.Field.{Field}

-- ---- one more of a list, seen

pub one_value : (vs : List Value) (i : ℕ) (v : Value) → i < length vs → v ≡ get_or vs i v → map view (take (i + 1) vs) ≡ map view (take i vs) ++ view v ∷ []
one_value vs i v within is = map_more view vs i v within ∙ ap (λ w. map view (take i vs) ++ view w ∷ []) (sym is)

pub one_field : (fs : List Field) (i : ℕ) (f : Field) → i < length fs → f ≡ get_or fs i f → map field_view (take (i + 1) fs) ≡ map field_view (take i fs) ++ field_view f ∷ []
one_field fs i f within is = map_more field_view fs i f within ∙ ap (λ g. map field_view (take i fs) ++ field_view g ∷ []) (sym is)

-- ---- depth

items_depth-push : (ds : List Data) (d : Data) → items_depth (items_of (ds ++ d ∷ [])) ≡ max (items_depth (items_of ds)) (depth d)
items_depth-push [] d = omega arith
items_depth-push (e ∷ ds) d = omega (arith, items_depth-push ds d)

members_depth-push : (fs : List (List ℕ × Data)) (f : List ℕ × Data) → members_depth (members_of (fs ++ f ∷ [])) ≡ max (members_depth (members_of fs)) (depth f.1)
members_depth-push [] f = omega arith
members_depth-push (e ∷ fs) f = omega (arith, members_depth-push fs f)

-- ---- size

items_size-push : (ds : List Data) (d : Data) → items_size (items_of (ds ++ d ∷ [])) ≡ items_size (items_of ds) + value_size d
items_size-push [] d = omega arith
items_size-push (e ∷ ds) d = omega (arith, items_size-push ds d)

members_size-push : (fs : List (List ℕ × Data)) (f : List ℕ × Data) → members_size (members_of (fs ++ f ∷ [])) ≡ members_size (members_of fs) + (text_size f.0 + value_size f.1)
members_size-push [] f = omega arith
members_size-push (e ∷ fs) f = omega (arith, members_size-push fs f)

-- ---- one more step of a loop over a slice, from what it had and what the call of the element gave

module _ (vs : List Value) (i : ℕ) (v : Value) (within : i < length vs) (is : v ≡ get_or vs i v) where
  pub items_depth_more : (before one told : ℕ) → before ≡ min (items_depth (items_of (map view (take i vs)))) 4294967295 → one ≡ min (depth (view v)) 4294967295 → told ≡ max one before
      → told ≡ min (items_depth (items_of (map view (take (i + 1) vs)))) 4294967295
  items_depth_more before one told h j k =
      let now = ap (λ ds. items_depth (items_of ds)) (one_value vs i v within is) ∙ items_depth-push (map view (take i vs)) (view v) in
      omega (arith, now)

  pub items_size_more : (before one told : ℕ) → before ≡ min (items_size (items_of (map view (take i vs)))) 340282366920938463463374607431768211455 → one ≡ min (value_size (view v)) 340282366920938463463374607431768211455
      → told ≡ min (before + one) 340282366920938463463374607431768211455 → told ≡ min (items_size (items_of (map view (take (i + 1) vs)))) 340282366920938463463374607431768211455
  items_size_more before one told h j k =
      let now = ap (λ ds. items_size (items_of ds)) (one_value vs i v within is) ∙ items_size-push (map view (take i vs)) (view v) in
      omega (arith, now)

module _ (fs : List Field) (i : ℕ) (f : Field) (within : i < length fs) (is : f ≡ get_or fs i f) where
  pub members_depth_more : (before one told : ℕ) → before ≡ min (members_depth (members_of (map field_view (take i fs)))) 4294967295 → one ≡ min (depth (view f.value)) 4294967295 → told ≡ max one before
      → told ≡ min (members_depth (members_of (map field_view (take (i + 1) fs)))) 4294967295
  members_depth_more before one told h j k =
      let now = ap (λ ds. members_depth (members_of ds)) (one_field fs i f within is) ∙ members_depth-push (map field_view (take i fs)) (field_view f) in
      omega (arith, now)

  pub members_size_more : (before key keyed one told : ℕ) → before ≡ min (members_size (members_of (map field_view (take i fs)))) 340282366920938463463374607431768211455 → key ≡ text_size f.key → keyed ≡ min (before + key) 340282366920938463463374607431768211455 → one ≡ min (value_size (view f.value)) 340282366920938463463374607431768211455
      → told ≡ min (keyed + one) 340282366920938463463374607431768211455 → told ≡ min (members_size (members_of (map field_view (take (i + 1) fs)))) 340282366920938463463374607431768211455
  members_size_more before key keyed one told h j k l m =
      let now = ap (λ ds. members_size (members_of ds)) (one_field fs i f within is) ∙ members_size-push (map field_view (take i fs)) (field_view f) in
      omega (arith, now)
