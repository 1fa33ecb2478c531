-- Targets that aren't loaded have empty views, of which nothing is told.
use Rattle.std.proofs.Common.{◌≡◌, ℕ, ℤ, Bool, false, cond, not, ◌&&◌, ◌||◌, List, [], ◌∷◌, ◌++◌, map, Option, Some, None, refl, ap, ◌∙◌}
use Rattle.std.specs.Prelude.{is_some}
use Rattle.std.specs.FinMap.{empty, entries, from_entries, get, get-empty, keys}
use Rattle.std.specs.List.{filter, filter_map, flat_map, list_any}
use Rattle.fs_path.specs.NameOrder.{name_cmp, name_cmp_total}
use Rattle.fs_path.specs.declared.name.DocName.{DocName}
use Rattle.fs_value.specs.declared.document.Document.{Document}
use Rattle.fs_value.proofs.Tree.{entries_rising}
use Rattle.fs_query.specs.declared.listen.ListenMessage.TheVariants as message
use Rattle.fs_listen.specs.Told.{Views, gone_from, having, is_differing, leaving, names_of, same_there, shown_in, told, told_of}

-- the views of a target at its id, if it is loaded
abbrev pub or_empty : ℕ → Option Views → Views
or_empty id None = record { id = id; sent = empty; new = empty }
or_empty id (Some v) = v

-- those of all targets, and of those that are loaded
abbrev pub all_of : List (ℕ × Option Views) → List Views
all_of xs = map (λ (x : ℕ × Option Views). or_empty x.0 x.1) xs

abbrev pub loaded_of : List (ℕ × Option Views) → List Views
loaded_of xs = filter_map (λ (x : ℕ × Option Views). x.1) xs

-- ---- what empty views don't count in

filter_loaded : (p : Views → Bool) → ((id : ℕ) → p (or_empty id None) ≡ false) → (xs : List (ℕ × Option Views)) → filter p (all_of xs) ≡ filter p (loaded_of xs)
filter_loaded p none [] = refl
filter_loaded p none ((id, None) ∷ xs) =
    ap (λ b. cond b (or_empty id None ∷ filter p (all_of xs)) (filter p (all_of xs))) (none id) ∙ filter_loaded p none xs
filter_loaded p none ((id, Some v) ∷ xs) = ap (λ vs. cond (p v) (v ∷ vs) vs) (filter_loaded p none xs)

any_loaded : (p : Views → Bool) → ((id : ℕ) → p (or_empty id None) ≡ false) → (xs : List (ℕ × Option Views)) → list_any p (all_of xs) ≡ list_any p (loaded_of xs)
any_loaded p none [] = refl
any_loaded p none ((id, None) ∷ xs) = ap (λ b. b || list_any p (all_of xs)) (none id) ∙ any_loaded p none xs
any_loaded p none ((id, Some v) ∷ xs) = ap (λ b. p v || b) (any_loaded p none xs)

parts_loaded : {X : Type 0} (f : Views → List X) → ((id : ℕ) → f (or_empty id None) ≡ []) → (xs : List (ℕ × Option Views))
    → flat_map f (all_of xs) ≡ flat_map f (loaded_of xs)
parts_loaded f none [] = refl
parts_loaded f none ((id, None) ∷ xs) = ap (λ ys. ys ++ flat_map f (all_of xs)) (none id) ∙ parts_loaded f none xs
parts_loaded f none ((id, Some v) ∷ xs) = ap (λ ys. f v ++ ys) (parts_loaded f none xs)

-- ---- at a name

module _ (name : DocName) where
  none_there : get (empty {X = Document} {R = name_cmp}) name ≡ None
  none_there = get-empty name_cmp name

  having_loaded : (xs : List (ℕ × Option Views)) → having name (all_of xs) ≡ having name (loaded_of xs)
  having_loaded xs =
      ap (map (λ (v : Views). v.id)) (filter_loaded (λ (v : Views). is_some (get v.new name)) (λ id. ap is_some none_there) xs)

  leaving_loaded : (xs : List (ℕ × Option Views)) → leaving name (all_of xs) ≡ leaving name (loaded_of xs)
  leaving_loaded xs =
      ap (map (λ (v : Views). v.id))
      (filter_loaded (λ (v : Views). is_some (get v.sent name) && not (is_some (get v.new name)))
      (λ id. ap (λ o. is_some o && not (is_some (get (empty {X = Document} {R = name_cmp}) name))) none_there) xs)

  differing_loaded : (xs : List (ℕ × Option Views)) → is_differing name (all_of xs) ≡ is_differing name (loaded_of xs)
  differing_loaded xs =
      any_loaded (λ (v : Views). not (same_there (get v.sent name) (get v.new name))) (λ id. ap (λ o. not (same_there o o)) none_there) xs

  shown_loaded : (xs : List (ℕ × Option Views)) → shown_in name (all_of xs) ≡ shown_in name (loaded_of xs)
  shown_loaded [] = refl
  shown_loaded ((id, None) ∷ xs) = ap (λ o. cond (is_some o) o (shown_in name (all_of xs))) none_there ∙ shown_loaded xs
  shown_loaded ((id, Some v) ∷ xs) = ap (λ o. cond (is_some (get v.new name)) (get v.new name) o) (shown_loaded xs)

  told_by : (stands : Bool) (time : ℤ) (o : Option Document) (xs : List (ℕ × Option Views)) → told_of stands time name o (all_of xs) ≡ told_of stands time name o (loaded_of xs)
  told_by stands time None xs = ap (gone_from stands time name) (leaving_loaded xs)
  told_by stands time (Some d) xs = λ i. cond (differing_loaded xs i) (message.Changed d (having_loaded xs i) (leaving_loaded xs i) ∷ []) []

  told_there : (stands : Bool) (time : ℤ) (xs : List (ℕ × Option Views))
      → told_of stands time name (shown_in name (all_of xs)) (all_of xs) ≡ told_of stands time name (shown_in name (loaded_of xs)) (loaded_of xs)
  told_there stands time xs =
      ap (λ o. told_of stands time name o (all_of xs)) (shown_loaded xs) ∙ told_by stands time (shown_in name (loaded_of xs)) xs

-- ---- of all names

no_entries : entries (empty {X = Document} {R = name_cmp}) ≡ []
no_entries = entries_rising name_cmp_total [] refl

names_loaded : (xs : List (ℕ × Option Views)) → names_of (all_of xs) ≡ names_of (loaded_of xs)
names_loaded xs =
    let olds = parts_loaded (λ (v : Views). entries v.sent) (λ id. no_entries) xs in
    let news = parts_loaded (λ (v : Views). entries v.new) (λ id. no_entries) xs in
    λ i. keys {R = name_cmp} (from_entries (olds i ++ news i))

pub told_loaded : (stands : DocName → Bool) (time : ℤ) (xs : List (ℕ × Option Views)) → told stands time (all_of xs) ≡ told stands time (loaded_of xs)
told_loaded stands time xs = λ i. flat_map (λ name. told_there name (stands name) time xs i) (names_loaded xs i)
