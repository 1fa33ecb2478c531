-- What a map with texts as keys has after one of them has changed.
use Rattle.std.proofs.Common.{◌≡◌, ℕ, Bool, true, false, cond, List, [], Option, Some, refl, sym, ap, ◌∙◌}
use Rattle.std.specs.Prelude.{◌==◌, ◌&&◌, ◌||◌, String, not, unwrap_or}
use Rattle.std.specs.BTreeMap as tree
use Rattle.std.specs.BTreeMap.{BTreeMap, get_by_text}
use Rattle.std.specs.Cmp.Lexicographic.{slice_cmp}
use Rattle.std.specs.Option.{option_map_or}
use Rattle.std.specs.Ordering.{nat_cmp}
use Rattle.std.specs.String.{string_bytes, string_cmp}
use Rattle.std.specs.declared.alloc.Global.{Global}
use Rattle.std.proofs.lemmas.Map.Text.{btree_map_updates_text}
use Rattle.fs_path.specs.TextOrder.{text_eq, text_is}
use Rattle.std.proofs.Math.Bool.{and_assoc}
use Rattle.fs_locks.specs.Paths.{path_eq}
use Rattle.fs_locks.specs.Spots.{ids_under, under}
use Rattle.fs_locks.specs.Tree.{has}
use Rattle.fs_locks.specs.declared.parents.Parents.{Parents}

-- the map has this at a text, and what it had at the others
abbrev pub TextPuts : {X : Type 0} → BTreeMap (String Global) X → BTreeMap (String Global) X → List ℕ → Option X → Type 0
TextPuts old new text w = (t : List ℕ) → get_by_text new t ≡ cond (text_eq text t) w (get_by_text old t)

pub puts_key : {X : Type 0} (key : String Global) (text : List ℕ) (old new : BTreeMap (String Global) X) (w : Option X) → string_bytes key ≡ text → tree.UpdatesBy string_cmp (string_cmp key) old new w → TextPuts old new text w
puts_key key text old new w is updates t =
    btree_map_updates_text (string_bytes key) old new w updates t ∙ ap (λ (bs : List ℕ). cond (text_eq bs t) w (get_by_text old t)) is

pub puts_text : {X : Type 0} (text : List ℕ) (old new : BTreeMap (String Global) X) (w : Option X) → tree.UpdatesBy string_cmp (λ k. slice_cmp nat_cmp text (string_bytes k)) old new w → TextPuts old new text w
puts_text text old new w updates t = btree_map_updates_text text old new w updates t

-- twice changed is once
pub puts_twice : {X : Type 0} (old mid new : BTreeMap (String Global) X) (text : List ℕ) (v w : Option X) → TextPuts old mid text v → TextPuts mid new text w → TextPuts old new text w
puts_twice old mid new text v w first second t = second t ∙ ap (cond (text_eq text t) w) (first t) ∙ at (text_eq text t)
  where
    at : (b : Bool) → cond b w (cond b v (get_by_text old t)) ≡ cond b w (get_by_text old t)
    at true = refl
    at false = refl

-- ---- what is read of it

module _ {X : Type 0} (read : Option X → Bool) (b : Bool) (old new : BTreeMap (String Global) X) (text : List ℕ) (w : Option X) (puts : TextPuts old new text w) where
  pub more_at : read w ≡ (b || read (get_by_text old text)) → (t : List ℕ) → read (get_by_text new t) ≡ ((text_eq text t && b) || read (get_by_text old t))
  more_at more t = ap read (puts t) ∙ at (text_eq text t) refl
    where
      at : (c : Bool) → text_eq text t ≡ c → read (cond c w (get_by_text old t)) ≡ ((c && b) || read (get_by_text old t))
      at true ties = more ∙ ap (λ (s : List ℕ). b || read (get_by_text old s)) (text_is text t ties)
      at false ties = refl

  pub less_at : read w ≡ (not b && read (get_by_text old text)) → (t : List ℕ) → read (get_by_text new t) ≡ (not (text_eq text t && b) && read (get_by_text old t))
  less_at less t = ap read (puts t) ∙ at (text_eq text t) refl
    where
      at : (c : Bool) → text_eq text t ≡ c → read (cond c w (get_by_text old t)) ≡ (not (c && b) && read (get_by_text old t))
      at true ties = less ∙ ap (λ (s : List ℕ). not b && read (get_by_text old s)) (text_is text t ties)
      at false ties = refl

module _ {X : Type 0} (read : Option X → Bool) (old new : BTreeMap (String Global) X) (text : List ℕ) (w : Option X) (puts : TextPuts old new text w) where
  pub same_at : read w ≡ read (get_by_text old text) → (t : List ℕ) → read (get_by_text new t) ≡ read (get_by_text old t)
  same_at same t = ap read (puts t) ∙ at (text_eq text t) refl
    where
      at : (c : Bool) → text_eq text t ≡ c → read (cond c w (get_by_text old t)) ≡ read (get_by_text old t)
      at true ties = same ∙ ap (λ (s : List ℕ). read (get_by_text old s)) (text_is text t ties)
      at false ties = refl

-- ---- who holds something below a path

module _ (old new : BTreeMap (String Global) (List ℕ)) (path : List ℕ) (id : ℕ) where
  pub ids_more : (ids : List ℕ) → TextPuts old new path (Some ids) → ((i : ℕ) → has i ids ≡ (i == id || has i (ids_under old path))) → (i : ℕ) (t : List ℕ)
      → has i (ids_under new t) ≡ ((text_eq path t && i == id) || has i (ids_under old t))
  ids_more ids puts more i t = more_at (λ o. has i (unwrap_or o [])) (i == id) old new path (Some ids) puts (more i) t

  pub ids_less : (there : Option (List ℕ)) → TextPuts old new path there → ((i : ℕ) → has i (unwrap_or there []) ≡ (not (i == id) && has i (ids_under old path))) → (i : ℕ) (t : List ℕ)
      → has i (ids_under new t) ≡ (not (text_eq path t && i == id) && has i (ids_under old t))
  ids_less there puts less i t = less_at (λ o. has i (unwrap_or o [])) (i == id) old new path there puts (less i) t

  pub ids_same : (ids : List ℕ) → TextPuts old new path (Some ids) → ids ≡ ids_under old path → (i : ℕ) (t : List ℕ) → has i (ids_under new t) ≡ has i (ids_under old t)
  ids_same ids puts same i t = same_at (λ o. has i (unwrap_or o [])) old new path (Some ids) puts (ap (has i) same) t

-- ---- who holds the scopes with an id

abbrev pub below : ℕ → Option (List ℕ) → Option Parents → Bool
below i path o = option_map_or (λ parents. has i (under parents path)) o false

module _ (old new : BTreeMap (String Global) Parents) (name : List ℕ) (path : Option (List ℕ)) (id : ℕ) where
  pub scopes_more : (parents : Parents) → TextPuts old new name (Some parents)
      → ((i : ℕ) (t : Option (List ℕ)) → has i (under parents t) ≡ ((path_eq path t && i == id) || below i t (get_by_text old name))) → (x : List ℕ) (t : Option (List ℕ)) (i : ℕ)
      → below i t (get_by_text new x) ≡ (((text_eq name x && path_eq path t) && i == id) || below i t (get_by_text old x))
  scopes_more parents puts more x t i =
      more_at (below i t) (path_eq path t && i == id) old new name (Some parents) puts (more i t) x
      ∙ ap (λ b. b || below i t (get_by_text old x)) (sym (and_assoc (text_eq name x) (path_eq path t) (i == id)))

  pub scopes_less : (there : Option Parents) → TextPuts old new name there
      → ((i : ℕ) (t : Option (List ℕ)) → below i t there ≡ (not (path_eq path t && i == id) && below i t (get_by_text old name))) → (x : List ℕ) (t : Option (List ℕ)) (i : ℕ)
      → below i t (get_by_text new x) ≡ (not ((text_eq name x && path_eq path t) && i == id) && below i t (get_by_text old x))
  scopes_less there puts less x t i =
      less_at (below i t) (path_eq path t && i == id) old new name there puts (less i t) x
      ∙ ap (λ b. not b && below i t (get_by_text old x)) (sym (and_assoc (text_eq name x) (path_eq path t) (i == id)))

  pub scopes_same : (parents : Parents) → TextPuts old new name (Some parents) → ((i : ℕ) (t : Option (List ℕ)) → has i (under parents t) ≡ below i t (get_by_text old name)) → (x : List ℕ) (t : Option (List ℕ)) (i : ℕ)
      → below i t (get_by_text new x) ≡ below i t (get_by_text old x)
  scopes_same parents puts same x t i = same_at (below i t) old new name (Some parents) puts (same i t) x
