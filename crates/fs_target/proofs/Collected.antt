-- Ids of collections that have those of targets among them.
use Rattle.std.proofs.Common.{◌≡◌, ℕ, Bool, true, false, ◌||◌, List, [], ◌∷◌, cond, map, Option, Some, None, refl, sym, ap, ◌∙◌, subst}
use Rattle.std.specs.Prelude.{IsTrue, String}
use Rattle.std.specs.BTreeSet.{UpdatesBy, contains_text}
use Rattle.std.specs.FinMap.{get}
use Rattle.std.specs.List.{AllByRecursion, list_any}
use Rattle.std.specs.Option.{option_map}
use Rattle.std.specs.Ordering.{eq_by_cmp, nat_cmp}
use Rattle.std.specs.Str.{bytes_eq}
use Rattle.std.specs.String.{string_bytes, string_cmp}
use Rattle.std.specs.declared.alloc.Global.{Global}
use Rattle.std.proofs.lemmas.Map.Text.{btree_set_updates_text}
use Rattle.fs_path.specs.NameOrder.{name_eq, name_is}
use Rattle.fs_path.specs.Scope.{collection_id}
use Rattle.fs_path.specs.TextOrder.{text_eq_equiv}
use Rattle.fs_path.specs.declared.name.DocName.{DocName}
use Rattle.fs_listen.specs.Listening.{Listened}
use Rattle.fs_listen.specs.View.{is_listened}
use Rattle.fs_query.specs.declared.target.Target.TheVariants as target
use Rattle.fs_target.specs.Collections.{AreKept, HasAll, HasThoseOf, Ids}
use Rattle.fs_target.specs.Entries.{found}
use Rattle.fs_target.specs.Held.{IsListenedByNone}
use Rattle.fs_target.specs.Prepared.{Prepared, held_in}
use Rattle.fs_target.specs.Seen.{Seen, seen}
use Rattle.fs_target.specs.Still.{as_awake}
use Rattle.fs_target.specs.declared.entry.Entry.{Entry}
use Rattle.fs_target.specs.declared.still.Still.{Still}
use Rattle.fs_target.proofs.Entries.{get_of}
use Rattle.fs_target.proofs.MayStand.{asked_same, target_same}

-- ---- one more id

put_true : (b had : Bool) → had ≡ true → cond b true had ≡ true
put_true true had is = refl
put_true false had is = is

module _ (old new : Ids) (id : String Global) (updates : UpdatesBy string_cmp (string_cmp id) old new true) where
  pub kept_put : AreKept old new
  kept_put t had = btree_set_updates_text (string_bytes id) old new true updates t ∙ put_true (bytes_eq (string_bytes id) t) _ had

  pub there_put : (t : List ℕ) → string_bytes id ≡ t → IsTrue (contains_text new t)
  there_put t is = btree_set_updates_text (string_bytes id) old new true updates t ∙ ap (λ b. cond b true (contains_text old t)) (ap (λ s. bytes_eq s t) is ∙ text_eq_equiv.refl t)

-- ---- those of a target

module _ (ids : Ids) where
  pub has_of_names : (names : List DocName) → AllByRecursion (λ name. IsTrue (contains_text ids (collection_id name))) names → HasThoseOf ids (target.Documents names)
  has_of_names names all d among = one names all among where
    one : (ns : List DocName) → AllByRecursion (λ name. IsTrue (contains_text ids (collection_id name))) ns → list_any (λ name. name_eq name d.name) ns ≡ true → IsTrue (contains_text ids (collection_id d.name))
    one [] all is = absurd (cc)
    one (n ∷ ns) all is = by_test (name_eq n d.name) refl (one ns all.1) is where
      by_test : (same : Bool) → name_eq n d.name ≡ same → (list_any (λ name. name_eq name d.name) ns ≡ true → IsTrue (contains_text ids (collection_id d.name)))
          → (same || list_any (λ name. name_eq name d.name) ns) ≡ true → IsTrue (contains_text ids (collection_id d.name))
      by_test true same rest is = subst (λ m. IsTrue (contains_text ids (collection_id m))) (name_is n d.name same) all.0
      by_test false same rest is = rest is

-- ---- those of all

module _ (ids : Ids) where
  -- those of a target that is found are there
  found_has : (id : ℕ) (ss : List Seen) (l : Listened) → HasAll ids ss → option_map (λ (s : Seen). s.listened) (found id ss) ≡ Some l → HasThoseOf ids l.target
  found_has id [] l all is = absurd (cc)
  found_has id (s ∷ ss) l all is = by_test (eq_by_cmp nat_cmp id s.id) (found_has id ss l all.1) is where
    by_test : (same : Bool) → (option_map (λ (t : Seen). t.listened) (found id ss) ≡ Some l → HasThoseOf ids l.target)
        → option_map (λ (t : Seen). t.listened) (cond same (Some s) (found id ss)) ≡ Some l → HasThoseOf ids l.target
    by_test true rest is = let same : s.listened ≡ l = cc in subst (λ (k : Listened). HasThoseOf ids k.target) same all.0
    by_test false rest is = rest is

  -- no target listens to a document whose collection isn't there
  pub none_listens : (name : DocName) (v : Prepared) → HasAll ids (map seen v.entries) → contains_text ids (collection_id name) ≡ false → IsListenedByNone name (held_in v)
  none_listens name v all none id l d at named = by_test (is_listened l.target d) refl where
    has : HasThoseOf ids l.target
    has = found_has id (map seen v.entries) l all (sym (get_of (λ (s : Seen). s.listened) id (map seen v.entries)) ∙ at)

    by_test : (b : Bool) → is_listened l.target d ≡ b → b ≡ false
    by_test true is = absurd (let both : true ≡ false = sym (has d is) ∙ ap (λ n. contains_text ids (collection_id n)) named ∙ none in cc)
    by_test false is = refl

-- entries whose targets stay
pub all_kept : (ids : Ids) (change : Entry → Seen) (es : List Entry) → ((e : Entry) → (change e).listened.target ≡ e.target) → HasAll ids (map seen es) → HasAll ids (map change es)
all_kept ids change [] same all = tt
all_kept ids change (e ∷ es) same all = (subst (HasThoseOf ids) (sym (same e)) all.0, all_kept ids change es same all.1)

-- what stands for the positions of targets changes none of them
pub none_shown : (name : DocName) (m : Prepared) (o : Option Still) → IsListenedByNone name (held_in m) → IsListenedByNone name (held_in (as_awake o m))
none_shown name m o none id l d at named =
    by_found (get (held_in m).listening.targets id) (λ k found. none id k d found named)
    (asked_same m (option_map (λ (k : Listened). k.target)) target_same o id ∙ ap (option_map (λ (k : Listened). k.target)) at)
  where
    by_found : (x : Option Listened) → ((k : Listened) → x ≡ Some k → is_listened k.target d ≡ false) → option_map (λ (k : Listened). k.target) x ≡ Some l.target → is_listened l.target d ≡ false
    by_found None none is = absurd (cc)
    by_found (Some k) none is = let same : k.target ≡ l.target = cc in ap (λ t. is_listened t d) (sym same) ∙ none k refl
