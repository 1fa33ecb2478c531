-- A tree whose values are seen by a function, as what is lent is seen by what it points to.
use Rattle.std.proofs.Common.{◌≡◌, Bool, true, false, cond, List, [], ◌∷◌, map, Option, Some, refl, sym, ap, ◌∙◌}
use Rattle.std.specs.BTreeMap.{is_at}
use Rattle.std.specs.FinMap.{FinMap, find, from_entries, get, get-from_entries, get-insert, insert, same_map}
use Rattle.std.specs.Map.{lookup}
use Rattle.std.specs.Option.{option_map}
use Rattle.std.specs.Ordering.{eq_by_cmp}
use Rattle.std.proofs.lemmas.Cmp.{eq_by_cmp_equiv}
use Rattle.fs_path.specs.NameOrder.{name_cmp, name_cmp_total, name_same}
use Rattle.fs_path.specs.declared.name.DocName.{DocName}

module _ {X Y : Type 0} (see : X → Y) where
  abbrev pub seen : List (DocName × X) → FinMap name_cmp Y
  seen es = from_entries (map (λ (e : DocName × X). (e.0, see e.1)) es)

  see_there : (b : Bool) (x : X) (there : Option X) → option_map see (cond b (Some x) there) ≡ cond b (Some (see x)) (option_map see there)
  see_there true x there = refl
  see_there false x there = refl

  find_seen : (es : List (DocName × X)) (name : DocName) → find name_cmp name (map (λ (e : DocName × X). (e.0, see e.1)) es) ≡ option_map see (lookup (is_at (name_cmp name)) es)
  find_seen [] name = refl
  find_seen (e ∷ es) name =
      ap (cond (eq_by_cmp name_cmp name e.0) (Some (see e.1))) (find_seen es name) ∙ sym (see_there (eq_by_cmp name_cmp name e.0) e.1 (lookup (is_at (name_cmp name)) es))

  pub get-seen : (es : List (DocName × X)) (name : DocName) → get (seen es) name ≡ option_map see (lookup (is_at (name_cmp name)) es)
  get-seen es name = get-from_entries name_cmp_total (map (λ (e : DocName × X). (e.0, see e.1)) es) name ∙ find_seen es name

  pub seen_insert : (es fs : List (DocName × X)) (k : DocName) (x : X)
      → ((q : DocName) → lookup (is_at (name_cmp q)) fs ≡ cond (is_at (name_cmp k) q) (Some x) (lookup (is_at (name_cmp q)) es)) → seen fs ≡ insert (seen es) k (see x)
  seen_insert es fs k x is =
      same_map name_cmp_total name_same (seen fs) (insert (seen es) k (see x))
      (λ q. get-seen fs q
      ∙ ap (option_map see) (is q)
      ∙ see_there (is_at (name_cmp k) q) x (lookup (is_at (name_cmp q)) es)
      ∙ ap (cond (is_at (name_cmp k) q) (Some (see x))) (sym (get-seen es q))
      ∙ ap (λ b. cond b (Some (see x)) (get (seen es) q)) ((eq_by_cmp_equiv name_cmp_total).symm k q)
      ∙ sym (get-insert name_cmp_total (seen es) k (see x) q))
