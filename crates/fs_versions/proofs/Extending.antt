-- Installing makes each name's chain longer by its change.
use Rattle.std.specs.Prelude.{◌≡◌, ℤ, IsTrue, Bool, true, false, cond, List, [], ◌∷◌, Option, Some, None, unwrap_or, refl}
use Rattle.std.proofs.Common.{sym, ap, ◌∙◌}
use Rattle.std.specs.Cmp.{first_so, second_so}
use Rattle.std.specs.FinMap.{FinMap, find, get, get-insert, insert, is_sorted}
use Rattle.std.specs.FinMap.Entries.{below_all}
use Rattle.std.specs.Ordering.{eq_by_cmp}
use Rattle.fs_path.specs.NameOrder.{name_cmp, name_cmp_total, name_is}
use Rattle.fs_path.specs.declared.name.DocName.{DocName}
use Rattle.fs_write.specs.Batch.{changes_by_name}
use Rattle.fs_write.specs.declared.change.Change.{Change}
use Rattle.fs_history.specs.declared.version.Version.{Version}
use Rattle.fs_history.proofs.Names.{none_below}
use Rattle.fs_versions.specs.Chain.{extended}
use Rattle.fs_versions.specs.Chains.{Chains, Installs, installed, with_changes}

module _ (time : ℤ) where
  abbrev pushed : FinMap name_cmp (List Version) → Change → List Version
  pushed m c = extended time (Some c) (unwrap_or (get m c.name) [])

  -- ---- at each name

  -- what stands at a name afterwards
  abbrev pub extended_at : Option Change → Option (List Version) → Option (List Version)
  extended_at None there = there
  extended_at (Some c) there = Some (extended time (Some c) (unwrap_or there []))

  get_one : (m : FinMap name_cmp (List Version)) (c : Change) (cs : List Change) (q : DocName) (b : Bool) → eq_by_cmp name_cmp q c.name ≡ b → find name_cmp c.name (changes_by_name cs) ≡ None
      → extended_at (find name_cmp q (changes_by_name cs)) (cond b (Some (pushed m c)) (get m q)) ≡ extended_at (cond b (Some c) (find name_cmp q (changes_by_name cs))) (get m q)
  get_one m c cs q true ties none =
      let same : q ≡ c.name = name_is q c.name ties in
      ap (λ o. extended_at o (Some (pushed m c))) (ap (λ n. find name_cmp n (changes_by_name cs)) same ∙ none)
      ∙ ap (λ n. Some (extended time (Some c) (unwrap_or (get m n) []))) (sym same)
  get_one m c cs q false ties none = refl

  pub get-with_changes : (m : FinMap name_cmp (List Version)) (cs : List Change) (q : DocName) → IsTrue (is_sorted name_cmp (changes_by_name cs))
      → get (with_changes m cs time) q ≡ extended_at (find name_cmp q (changes_by_name cs)) (get m q)
  get-with_changes m [] q rise = refl
  get-with_changes m (c ∷ cs) q rise =
      get-with_changes (insert m c.name (pushed m c)) cs q (second_so (below_all name_cmp c.name (changes_by_name cs)) _ rise)
      ∙ ap (extended_at (find name_cmp q (changes_by_name cs))) (get-insert name_cmp_total m c.name (pushed m c) q)
      ∙ get_one m c cs q (eq_by_cmp name_cmp q c.name) refl (none_below c.name (changes_by_name cs) (first_so _ (is_sorted name_cmp (changes_by_name cs)) rise))

  chain_at : (o : Option Change) (there : Option (List Version)) → unwrap_or (extended_at o there) [] ≡ extended time o (unwrap_or there [])
  chain_at None there = refl
  chain_at (Some c) there = refl

  pub installs : (v : Chains) (cs : List Change) → IsTrue (is_sorted name_cmp (changes_by_name cs)) → Installs v (installed v cs time) cs time
  installs v cs rise = record {
    floor = refl;
    last = refl;
    chains = λ q.
        ap (λ o. unwrap_or o []) (get-with_changes v.by_name cs q rise) ∙ chain_at (find name_cmp q (changes_by_name cs)) (get v.by_name q);
  }
