-- What is kept, target by target, after what happens to all of them.
use Rattle.std.proofs.Common.{◌≡◌, ℕ, Bool, true, false, cond, List, [], ◌∷◌, map, Option, Some, refl, sym, ap, ◌∙◌}
use Rattle.std.specs.FinMap.{FinMap, entries, find, get, get-entries, get-from_entries}
use Rattle.std.specs.Option.{option_map}
use Rattle.std.specs.Ordering.{eq_by_cmp, nat_cmp}
use Rattle.std.proofs.lemmas.Cmp.{nat_cmp_total}
use Rattle.fs_listen.proofs.Listed.{number_is}
use Rattle.fs_target.specs.Held.{each_kept}
use Rattle.fs_target.specs.Kept.{Kept}

find_each : (change : ℕ → Option Kept → Option Kept) (id : ℕ) (es : List (ℕ × Option Kept))
    → find nat_cmp id (map (λ (e : ℕ × Option Kept). (e.0, change e.0 e.1)) es) ≡ option_map (change id) (find nat_cmp id es)
find_each change id [] = refl
find_each change id (e ∷ es) = by_test (find_each change id es) (eq_by_cmp nat_cmp id e.0) refl where
  by_test : find nat_cmp id (map (λ (d : ℕ × Option Kept). (d.0, change d.0 d.1)) es) ≡ option_map (change id) (find nat_cmp id es) → (same : Bool) → eq_by_cmp nat_cmp id e.0 ≡ same
      → cond same (Some (change e.0 e.1)) (find nat_cmp id (map (λ (d : ℕ × Option Kept). (d.0, change d.0 d.1)) es)) ≡ option_map (change id) (cond same (Some e.1) (find nat_cmp id es))
  by_test rest true is = ap (λ k. Some (change k e.1)) (sym (number_is id e.0 is))
  by_test rest false is = rest

pub get-each_kept : (change : ℕ → Option Kept → Option Kept) (ks : FinMap nat_cmp (Option Kept)) (id : ℕ) → get (each_kept change ks) id ≡ option_map (change id) (get ks id)
get-each_kept change ks id =
    get-from_entries nat_cmp_total (map (λ (e : ℕ × Option Kept). (e.0, change e.0 e.1)) (entries ks)) id
    ∙ find_each change id (entries ks)
    ∙ ap (option_map (change id)) (sym (get-entries ks id))
