-- The targets of a session after what happens to them.
use Rattle.std.proofs.Common.{◌≡◌, ℕ, Bool, true, false, cond, List, [], ◌∷◌, map, Option, Some, None, refl, sym, ap, ◌∙◌}
use Rattle.std.specs.FinMap.{find, get, entries, get-entries, get-from_entries}
use Rattle.std.specs.Ordering.{eq_by_cmp, nat_cmp}
use Rattle.std.specs.Option.{option_map}
use Rattle.std.proofs.lemmas.Cmp.{nat_cmp_total}
use Rattle.fs_listen.specs.Listening.{Listened, Listening, each}

find_each : (change : Listened → Listened) (id : ℕ) (es : List (ℕ × Listened))
    → find nat_cmp id (map (λ e. (e.0, change e.1)) es) ≡ option_map change (find nat_cmp id es)
find_each change id [] = refl
find_each change id (e ∷ es) = by_test (find_each change id es) (eq_by_cmp nat_cmp id e.0) where
  by_test : find nat_cmp id (map (λ d. (d.0, change d.1)) es) ≡ option_map change (find nat_cmp id es) → (same : Bool) → cond same (Some (change e.1)) (find nat_cmp id (map (λ d. (d.0, change d.1)) es)) ≡ option_map change (cond same (Some e.1) (find nat_cmp id es))
  by_test rest true = refl
  by_test rest false = rest

-- each target that there is then was there, and was this
pub get_each : (change : Listened → Listened) (s : Listening) (id : ℕ) → get (each change s).targets id ≡ option_map change (get s.targets id)
get_each change s id =
    get-from_entries nat_cmp_total (map (λ e. (e.0, change e.1)) (entries s.targets)) id
    ∙ find_each change id (entries s.targets)
    ∙ ap (option_map change) (sym (get-entries s.targets id))

pub from_each : (change : Listened → Listened) (o : Option Listened) (l : Listened) → option_map change o ≡ Some l → (k : Listened) × (o ≡ Some k) × (change k ≡ l)
from_each change None l is = absurd (cc)
from_each change (Some k) l is = (k, refl, same (change k) l is) where
  same : (a b : Listened) → Some a ≡ Some b → a ≡ b
  same a b e = cc
