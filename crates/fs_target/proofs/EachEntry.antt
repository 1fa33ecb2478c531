-- Each of some entries is what is found at its own id.
use Rattle.std.proofs.Common.{◌≡◌, ℕ, List, map, Option, Some, ap, ◌∙◌}
use Rattle.std.specs.FinMap.{find, from_entries, get, get-from_entries}
use Rattle.std.specs.Ordering.{nat_cmp}
use Rattle.std.proofs.lemmas.Cmp.{nat_cmp_total}
use Rattle.fs_target.specs.Entries.{Rises}
use Rattle.fs_target.specs.Seen.{Seen}
use Rattle.fs_target.proofs.Each.{each_from_map, map_alike}
use Rattle.fs_target.proofs.Entries.{rising}
use Rattle.fs_target.proofs.Found.{all_found}

-- what is made of each and of what a map has at its id
pub map_found : {X Y : Type 0} (g : Seen → X) (h : Seen → Option X → Y) (ss : List Seen) → Rises ss
    → map (λ (s : Seen). h s (get (from_entries {R = nat_cmp} (map (λ (t : Seen). (t.id, g t)) ss)) s.id)) ss ≡ map (λ (s : Seen). h s (Some (g s))) ss
map_found {X = X} g h ss rise =
    let at : Seen → ℕ × X = λ t. (t.id, g t) in
    map_alike _ _ ss
    (each_from_map at (λ (e : ℕ × X). find nat_cmp e.0 (map at ss) ≡ Some e.1) (λ (s : Seen). h s (get (from_entries {R = nat_cmp} (map at ss)) s.id) ≡ h s (Some (g s)))
    (λ s is. ap (h s) (get-from_entries nat_cmp_total (map at ss) s.id ∙ is)) ss
    (all_found nat_cmp_total (map at ss) (rising g ss rise)))
