-- Where a name stands in a directory.
use Rattle.std.proofs.Common.{◌≡◌, ℕ, ◌+◌, Bool, true, false, cond, List, [], ◌∷◌, Option, Some, None, option_map, refl, sym, ap, subst}
use Rattle.std.specs.Prelude.{remove}
use Rattle.std.specs.Str.{bytes_eq}
use Rattle.fs_machine.proofs.Places.{next_place, none_there}
use Rattle.fs_replay.specs.Directory.{place_in, without}
use Rattle.fs_replay.specs.declared.directory.Named.{Named}

module _ (name : List ℕ) where
  abbrev Placed : Bool → List Named → Option ℕ
  Placed b ns = cond b (Some 0) (option_map (λ place. place + 1) (place_in name ns))

  removed_next : (n : Named) (ns : List Named) (i : ℕ) (b : Bool) → Placed b ns ≡ Some i → ((j : ℕ) → place_in name ns ≡ Some j → without name ns ≡ remove ns j)
      → cond b ns (n ∷ without name ns) ≡ remove (n ∷ ns) i
  removed_next n ns i true h more = let e : 0 ≡ i = cc in subst (λ (j : ℕ). ns ≡ remove (n ∷ ns) j) e refl
  removed_next n ns i false h more =
      let p = next_place (place_in name ns) i h in
      subst (λ (j : ℕ). n ∷ without name ns ≡ remove (n ∷ ns) j) (sym p.2) (ap (λ us. n ∷ us) (more p.0 p.1))

  pub removed_at : (ns : List Named) (i : ℕ) → place_in name ns ≡ Some i → without name ns ≡ remove ns i
  removed_at [] i h = absurd (cc)
  removed_at (n ∷ ns) i h = removed_next n ns i (bytes_eq n.name name) h (removed_at ns)

  none_removed_next : (n : Named) (ns : List Named) (b : Bool) → Placed b ns ≡ None → (place_in name ns ≡ None → without name ns ≡ ns) → cond b ns (n ∷ without name ns) ≡ n ∷ ns
  none_removed_next n ns true h more = absurd (cc)
  none_removed_next n ns false h more = ap (λ us. n ∷ us) (more (none_there (place_in name ns) h))

  pub none_removed : (ns : List Named) → place_in name ns ≡ None → without name ns ≡ ns
  none_removed [] h = refl
  none_removed (n ∷ ns) h = none_removed_next n ns (bytes_eq n.name name) h (none_removed ns)
