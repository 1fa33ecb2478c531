-- What holds of each version of a chain holds of those that are kept from a floor on, and of the one that shows.
use Rattle.std.proofs.Common.{◌-◌, ◌<◌, ℤ, Bool, true, false, cond, List, [], ◌∷◌, length, reverse, sym, subst, arith}
use Rattle.std.specs.Prelude.{int_le, is_none}
use Rattle.std.specs.List.{All}
use Rattle.std.proofs.lemmas.List.{get_or-reverse, length-reverse}
use Rattle.std.proofs.lemmas.List.Elements.{All-nil, All-cons, All-head, All-tail}
use Rattle.fs_history.specs.Versions.{base, kept}
use Rattle.fs_history.specs.declared.version.Version.{Version}
use Rattle.fs_versions.specs.Chain.{cut}

module _ (P : Version → Type 0) where
  all_base : (v : Version) (b : Bool) → P v → All P (cond b [] (v ∷ []))
  all_base v true p = All-nil P
  all_base v false p = All-cons P v [] p (All-nil P)

  all_next : (f : ℤ) (v : Version) (vs : List Version) (b : Bool) → P v → All P (kept f vs) → All P (cond b (base v) (v ∷ kept f vs))
  all_next f v vs true p ps = all_base v (is_none v.after) p
  all_next f v vs false p ps = All-cons P v (kept f vs) p ps

  all_kept : (f : ℤ) (vs : List Version) → All P vs → All P (kept f vs)
  all_kept f [] ps = ps
  all_kept f (v ∷ vs) ps = all_next f v vs (int_le v.time f) (All-head P v vs ps) (all_kept f vs (All-tail P v vs ps))

  pub all_reverse : (vs : List Version) → All P vs → All P (reverse vs)
  all_reverse vs ps k d within =
      let short : k < length vs = omega (arith, length-reverse vs, within) in
      subst P (sym (get_or-reverse vs k d short)) (ps (length vs - 1 - k) d (omega arith))

  pub all_left : (f : ℤ) (vs : List Version) → All P vs → All P (cut f vs)
  all_left f vs ps = all_reverse (kept f (reverse vs)) (all_kept f (reverse vs) (all_reverse vs ps))
