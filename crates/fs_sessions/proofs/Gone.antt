-- A target that isn't there, taken out.
use Rattle.std.proofs.Common.{◌≡◌, ℕ, Bool, true, false, cond, List, [], ◌∷◌, map, Some, None, Result, Ok, Err, refl, sym, ap, ◌∙◌}
use Rattle.std.specs.Prelude.{⊤, IfErr, IsTrue, OnErr, OnOk, is_some}
use Rattle.std.specs.FinMap.{FinMap, find, get, get-from_entries, get-remove, nat_cmp-IsAntisymmetric, remove, same_map}
use Rattle.std.specs.Ordering.{eq_by_cmp, nat_cmp}
use Rattle.std.proofs.lemmas.Cmp.{nat_cmp_total}
use Rattle.fs_listen.proofs.Listed.{number_is}
use Rattle.fs_target.specs.Held.{without_target}
use Rattle.fs_target.specs.Prepared.{Prepared, held_in}
use Rattle.fs_target.specs.Seen.{Seen, kept_in, listed_in, seen}
use Rattle.fs_target.specs.declared.error.TargetError.{TargetError}
use Rattle.fs_target.specs.declared.error.TargetError.TheVariants as error

none_taken : {X : Type 0} (m : FinMap nat_cmp X) (id : ℕ) → get m id ≡ None → remove m id ≡ m
none_taken {X} m id none =
    same_map nat_cmp_total nat_cmp-IsAntisymmetric _ _ (λ q. get-remove nat_cmp_total m id q ∙ by_test q (eq_by_cmp nat_cmp q id) refl)
  where
    by_test : (q : ℕ) (same : Bool) → eq_by_cmp nat_cmp q id ≡ same → cond same None (get m q) ≡ get m q
    by_test q true is = sym none ∙ ap (get m) (sym (number_is q id is))
    by_test q false is = refl

-- nothing is kept of one that isn't there
none_kept : (id : ℕ) (ss : List Seen) → find nat_cmp id (map listed_in ss) ≡ None → find nat_cmp id (map kept_in ss) ≡ None
none_kept id [] none = refl
none_kept id (s ∷ ss) none = by_test (none_kept id ss) (eq_by_cmp nat_cmp id s.id) none where
  by_test : (find nat_cmp id (map listed_in ss) ≡ None → find nat_cmp id (map kept_in ss) ≡ None) → (same : Bool)
      → cond same (Some s.listened) (find nat_cmp id (map listed_in ss)) ≡ None → cond same (Some s.kept) (find nat_cmp id (map kept_in ss)) ≡ None
  by_test again true none = absurd (cc)
  by_test again false none = again none

none_gone : (id : ℕ) (v : Prepared) → get (held_in v).listening.targets id ≡ None → without_target id (held_in v) ≡ held_in v
none_gone id v none =
    let ss = map seen v.entries in
    let gone : get (held_in v).kept id ≡ None =
    get-from_entries nat_cmp_total (map kept_in ss) id ∙ none_kept id ss (sym (get-from_entries nat_cmp_total (map listed_in ss) id) ∙ none) in
    let targets = none_taken (held_in v).listening.targets id none in
    let kept = none_taken (held_in v).kept id gone in
    λ i. record { shards = v.shards; limit = v.limit; listening = record { targets = targets i; raised = v.raised }; kept = kept i }

-- it is taken out, or it wasn't there
pub gone : (r : Result ⊤ TargetError) (id : ℕ) (v w : Prepared)
    → OnOk r ((held_in w ≡ without_target id (held_in v)) × IsTrue (is_some (get (held_in v).listening.targets id)))
    → OnErr r (held_in w ≡ held_in v)
    → IfErr r (λ e. (e ≡ error.Unknown id) × (get (held_in v).listening.targets id ≡ None))
    → held_in w ≡ without_target id (held_in v)
gone (Ok u) id v w ok err unknown = ok.0
gone (Err e) id v w ok err unknown = err ∙ sym (none_gone id v unknown.1)
