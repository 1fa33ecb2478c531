-- What positions and times are bounded by.
use Rattle.std.proofs.Common.{◌≡◌, ℕ, ℤ, ◌≤ℤ◌, ◌<ℤ◌, Bool, true, false, cond, List, [], ◌∷◌, ◌++◌, map, Option, Some, None, refl, subst, arith}
use Rattle.std.specs.Prelude.{IfSome, int_lt, slice_index_or, slice_set, zero, suc, ◌+◌}
use Rattle.std.specs.List.{AllByRecursion, range_with_len}
use Rattle.std.proofs.lemmas.Int.{ints}
use Rattle.fs_time.proofs.Tests.{at_most}
use Rattle.fs_listen.specs.Cuts.{cut_behind, first_loading, greatest, greater_of, is_from, is_loaded, least, lesser_of}
use Rattle.fs_listen.specs.Listening.{Listened, has_shard, later_of}
use Rattle.fs_listen.specs.declared.cut.Cut.TheVariants.{At}
use Rattle.fs_query.specs.declared.target.Target.{Target}

-- times that may be there, none above a bound
abbrev pub AreBy : ℤ → List (Option ℤ) → Type 0
AreBy to ts = AllByRecursion (λ t. IfSome t (λ u. u ≤ℤ to)) ts

pub by_later : (ts : List (Option ℤ)) (s t : ℤ) → s ≤ℤ t → AreBy s ts → AreBy t ts
by_later [] s t later are = tt
by_later (None ∷ ts) s t later are = (tt, by_later ts s t later are.1)
by_later (Some u ∷ ts) s t later are = (let low : u ≤ℤ s = are.0 in omega (arith, ints), by_later ts s t later are.1)

pub by_append : (ts us : List (Option ℤ)) (to : ℤ) → AreBy to ts → AreBy to us → AreBy to (ts ++ us)
by_append [] us to first second = second
by_append (t ∷ ts) us to first second = (first.0, by_append ts us to first.1 second)

-- ---- the least and the greatest

lesser_within : (t : ℤ) (o : Option ℤ) (to : ℤ) → t ≤ℤ to → lesser_of t o ≤ℤ to
lesser_within t None to by = by
lesser_within t (Some u) to by = by_test (int_lt u t) refl where
  by_test : (less : Bool) → int_lt u t ≡ less → cond less u t ≤ℤ to
  by_test true is = let below : u <ℤ t = grind (arith, ints) in omega (arith, ints)
  by_test false is = by

pub least_within : (ts : List (Option ℤ)) (to t : ℤ) → AreBy to ts → least ts ≡ Some t → t ≤ℤ to
least_within [] to t are is = absurd (cc)
least_within (None ∷ ts) to t are is = least_within ts to t are.1 is
least_within (Some u ∷ ts) to t are is =
    let same : lesser_of u (least ts) ≡ t = cc in
    subst (λ v. v ≤ℤ to) same (lesser_within u (least ts) to are.0)

greater_above : (t : ℤ) (o : Option ℤ) → t ≤ℤ greater_of t o
greater_above t None = omega (arith, ints)
greater_above t (Some u) = by_test (int_lt t u) refl where
  by_test : (less : Bool) → int_lt t u ≡ less → t ≤ℤ cond less u t
  by_test true is = let below : t <ℤ u = grind (arith, ints) in omega (arith, ints)
  by_test false is = omega (arith, ints)

-- a time that isn't below the greatest isn't below the first
pub from_first : (o : Option ℤ) (ts : List (Option ℤ)) (t : ℤ) → is_from (greatest (o ∷ ts)) t ≡ true → IfSome o (λ r. r ≤ℤ t)
from_first None ts t is = tt
from_first (Some r) ts t is =
    let above = greater_above r (greatest ts) in
    let low : greater_of r (greatest ts) ≤ℤ t = at_most _ t is in
    omega (arith, ints)

-- ---- the cut

pub cut_is : (loading : Option ℕ) (position : Option ℤ) (t : ℤ) → cut_behind loading position ≡ At t → (loading ≡ None) × (position ≡ Some t)
cut_is (Some id) position t is = absurd (cc)
cut_is None None t is = absurd (cc)
cut_is None (Some u) t is = (refl, cc)

pub none_loading : (es : List (ℕ × Listened)) → first_loading es ≡ None → AllByRecursion (λ there. there ≡ true) (map (λ (e : ℕ × Listened). is_loaded e.1.loaded) es)
none_loading [] none = tt
none_loading (e ∷ es) none = by_test (none_loading es) (is_loaded e.1.loaded) refl none where
  by_test : (first_loading es ≡ None → AllByRecursion (λ one. one ≡ true) (map (λ (d : ℕ × Listened). is_loaded d.1.loaded) es))
      → (there : Bool) → is_loaded e.1.loaded ≡ there → cond there (first_loading es) (Some e.0) ≡ None
      → (is_loaded e.1.loaded ≡ true) × AllByRecursion (λ one. one ≡ true) (map (λ (d : ℕ × Listened). is_loaded d.1.loaded) es)
  by_test again true is rest = (is, again rest)
  by_test again false is rest = absurd (cc)

-- ---- positions

pub at_positions : (shards : ℕ) (t : Target) (time : ℤ) (n from : ℕ) (to : ℤ) → time ≤ℤ to
    → AreBy to (map (λ shard. cond (has_shard shards t shard) (Some time) None) (range_with_len from n))
at_positions shards t time zero from to by = tt
at_positions shards t time (suc n) from to by = (by_test (has_shard shards t from), at_positions shards t time n (from + 1) to by) where
  by_test : (has : Bool) → IfSome (cond has (Some time) None) (λ u. u ≤ℤ to)
  by_test true = by
  by_test false = tt

later_within : (to bound : ℤ) (o : Option ℤ) → to ≤ℤ bound → IfSome o (λ u. u ≤ℤ bound) → IfSome (later_of to o) (λ u. u ≤ℤ bound)
later_within to bound None by was = tt
later_within to bound (Some p) by was = by_test (int_lt p to) where
  by_test : (less : Bool) → cond less to p ≤ℤ bound
  by_test true = by
  by_test false = was

pub set_within : (ts : List (Option ℤ)) (shard : ℕ) (to bound : ℤ) → to ≤ℤ bound → AreBy bound ts
    → AreBy bound (slice_set ts shard (later_of to (slice_index_or ts shard None)))
set_within [] shard to bound by are = tt
set_within (t ∷ ts) zero to bound by are = (later_within to bound t by are.0, are.1)
set_within (t ∷ ts) (suc shard) to bound by are = (are.0, set_within ts shard to bound by are.1)
