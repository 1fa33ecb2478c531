-- Targets are together at their least position, and a session is ready once that is due.
use Rattle.std.proofs.Common.{◌≡◌, ℕ, ℤ, ◌≤ℤ◌, ◌<ℤ◌, Bool, true, false, cond, not, ◌||◌, ◌⊎◌, inl, inr, List, [], ◌∷◌, ◌++◌, map, Option, Some, None, refl, sym, ap, ◌∙◌, subst, arith}
use Rattle.std.specs.Prelude.{IfSome, int_lt}
use Rattle.std.specs.FinMap.{entries, entries_sorted, find, get, get-entries, values}
use Rattle.std.specs.List.{AllByRecursion, Contains, flat_map, list_any}
use Rattle.std.specs.Ordering.{eq_by_cmp, nat_cmp}
use Rattle.std.proofs.lemmas.Bool.{and_from}
use Rattle.std.proofs.lemmas.Int.{ints}
use Rattle.std.proofs.lemmas.List.Elements.{Contains-append_left, Contains-append_right}
use Rattle.fs_time.proofs.Tests.{not_after}
use Rattle.fs_path.proofs.Bools.{to_true}
use Rattle.fs_query.proofs.Rising.{has_cases, has_none}
use Rattle.fs_listen.specs.Cuts.{base, cut_behind, first_loading, greater_of, greatest, is_behind, is_current, is_from, is_loaded, is_ready_at, least, least_position, lesser_of, positions_of, some_new, times_of}
use Rattle.fs_listen.specs.Listening.{Listened, Listening}
use Rattle.fs_listen.specs.ReadyLaws.{IsNews, ReadyOnceDue, TogetherAtTheLeast}
use Rattle.fs_listen.proofs.All.{all_append}
use Rattle.fs_listen.proofs.Bounds.{AreBy, by_append}
use Rattle.fs_listen.proofs.Listed.{from_found}

-- ---- the least of times

abbrev AreFrom : ℤ → List (Option ℤ) → Type 0
AreFrom time ts = AllByRecursion (λ o. IfSome o (λ t. time ≤ℤ t)) ts

lesser_from : (time u : ℤ) (o : Option ℤ) → time ≤ℤ u → IfSome o (λ t. time ≤ℤ t) → time ≤ℤ lesser_of u o
lesser_from time u None low rest = low
lesser_from time u (Some v) low rest = by_test (int_lt v u) where
  by_test : (less : Bool) → time ≤ℤ cond less v u
  by_test true = rest
  by_test false = low

least_from : (time : ℤ) (ts : List (Option ℤ)) → AreFrom time ts → IfSome (least ts) (λ t. time ≤ℤ t)
least_from time [] are = tt
least_from time (None ∷ ts) are = least_from time ts are.1
least_from time (Some u ∷ ts) are = lesser_from time u (least ts) are.0 (least_from time ts are.1)

same_time : (a b : ℤ) → a ≤ℤ b → b ≤ℤ a → a ≡ b
same_time a b low high = omega (arith, ints)

lesser_is : (time u : ℤ) (o : Option ℤ) → time ≤ℤ u → IfSome o (λ t. time ≤ℤ t) → (u ≡ time) ⊎ (o ≡ Some time) → lesser_of u o ≡ time
lesser_is time u None low rest (inl same) = same
lesser_is time u None low rest (inr same) = absurd (cc)
lesser_is time u (Some v) low rest which = by_test (int_lt v u) refl which where
  above_it : time ≤ℤ v
  above_it = rest

  by_test : (less : Bool) → int_lt v u ≡ less → (u ≡ time) ⊎ (Some v ≡ Some time) → cond less v u ≡ time
  by_test true is (inl same) =
      let below : v <ℤ u = grind (arith, ints) in
      let under : v <ℤ time = subst (λ x. v <ℤ x) same below in
      absurd (omega (arith, ints, above_it))
  by_test true is (inr same) = let one : v ≡ time = cc in one
  by_test false is (inl same) = same
  by_test false is (inr same) =
      let one : v ≡ time = cc in
      let up : u ≤ℤ v = grind (arith, ints) in
      same_time u time (subst (λ x. u ≤ℤ x) one up) low

least_is : (time : ℤ) (ts : List (Option ℤ)) → AreFrom time ts → Contains ts (Some time) → least ts ≡ Some time
least_is time [] are has = absurd (has_none (Some time) has)
least_is time (None ∷ ts) are has = by_cases (λ later. least_is time ts are.1 later) (has_cases None ts (Some time) has) where
  by_cases : (Contains ts (Some time) → least ts ≡ Some time) → (None ≡ Some time) ⊎ Contains ts (Some time) → least ts ≡ Some time
  by_cases again (inl same) = absurd (cc)
  by_cases again (inr later) = again later
least_is time (Some u ∷ ts) are has =
    ap Some (lesser_is time u (least ts) are.0 (least_from time ts are.1) (by_cases (λ later. least_is time ts are.1 later) (has_cases (Some u) ts (Some time) has)))
  where
    by_cases : (Contains ts (Some time) → least ts ≡ Some time) → (Some u ≡ Some time) ⊎ Contains ts (Some time) → (u ≡ time) ⊎ (least ts ≡ Some time)
    by_cases again (inl same) = inl (let one : u ≡ time = cc in one)
    by_cases again (inr later) = inr (again later)

-- ---- the cut

none_first : (es : List (ℕ × Listened)) → AllByRecursion (λ (l : Listened). is_loaded l.loaded ≡ true) (map (λ (e : ℕ × Listened). e.1) es) → first_loading es ≡ None
none_first [] all = refl
none_first (e ∷ es) all = ap (λ b. cond b (first_loading es) (Some e.0)) all.0 ∙ none_first es all.1

flat_from : (time : ℤ) (ls : List Listened) → AllByRecursion (λ (l : Listened). AreFrom time (positions_of l.loaded)) ls → AreFrom time (flat_map (λ (l : Listened). positions_of l.loaded) ls)
flat_from time [] all = tt
flat_from time (l ∷ ls) all = all_append (λ o. IfSome o (λ t. time ≤ℤ t)) (positions_of l.loaded) _ all.0 (flat_from time ls all.1)

has_position : (o : Option ℤ) (id : ℕ) (l : Listened) (es : List (ℕ × Listened)) → find nat_cmp id es ≡ Some l → Contains (positions_of l.loaded) o
    → Contains (flat_map (λ (k : Listened). positions_of k.loaded) (map (λ (e : ℕ × Listened). e.1) es)) o
has_position o id l [] found has = absurd (cc)
has_position o id l (e ∷ es) found has = by_test (λ later. has_position o id l es later has) (eq_by_cmp nat_cmp id e.0) found where
  by_test : (find nat_cmp id es ≡ Some l → Contains (flat_map (λ (k : Listened). positions_of k.loaded) (map (λ (d : ℕ × Listened). d.1) es)) o)
      → (here : Bool) → cond here (Some e.1) (find nat_cmp id es) ≡ Some l
      → Contains (positions_of e.1.loaded ++ flat_map (λ (k : Listened). positions_of k.loaded) (map (λ (d : ℕ × Listened). d.1) es)) o
  by_test again true is =
      let one : e.1 ≡ l = cc in
      Contains-append_left (positions_of e.1.loaded) _ o (subst (λ (k : Listened). Contains (positions_of k.loaded) o) (sym one) has)
  by_test again false is = Contains-append_right (positions_of e.1.loaded) _ o (again is)

-- what holds of each of them holds of all
of_all : (s : Listening) (P : Listened → Type 0) → ((id : ℕ) (l : Listened) → get s.targets id ≡ Some l → P l) → AllByRecursion P (values s.targets)
of_all s P each = from_found P (entries s.targets) (to_true _ (entries_sorted s.targets)) (λ id l found. each id l (get-entries s.targets id ∙ found))

pub together_at_the_least : TogetherAtTheLeast
together_at_the_least s time are =
    let none = none_first (entries s.targets) (of_all s (λ (l : Listened). is_loaded l.loaded ≡ true) are.loaded) in
    let least_one : least_position s ≡ Some time =
    least_is time _ (flat_from time (values s.targets) (of_all s (λ (l : Listened). AreFrom time (positions_of l.loaded)) are.from))
    (has_position (Some time) are.id are.target (entries s.targets) (sym (get-entries s.targets are.id) ∙ are.there) are.position) in
    λ i. cut_behind (none i) (least_one i)

-- ---- the base

greater_within : (to t : ℤ) (o : Option ℤ) → t ≤ℤ to → IfSome o (λ u. u ≤ℤ to) → greater_of t o ≤ℤ to
greater_within to t None by rest = by
greater_within to t (Some u) by rest = by_test (int_lt t u) where
  by_test : (less : Bool) → cond less u t ≤ℤ to
  by_test true = rest
  by_test false = by

greatest_within : (to : ℤ) (ts : List (Option ℤ)) → AreBy to ts → IfSome (greatest ts) (λ t. t ≤ℤ to)
greatest_within to [] are = tt
greatest_within to (None ∷ ts) are = greatest_within to ts are.1
greatest_within to (Some t ∷ ts) are = greater_within to t (greatest ts) are.0 (greatest_within to ts are.1)

is_from_it : (o : Option ℤ) (time : ℤ) → IfSome o (λ t. t ≤ℤ time) → is_from o time ≡ true
is_from_it None time by = refl
is_from_it (Some t) time by = not_after t time by

all_times : (to : ℤ) (ls : List Listened) → AllByRecursion (λ (l : Listened). AreBy to (times_of l)) ls → AreBy to (flat_map times_of ls)
all_times to [] all = tt
all_times to (l ∷ ls) all = by_append (times_of l) _ to all.0 (all_times to ls all.1)

-- ---- news

is_behind_it : (o : Option ℤ) (time : ℤ) → IfSome o (λ t. t <ℤ time) → is_behind o time ≡ true
is_behind_it None time less = refl
is_behind_it (Some t) time less = let below : t <ℤ time = less in grind (arith, ints)

new_among : (id : ℕ) (l : Listened) (es : List (ℕ × Listened)) → find nat_cmp id es ≡ Some l → is_current l.loaded ≡ false
    → list_any (λ (k : Listened). not (is_current k.loaded)) (map (λ (e : ℕ × Listened). e.1) es) ≡ true
new_among id l [] found new = absurd (cc)
new_among id l (e ∷ es) found new = by_test (λ later. new_among id l es later new) (eq_by_cmp nat_cmp id e.0) found where
  or_later : (a b : Bool) → b ≡ true → (a || b) ≡ true
  or_later true b is = refl
  or_later false b is = is

  by_test : (find nat_cmp id es ≡ Some l → list_any (λ (k : Listened). not (is_current k.loaded)) (map (λ (d : ℕ × Listened). d.1) es) ≡ true)
      → (here : Bool) → cond here (Some e.1) (find nat_cmp id es) ≡ Some l
      → (not (is_current e.1.loaded) || list_any (λ (k : Listened). not (is_current k.loaded)) (map (λ (d : ℕ × Listened). d.1) es)) ≡ true
  by_test again true is =
      let one : e.1 ≡ l = cc in
      ap (λ b. not b || list_any (λ (k : Listened). not (is_current k.loaded)) (map (λ (d : ℕ × Listened). d.1) es)) (ap (λ (k : Listened). is_current k.loaded) one ∙ new)
  by_test again false is = or_later (not (is_current e.1.loaded)) _ (again is)

either_news : (s : Listening) (time : ℤ) → IsNews s time → (is_behind s.raised time || some_new s) ≡ true
either_news s time (inl later) = ap (λ b. b || some_new s) (is_behind_it s.raised time later)
either_news s time (inr (id, l, there, new)) = or_new (is_behind s.raised time) where
  among : some_new s ≡ true
  among = new_among id l (entries s.targets) (sym (get-entries s.targets id) ∙ there) new

  or_new : (a : Bool) → (a || some_new s) ≡ true
  or_new true = refl
  or_new false = among

pub ready_once_due : ReadyOnceDue
ready_once_due s time at due =
    let times = all_times time (values s.targets) (of_all s (λ (l : Listened). AreBy time (times_of l)) (λ id l found. (due.resumed id l found, (due.loaded id l found, tt)))) in
    ap (is_ready_at s) at
    ∙ and_from (is_from (base s) time) _ (is_from_it (base s) time (greatest_within time (s.raised ∷ flat_map times_of (values s.targets)) (due.raised, times))) (either_news s time due.news)
