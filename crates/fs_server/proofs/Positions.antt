-- How far targets were told a shard: the least of it is at most each, and none is before what can be read.
use Rattle.std.proofs.Common.{◌≡◌, ℕ, ℤ, ◌≤ℤ◌, ◌<ℤ◌, Bool, true, false, cond, List, [], ◌∷◌, map, Option, Some, None, refl, sym, ap, ◌∙◌, subst, zero, suc, arith}
use Rattle.std.specs.Prelude.{IfSome, int_lt, slice_index_or}
use Rattle.std.specs.FinMap.{entries, entries_sorted, find, get, get-entries, keys, values}
use Rattle.std.specs.List.{AllByRecursion, flat_map}
use Rattle.std.specs.Ordering.{eq_by_cmp, nat_cmp}
use Rattle.std.proofs.lemmas.Int.{ints}
use Rattle.fs_path.proofs.Bools.{to_true}
use Rattle.fs_listen.specs.Cuts.{cut, first_loading, least, least_position, lesser_of, positions_of}
use Rattle.fs_listen.specs.Listening.{Listened, Listening, Loaded}
use Rattle.fs_listen.specs.declared.cut.Cut.TheVariants.{At}
use Rattle.fs_listen.proofs.Bounds.{cut_is}
use Rattle.fs_listen.proofs.Listed.{from_found, number_is}
use Rattle.fs_machine.specs.Listeners.{Listener}
use Rattle.fs_machine.specs.ListenersHold.{IsPosition, ListeningHolds, LoadHolds, TargetHolds}
use Rattle.fs_machine.specs.Past.{Past}
use Rattle.fs_target.specs.Held.{position_in, position_of, positions_in}
use Rattle.fs_sessions.specs.Heard.{Heard, listeners_of}
use Rattle.fs_sessions.specs.Matched.{least_in}
use Rattle.fs_server.proofs.Every.{all_both, all_flat, all_unflat, all_unmapped}

-- ---- the least of times that may be there

-- a time isn't below the least
abbrev pub IsFrom : Option ℤ → ℤ → Type 0
IsFrom None time = ⊥
IsFrom (Some k) time = k ≤ℤ time

lesser_first : (t : ℤ) (o : Option ℤ) → lesser_of t o ≤ℤ t
lesser_first t None = omega (arith, ints)
lesser_first t (Some u) = by_test (int_lt u t) refl where
  by_test : (less : Bool) → int_lt u t ≡ less → cond less u t ≤ℤ t
  by_test true is = let below : u <ℤ t = grind (arith, ints) in omega (arith, ints)
  by_test false is = omega (arith, ints)

lesser_rest : (t : ℤ) (o : Option ℤ) (time : ℤ) → IsFrom o time → lesser_of t o ≤ℤ time
lesser_rest t None time from = absurd from
lesser_rest t (Some u) time from = by_test (int_lt u t) refl where
  by_test : (less : Bool) → int_lt u t ≡ less → cond less u t ≤ℤ time
  by_test true is = from
  by_test false is = let below : t ≤ℤ u = grind (arith, ints) in let low : u ≤ℤ time = from in omega (arith, ints)

all_lesser : (t : ℤ) (o : Option ℤ) (ts : List (Option ℤ)) → AllByRecursion (λ x. IfSome x (IsFrom o)) ts → AllByRecursion (λ x. IfSome x (IsFrom (Some (lesser_of t o)))) ts
all_lesser t o [] all = tt
all_lesser t o (None ∷ ts) all = (tt, all_lesser t o ts all.1)
all_lesser t o (Some u ∷ ts) all = (lesser_rest t o u all.0, all_lesser t o ts all.1)

pub least_all : (ts : List (Option ℤ)) → AllByRecursion (λ x. IfSome x (IsFrom (least ts))) ts
least_all [] = tt
least_all (None ∷ ts) = (tt, least_all ts)
least_all (Some t ∷ ts) = (lesser_first t (least ts), all_lesser t (least ts) ts (least_all ts))

-- and where none is before a time, it isn't either
lesser_above : (from t : ℤ) (o : Option ℤ) → from ≤ℤ t → IfSome o (λ u. from ≤ℤ u) → from ≤ℤ lesser_of t o
lesser_above from t None first rest = first
lesser_above from t (Some u) first rest = by_test (int_lt u t) where
  by_test : (less : Bool) → from ≤ℤ cond less u t
  by_test true = rest
  by_test false = first

pub least_above : (from : ℤ) (ts : List (Option ℤ)) → AllByRecursion (λ x. IfSome x (λ u. from ≤ℤ u)) ts → IfSome (least ts) (λ u. from ≤ℤ u)
least_above from [] all = tt
least_above from (None ∷ ts) all = least_above from ts all.1
least_above from (Some t ∷ ts) all = lesser_above from t (least ts) all.0 (least_above from ts all.1)

-- ---- entries by rising numbers

module _ {X : Type 0} (P : ℕ × X → Type 0) where
  -- what holds of all holds of the one that is found
  pub of_entry : (es : List (ℕ × X)) → AllByRecursion P es → (id : ℕ) (x : X) → find nat_cmp id es ≡ Some x → P (id, x)
  of_entry [] all id x found = absurd (cc)
  of_entry (e ∷ es) all id x found = by_test (of_entry es all.1 id x) (eq_by_cmp nat_cmp id e.0) refl where
    by_test : (find nat_cmp id es ≡ Some x → P (id, x)) → (same : Bool) → eq_by_cmp nat_cmp id e.0 ≡ same → P (id, x)
    by_test again true is =
        let one : Some e.1 ≡ Some x = ap (λ b. cond b (Some e.1) (find nat_cmp id es)) (sym is) ∙ found in
        let value : e.1 ≡ x = cc in
        subst P (λ i. (sym (number_is id e.0 is) i, value i)) all.0
    by_test again false is = again (ap (λ b. cond b (Some e.1) (find nat_cmp id es)) (sym is) ∙ found)

-- ---- of sessions

-- the least is at most the position of each target that has a number
abbrev pub IsLeast : ℕ → Option ℤ → Heard → Type 0
IsLeast shard o h = (id number : ℕ) → get h.numbers id ≡ Some number → IfSome (position_in shard (get h.held.listening.targets id)) (IsFrom o)

least_found : (shard : ℕ) (o : Option ℤ) (h : Heard) → AllByRecursion (λ x. IfSome x (IsFrom o)) (positions_in shard h.held) → (id : ℕ) (l : Option Listened) → get h.held.listening.targets id ≡ l
    → IfSome (position_in shard l) (IsFrom o)
least_found shard o h all id None is = tt
least_found shard o h all id (Some l) is =
    let targets = h.held.listening.targets in
    let at : ℕ → Type 0 = λ k. IfSome (position_in shard (get targets k)) (IsFrom o) in
    let each = all_unmapped at (λ (e : ℕ × Listened). e.0) (entries targets) (all_unmapped (λ x. IfSome x (IsFrom o)) (λ (k : ℕ). position_in shard (get targets k)) (keys targets) all) in
    subst (λ t. IfSome (position_in shard t) (IsFrom o)) is (of_entry (λ (e : ℕ × Listened). at e.0) (entries targets) each id l (sym (get-entries targets id) ∙ is))

least_one : (shard : ℕ) (o : Option ℤ) (h : Heard) → AllByRecursion (λ x. IfSome x (IsFrom o)) (positions_in shard h.held) → IsLeast shard o h
least_one shard o h all id number found = least_found shard o h all id (get h.held.listening.targets id) refl

least_ones : (shard : ℕ) (o : Option ℤ) (hs : List Heard) → AllByRecursion (λ (h : Heard). AllByRecursion (λ x. IfSome x (IsFrom o)) (positions_in shard h.held)) hs → AllByRecursion (IsLeast shard o) hs
least_ones shard o [] all = tt
least_ones shard o (h ∷ hs) all = (least_one shard o h all.0, least_ones shard o hs all.1)

pub are_least : (shard : ℕ) (hs : List Heard) → AllByRecursion (IsLeast shard (least_in shard hs)) hs
are_least shard hs =
    let all = flat_map (λ (h : Heard). positions_in shard h.held) hs in
    least_ones shard (least all) hs (all_unflat (λ x. IfSome x (IsFrom (least all))) (λ (h : Heard). positions_in shard h.held) hs (least_all all))

-- ---- and each can be read

at_index : (p : Past) (ts : List (Option ℤ)) (shard : ℕ) → AllByRecursion (IsPosition p) ts → IfSome (slice_index_or ts shard None) (λ t. p.floor ≤ℤ t)
at_index p [] shard all = tt
at_index p (None ∷ ts) zero all = tt
at_index p (Some t ∷ ts) zero all = all.0.0
at_index p (t ∷ ts) (suc shard) all = at_index p ts shard all.1

of_loaded : (p : Past) (shard : ℕ) (o : Option Loaded) → IfSome o (LoadHolds p) → IfSome (position_of shard o) (λ t. p.floor ≤ℤ t)
of_loaded p shard None holds = tt
of_loaded p shard (Some l) holds = at_index p l.positions shard holds.1

of_target : (p : Past) (shard : ℕ) (h : Heard) (id : ℕ) (o : Option Listened) → ListeningHolds p h.held.listening → get h.held.listening.targets id ≡ o → IfSome (position_in shard o) (λ t. p.floor ≤ℤ t)
of_target p shard h id None holds is = tt
of_target p shard h id (Some l) holds is = of_loaded p shard l.loaded (holds.targets id l is).1

positions_readable : (p : Past) (shard : ℕ) (h : Heard) → ListeningHolds p h.held.listening → (ids : List ℕ)
    → AllByRecursion (λ x. IfSome x (λ t. p.floor ≤ℤ t)) (map (λ (id : ℕ). position_in shard (get h.held.listening.targets id)) ids)
positions_readable p shard h holds [] = tt
positions_readable p shard h holds (id ∷ ids) = (of_target p shard h id (get h.held.listening.targets id) holds refl, positions_readable p shard h holds ids)

all_readable : (p : Past) (shard : ℕ) (hs : List Heard) → AllByRecursion (λ (l : Listener). ListeningHolds p l.listening) (listeners_of hs)
    → AllByRecursion (λ x. IfSome x (λ t. p.floor ≤ℤ t)) (flat_map (λ (h : Heard). positions_in shard h.held) hs)
all_readable p shard [] all = tt
all_readable p shard (h ∷ hs) all =
    all_both (λ x. IfSome x (λ t. p.floor ≤ℤ t)) (positions_in shard h.held) (flat_map (λ (k : Heard). positions_in shard k.held) hs) (positions_readable p shard h all.0 (keys h.held.listening.targets)) (all_readable p shard hs all.1)

pub least_readable : (p : Past) (shard : ℕ) (hs : List Heard) → AllByRecursion (λ (l : Listener). ListeningHolds p l.listening) (listeners_of hs)
    → IfSome (least_in shard hs) (λ t. p.floor ≤ℤ t)
least_readable p shard hs all = least_above p.floor (flat_map (λ (h : Heard). positions_in shard h.held) hs) (all_readable p shard hs all)

-- so can the time at which the targets of a session are together
all_low : (p : Past) (ts : List (Option ℤ)) → AllByRecursion (IsPosition p) ts → AllByRecursion (λ x. IfSome x (λ t. p.floor ≤ℤ t)) ts
all_low p [] all = tt
all_low p (None ∷ ts) all = (tt, all_low p ts all.1)
all_low p (Some t ∷ ts) all = (all.0.0, all_low p ts all.1)

loaded_low : (p : Past) (o : Option Loaded) → IfSome o (LoadHolds p) → AllByRecursion (λ x. IfSome x (λ t. p.floor ≤ℤ t)) (positions_of o)
loaded_low p None holds = tt
loaded_low p (Some l) holds = all_low p l.positions holds.1

pub cut_readable : (p : Past) (s : Listening) (time : ℤ) → ListeningHolds p s → cut s ≡ At time → p.floor ≤ℤ time
cut_readable p s time holds is =
    let parts = cut_is (first_loading (entries s.targets)) (least_position s) time is in
    let all = from_found (TargetHolds p) (entries s.targets) (to_true _ (entries_sorted s.targets)) (λ id l found. holds.targets id l (get-entries s.targets id ∙ found)) in
    let low = all_flat (TargetHolds p) (λ x. IfSome x (λ t. p.floor ≤ℤ t)) (λ (l : Listened). positions_of l.loaded) (λ l here. loaded_low p l.loaded here.1) (values s.targets) all in
    subst (λ o. IfSome o (λ t. p.floor ≤ℤ t)) parts.1 (least_above p.floor (flat_map (λ (l : Listened). positions_of l.loaded) (values s.targets)) low)
