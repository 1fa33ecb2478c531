-- What open sessions listen to is theirs and of times that can be told, still, after each event.
use Rattle.std.proofs.Common.{◌≡◌, ℕ, ◌+◌, ◌≤◌, ℤ, ◌≤ℤ◌, ◌<ℤ◌, Bool, true, false, cond, zero, suc, List, [], ◌∷◌, ◌++◌, map, Option, Some, None, refl, sym, ap, ◌∙◌, subst, arith}
use Rattle.std.specs.Prelude.{IfSome, ◌==◌, ◌≢◌, int_lt, slice_index_or, slice_set}
use Rattle.std.specs.FinMap.{entries, entries_sorted, get, get-empty, get-entries, get-insert, get-remove, insert, remove, values}
use Rattle.std.specs.List.{AllByRecursion, flat_map, range_with_len}
use Rattle.std.specs.Ordering.{eq_by_cmp, nat_cmp}
use Rattle.std.specs.Int.Signed.{≤ℤ_refl}
use Rattle.std.proofs.lemmas.Cmp.{nat_cmp_total}
use Rattle.std.proofs.lemmas.Int.{ints}
use Rattle.fs_path.proofs.Bools.{to_true}
use Rattle.fs_query.specs.declared.target.Target.{Target}
use Rattle.fs_txn.specs.Reading.{earlier as earlier_of}
use Rattle.fs_listen.specs.Cuts.{cut, first_loading, least, least_position, positions_of}
use Rattle.fs_listen.specs.Listening.{Listened, Listening, Loaded, added, each, has_shard, later_of, loaded, loaded_at, loaded_one, made_current, matched, moved, none_listened, raised_to, removed, with_loaded}
use Rattle.fs_listen.specs.declared.cut.Cut.TheVariants.{At}
use Rattle.fs_listen.proofs.Bounds.{AreBy, by_append, cut_is, least_within}
use Rattle.fs_listen.proofs.Listed.{at_found, from_found, number_is}
use Rattle.fs_listen.proofs.Targets.{from_each, get_each}
use Rattle.fs_machine.specs.Compact.{earlier, past_compacted}
use Rattle.fs_machine.specs.Listeners.{Listener, unheard, unlistening, with_listener, with_listening}
use Rattle.fs_machine.specs.ListenersHold.{AllDiffer, IsPosition, ListenersHold, ListeningHolds, LoadHolds, NumbersDiffer, NumbersHold, TargetHolds}
use Rattle.fs_machine.specs.Match.{matched_to}
use Rattle.fs_machine.specs.Past.{Past}
use Rattle.fs_machine.specs.Release.{past_released}
use Rattle.fs_machine.specs.Sessions.{without}
use Rattle.fs_machine.specs.UnreleasedRise.{UnreleasedRise}
use Rattle.fs_machine.specs.declared.session.Session.{Session}
use Rattle.fs_machine.proofs.FloorIsReleased.{IsBelow, all_below, below_rest, floor_below, rises_below}
use Rattle.fs_machine.proofs.Grows.{grows_released}
use Rattle.fs_machine.proofs.SessionsNumbered.{numbers_of}

-- ---- whose they are

-- the sessions that listen
abbrev pub listed_in : List Listener → List ℕ
listed_in ls = map (λ (l : Listener). l.session) ls

-- without the first that is it
abbrev less : ℕ → List ℕ → List ℕ
less k [] = []
less k (n ∷ ns) = cond (n == k) ns (n ∷ less k ns)

listed_more : (ls : List Listener) (l : Listener) → listed_in (ls ++ l ∷ []) ≡ listed_in ls ++ l.session ∷ []
listed_more [] l = refl
listed_more (k ∷ ls) l = ap (λ ns. k.session ∷ ns) (listed_more ls l)

pub numbers_more : (ss : List Session) (s : Session) → numbers_of (ss ++ s ∷ []) ≡ numbers_of ss ++ s.number ∷ []
numbers_more [] s = refl
numbers_more (t ∷ ss) s = ap (λ ns. t.number ∷ ns) (numbers_more ss s)

listed_unheard : (ls : List Listener) (k : ℕ) → listed_in (unheard k ls) ≡ less k (listed_in ls)
listed_unheard [] k = refl
listed_unheard (l ∷ ls) k = by_test (listed_unheard ls k) (l.session == k) where
  by_test : listed_in (unheard k ls) ≡ less k (listed_in ls) → (same : Bool) → listed_in (cond same ls (l ∷ unheard k ls)) ≡ cond same (listed_in ls) (l.session ∷ less k (listed_in ls))
  by_test rest true = refl
  by_test rest false = ap (λ ns. l.session ∷ ns) rest

numbers_without : (ss : List Session) (k : ℕ) → numbers_of (without k ss) ≡ less k (numbers_of ss)
numbers_without [] k = refl
numbers_without (s ∷ ss) k = by_test (numbers_without ss k) (s.number == k) where
  by_test : numbers_of (without k ss) ≡ less k (numbers_of ss) → (same : Bool) → numbers_of (cond same ss (s ∷ without k ss)) ≡ cond same (numbers_of ss) (s.number ∷ less k (numbers_of ss))
  by_test rest true = refl
  by_test rest false = ap (λ ns. s.number ∷ ns) rest

pub listed_with : (change : Listener → Listener) → ((l : Listener) → (change l).session ≡ l.session) → (session : ℕ) (ls : List Listener) → listed_in (with_listener session change ls) ≡ listed_in ls
listed_with change same session [] = refl
listed_with change same session (l ∷ ls) = by_test (listed_with change same session ls) (l.session == session) where
  by_test : listed_in (with_listener session change ls) ≡ listed_in ls → (here : Bool) → listed_in (cond here (change l ∷ ls) (l ∷ with_listener session change ls)) ≡ l.session ∷ listed_in ls
  by_test rest true = ap (λ n. n ∷ listed_in ls) (same l)
  by_test rest false = ap (λ ns. l.session ∷ ns) rest

pub listed_mapped : (change : Listener → Listener) → ((l : Listener) → (change l).session ≡ l.session) → (ls : List Listener) → listed_in (map change ls) ≡ listed_in ls
listed_mapped change same [] = refl
listed_mapped change same (l ∷ ls) = (λ i. same l i ∷ listed_mapped change same ls i)

-- ---- what holds of each of them

all_more : {X : Type 0} (P : X → Type 0) (xs : List X) (x : X) → AllByRecursion P xs → P x → AllByRecursion P (xs ++ x ∷ [])
all_more P [] x all one = (one, tt)
all_more P (y ∷ xs) x all one = (all.0, all_more P xs x all.1 one)

all_alike : {X : Type 0} (P Q : X → Type 0) → ((x : X) → P x → Q x) → (xs : List X) → AllByRecursion P xs → AllByRecursion Q xs
all_alike P Q turned [] all = tt
all_alike P Q turned (x ∷ xs) all = (turned x all.0, all_alike P Q turned xs all.1)

all_mapped : {X Y : Type 0} (P : X → Type 0) (Q : Y → Type 0) (f : X → Y) → ((x : X) → P x → Q (f x)) → (xs : List X) → AllByRecursion P xs → AllByRecursion Q (map f xs)
all_mapped P Q f turned [] all = tt
all_mapped P Q f turned (x ∷ xs) all = (turned x all.0, all_mapped P Q f turned xs all.1)

all_unheard : (P : Listener → Type 0) (ls : List Listener) (k : ℕ) → AllByRecursion P ls → AllByRecursion P (unheard k ls)
all_unheard P [] k all = tt
all_unheard P (l ∷ ls) k all = by_test (all_unheard P ls k all.1) (l.session == k) where
  by_test : AllByRecursion P (unheard k ls) → (same : Bool) → AllByRecursion P (cond same ls (l ∷ unheard k ls))
  by_test rest true = all.1
  by_test rest false = (all.0, rest)

all_with : (P Q : Listener → Type 0) (change : Listener → Listener) → ((l : Listener) → P l → Q l) → ((l : Listener) → P l → Q (change l)) → (session : ℕ) (ls : List Listener)
    → AllByRecursion P ls → AllByRecursion Q (with_listener session change ls)
all_with P Q change kept changed session [] all = tt
all_with P Q change kept changed session (l ∷ ls) all = by_test (all_with P Q change kept changed session ls all.1) (l.session == session) where
  by_test : AllByRecursion Q (with_listener session change ls) → (here : Bool) → AllByRecursion Q (cond here (change l ∷ ls) (l ∷ with_listener session change ls))
  by_test rest true = (changed l all.0, all_alike P Q kept ls all.1)
  by_test rest false = (kept l all.0, rest)

-- ---- no two have a number in common

differ_more : (ls : List Listener) (x : Listener) → AllByRecursion (λ l. NumbersDiffer l x) ls → AllDiffer ls → AllDiffer (ls ++ x ∷ [])
differ_more [] x apart differ = (tt, tt)
differ_more (l ∷ ls) x apart differ = (all_more (NumbersDiffer l) ls x differ.0 apart.0, differ_more ls x apart.1 differ.1)

differ_unheard : (ls : List Listener) (k : ℕ) → AllDiffer ls → AllDiffer (unheard k ls)
differ_unheard [] k differ = tt
differ_unheard (l ∷ ls) k differ = by_test (differ_unheard ls k differ.1) (l.session == k) where
  by_test : AllDiffer (unheard k ls) → (same : Bool) → AllDiffer (cond same ls (l ∷ unheard k ls))
  by_test rest true = differ.1
  by_test rest false = (all_unheard (NumbersDiffer l) ls k differ.0, rest)

-- a change of one of them keeps them apart, if it does so of any two
module _ (P : Listener → Type 0) (change : Listener → Listener)
    (first : (a b : Listener) → P a → P b → NumbersDiffer a b → NumbersDiffer (change a) b)
    (second : (a b : Listener) → P a → P b → NumbersDiffer a b → NumbersDiffer a (change b)) (session : ℕ) where
  differ_first : (l : Listener) (ls : List Listener) → P l → AllByRecursion P ls → AllByRecursion (NumbersDiffer l) ls → AllByRecursion (NumbersDiffer (change l)) ls
  differ_first l [] here all apart = tt
  differ_first l (k ∷ ls) here all apart = (first l k here all.0 apart.0, differ_first l ls here all.1 apart.1)

  differ_second : (l : Listener) (ls : List Listener) → P l → AllByRecursion P ls → AllByRecursion (NumbersDiffer l) ls → AllByRecursion (NumbersDiffer l) (with_listener session change ls)
  differ_second l [] here all apart = tt
  differ_second l (k ∷ ls) here all apart = by_test (differ_second l ls here all.1 apart.1) (k.session == session) where
    by_test : AllByRecursion (NumbersDiffer l) (with_listener session change ls) → (same : Bool) → AllByRecursion (NumbersDiffer l) (cond same (change k ∷ ls) (k ∷ with_listener session change ls))
    by_test rest true = (second l k here all.0 apart.0, apart.1)
    by_test rest false = (apart.0, rest)

  differ_with : (ls : List Listener) → AllByRecursion P ls → AllDiffer ls → AllDiffer (with_listener session change ls)
  differ_with [] all differ = tt
  differ_with (l ∷ ls) all differ = by_test (differ_with ls all.1 differ.1) (l.session == session) where
    by_test : AllDiffer (with_listener session change ls) → (same : Bool) → AllDiffer (cond same (change l ∷ ls) (l ∷ with_listener session change ls))
    by_test rest true = (differ_first l ls all.0 all.1 differ.0, differ.1)
    by_test rest false = (differ_second l ls all.0 all.1 differ.0, rest)

differ_from : (change : Listener → Listener) → ((l : Listener) → (change l).numbers ≡ l.numbers) → (a : Listener) (ls : List Listener) → AllByRecursion (NumbersDiffer a) ls
    → AllByRecursion (NumbersDiffer (change a)) (map change ls)
differ_from change same a ls apart =
    all_mapped (NumbersDiffer a) (NumbersDiffer (change a)) change
    (λ b differs id other n there. subst (λ ns. get ns other ≢ Some n) (sym (same b)) (differs id other n (ap (λ ns. get ns id) (sym (same a)) ∙ there))) ls apart

differ_mapped : (change : Listener → Listener) → ((l : Listener) → (change l).numbers ≡ l.numbers) → (ls : List Listener) → AllDiffer ls → AllDiffer (map change ls)
differ_mapped change same [] differ = tt
differ_mapped change same (l ∷ ls) differ = (differ_from change same l ls differ.0, differ_mapped change same ls differ.1)

-- ---- the times of what a session listens to

pub none_holds : (p : Past) → ListeningHolds p none_listened
none_holds p = record { raised = tt; targets = λ id l is. absurd (let none = sym (get-empty nat_cmp id) ∙ is in cc) }

pub added_holds : (p : Past) (id : ℕ) (t : Target) (token : Option ℤ) (s : Listening) → IfSome token (λ k. k ≤ℤ p.released) → ListeningHolds p s → ListeningHolds p (added id t token s)
added_holds p id t token s by holds = record {
  raised = holds.raised;
  targets = λ q l found. at_key q l (eq_by_cmp nat_cmp q id) (sym (get-insert nat_cmp_total s.targets id new q) ∙ found);
} where
  new : Listened
  new = record { target = t; token = token; loaded = None }

  at_key : (q : ℕ) (l : Listened) (same : Bool) → cond same (Some new) (get s.targets q) ≡ Some l → TargetHolds p l
  at_key q l true found = let one : new ≡ l = cc in subst (TargetHolds p) one (by, tt)
  at_key q l false found = holds.targets q l found

pub removed_holds : (p : Past) (id : ℕ) (s : Listening) → ListeningHolds p s → ListeningHolds p (removed id s)
removed_holds p id s holds = record {
  raised = holds.raised;
  targets = λ q l found. at_key q l (eq_by_cmp nat_cmp q id) (sym (get-remove nat_cmp_total s.targets id q) ∙ found);
} where
  at_key : (q : ℕ) (l : Listened) (same : Bool) → cond same None (get s.targets q) ≡ Some l → TargetHolds p l
  at_key q l true found = absurd (cc)
  at_key q l false found = holds.targets q l found

positions_hold : (p : Past) (shards : ℕ) (t : Target) (time : ℤ) (n from : ℕ) → p.floor ≤ℤ time → time ≤ℤ p.released
    → AllByRecursion (IsPosition p) (map (λ shard. cond (has_shard shards t shard) (Some time) None) (range_with_len from n))
positions_hold p shards t time zero from low high = tt
positions_hold p shards t time (suc n) from low high = (by_test (has_shard shards t from), positions_hold p shards t time n (from + 1) low high) where
  by_test : (has : Bool) → IsPosition p (cond has (Some time) None)
  by_test true = (low, high)
  by_test false = tt

pub loaded_holds : (p : Past) (shards id : ℕ) (time : ℤ) (reset : Bool) (s : Listening) → p.floor ≤ℤ time → time ≤ℤ p.released → ListeningHolds p s → ListeningHolds p (loaded shards id time reset s)
loaded_holds p shards id time reset s low high holds = at_found_one (get s.targets id) refl where
  at_found_one : (o : Option Listened) → get s.targets id ≡ o → ListeningHolds p (loaded_at shards time reset id o s)
  at_found_one None is = holds
  at_found_one (Some k) is = record {
    raised = holds.raised;
    targets = λ q l found. at_key q l (eq_by_cmp nat_cmp q id) (sym (get-insert nat_cmp_total s.targets id new q) ∙ found);
  } where
    new : Listened
    new = loaded_one shards time reset k

    at_key : (q : ℕ) (l : Listened) (same : Bool) → cond same (Some new) (get s.targets q) ≡ Some l → TargetHolds p l
    at_key q l true found =
        let one : new ≡ l = cc in
        subst (TargetHolds p) one ((holds.targets id k is).0, (high, positions_hold p shards k.target time shards 0 low high))
    at_key q l false found = holds.targets q l found

later_holds : (p : Past) (to : ℤ) (o : Option ℤ) → to ≤ℤ p.released → IsPosition p o → IsPosition p (later_of to o)
later_holds p to None by was = tt
later_holds p to (Some t) by was = by_test (int_lt t to) refl where
  by_test : (less : Bool) → int_lt t to ≡ less → (p.floor ≤ℤ cond less to t) × (cond less to t ≤ℤ p.released)
  by_test true is = let low = was.0 in let below : t <ℤ to = grind (arith, ints) in (omega (arith, ints), by)
  by_test false is = was

set_holds : (p : Past) (ts : List (Option ℤ)) (shard : ℕ) (to : ℤ) → to ≤ℤ p.released → AllByRecursion (IsPosition p) ts
    → AllByRecursion (IsPosition p) (slice_set ts shard (later_of to (slice_index_or ts shard None)))
set_holds p [] shard to by all = tt
set_holds p (t ∷ ts) zero to by all = (later_holds p to t by all.0, all.1)
set_holds p (t ∷ ts) (suc shard) to by all = (all.0, set_holds p ts shard to by all.1)

moved_holds : (p : Past) (shard : ℕ) (to : ℤ) (o : Option Loaded) → to ≤ℤ p.released → IfSome o (LoadHolds p) → IfSome (with_loaded (moved shard to) o) (LoadHolds p)
moved_holds p shard to None by was = tt
moved_holds p shard to (Some d) by was = (was.0, set_holds p d.positions shard to by was.1)

-- one change of each of its targets
each_holds : (p : Past) (change : Listened → Listened) → ((l : Listened) → TargetHolds p l → TargetHolds p (change l)) → (o : Option Listened) → IfSome o (TargetHolds p)
    → (l : Listened) → (k : Listened) × (o ≡ Some k) × (change k ≡ l) → TargetHolds p l
each_holds p change kept o here l (k, found, made) = subst (TargetHolds p) made (kept k (subst (λ x. IfSome x (TargetHolds p)) found here))

some_holds : (p : Past) (s : Listening) (id : ℕ) → ListeningHolds p s → IfSome (get s.targets id) (TargetHolds p)
some_holds p s id holds = by_found (get s.targets id) refl where
  by_found : (o : Option Listened) → get s.targets id ≡ o → IfSome o (TargetHolds p)
  by_found None is = tt
  by_found (Some l) is = holds.targets id l is

pub matched_holds : (p : Past) (shard : ℕ) (to : ℤ) (s : Listening) → to ≤ℤ p.released → ListeningHolds p s → ListeningHolds p (matched shard to s)
matched_holds p shard to s by holds = record {
  raised = holds.raised;
  targets = λ id l found.
      each_holds p change (λ k here. (here.0, moved_holds p shard to k.loaded by here.1)) (get s.targets id) (some_holds p s id holds) l
      (from_each change (get s.targets id) l (sym (get_each change s id) ∙ found));
} where
  change : Listened → Listened
  change l = record l { loaded = with_loaded (moved shard to) l.loaded }

made_holds : (p : Past) (o : Option Loaded) → IfSome o (LoadHolds p) → IfSome (with_loaded made_current o) (LoadHolds p)
made_holds p None was = tt
made_holds p (Some d) was = was

pub raised_holds : (p : Past) (time : ℤ) (s : Listening) → time ≤ℤ p.released → ListeningHolds p s → ListeningHolds p (raised_to time s)
raised_holds p time s by holds = record {
  raised = by;
  targets = λ id l found.
      each_holds p change (λ k here. (here.0, made_holds p k.loaded here.1)) (get s.targets id) (some_holds p s id holds) l
      (from_each change (get s.targets id) l (sym (get_each change s id) ∙ found));
} where
  change : Listened → Listened
  change l = record l { loaded = with_loaded made_current l.loaded }

-- beside another past, whose times are no closer
position_later : (p q : Past) (o : Option ℤ) → q.floor ≤ℤ p.floor → p.released ≤ℤ q.released → IsPosition p o → IsPosition q o
position_later p q None low high here = tt
position_later p q (Some t) low high here = let first = here.0 in let last = here.1 in (omega (arith, ints), omega (arith, ints))

some_later : (a b : ℤ) (o : Option ℤ) → a ≤ℤ b → IfSome o (λ t. t ≤ℤ a) → IfSome o (λ t. t ≤ℤ b)
some_later a b None later here = tt
some_later a b (Some t) later here = let by : t ≤ℤ a = here in omega (arith, ints)

load_later : (p q : Past) (o : Option Loaded) → q.floor ≤ℤ p.floor → p.released ≤ℤ q.released → IfSome o (LoadHolds p) → IfSome o (LoadHolds q)
load_later p q None low high here = tt
load_later p q (Some d) low high here =
    let by : d.time ≤ℤ p.released = here.0 in
    (omega (arith, ints), all_alike (IsPosition p) (IsPosition q) (λ o is. position_later p q o low high is) d.positions here.1)

pub holds_later : (p q : Past) (s : Listening) → q.floor ≤ℤ p.floor → p.released ≤ℤ q.released → ListeningHolds p s → ListeningHolds q s
holds_later p q s low high holds = record {
  raised = some_later p.released q.released s.raised high holds.raised;
  targets = λ id l found. let here = holds.targets id l found in (some_later p.released q.released l.token high here.0, load_later p q l.loaded low high here.1);
}

-- ---- its positions

abbrev all_positions : Listening → List (Option ℤ)
all_positions s = flat_map (λ (l : Listened). positions_of l.loaded) (values s.targets)

at_most_released : (p : Past) (ts : List (Option ℤ)) → AllByRecursion (IsPosition p) ts → AreBy p.released ts
at_most_released p [] all = tt
at_most_released p (None ∷ ts) all = (tt, at_most_released p ts all.1)
at_most_released p (Some t ∷ ts) all = (all.0.1, at_most_released p ts all.1)

of_load : (p : Past) (o : Option Loaded) → IfSome o (LoadHolds p) → AreBy p.released (positions_of o)
of_load p None here = tt
of_load p (Some d) here = at_most_released p d.positions here.1

of_each : (p : Past) (ls : List Listened) → AllByRecursion (TargetHolds p) ls → AreBy p.released (flat_map (λ (l : Listened). positions_of l.loaded) ls)
of_each p [] all = tt
of_each p (l ∷ ls) all = by_append (positions_of l.loaded) _ p.released (of_load p l.loaded all.0.1) (of_each p ls all.1)

-- a time at which its targets are together is released
pub cut_released : (p : Past) (s : Listening) (time : ℤ) → ListeningHolds p s → cut s ≡ At time → time ≤ℤ p.released
cut_released p s time holds is =
    let parts = cut_is (first_loading (entries s.targets)) (least_position s) time is in
    let all = from_found (TargetHolds p) (entries s.targets) (to_true _ (entries_sorted s.targets)) (λ id l found. holds.targets id l (get-entries s.targets id ∙ found)) in
    least_within (all_positions s) p.released time (of_each p (values s.targets) all) parts.1

-- what is below the least position is below each
below_apart : (t : ℤ) (ts us : List (Option ℤ)) → AllByRecursion (IsBelow t) (ts ++ us) → AllByRecursion (IsBelow t) ts × AllByRecursion (IsBelow t) us
below_apart t [] us all = (tt, all)
below_apart t (x ∷ ts) us all = let rest = below_apart t ts us all.1 in ((all.0, rest.0), rest.1)

below_each : (t : ℤ) (ls : List Listened) → AllByRecursion (IsBelow t) (flat_map (λ (l : Listened). positions_of l.loaded) ls) → AllByRecursion (λ (l : Listened). AllByRecursion (IsBelow t) (positions_of l.loaded)) ls
below_each t [] all = tt
below_each t (l ∷ ls) all = let both = below_apart t (positions_of l.loaded) _ all in (both.0, below_each t ls both.1)

below_found : (t : ℤ) (s : Listening) (id : ℕ) (l : Listened) → IsBelow t (least_position s) → get s.targets id ≡ Some l → AllByRecursion (IsBelow t) (positions_of l.loaded)
below_found t s id l below found =
    at_found (λ (k : Listened). AllByRecursion (IsBelow t) (positions_of k.loaded)) (λ (e : ℕ × Listened). e.1) id l (entries s.targets) (sym (get-entries s.targets id) ∙ found)
    (below_each t (values s.targets) (all_below t (all_positions s) below))

-- ---- what can be read begins later

module _ (p : Past) (first : Option ℤ) (to : ℤ) where
  abbrev risen : Past
  risen = past_compacted p first to

  abbrev rises_to : ℤ
  rises_to = earlier_of first (earlier to p.released)

  position_compacted : (o : Option ℤ) → IsBelow rises_to o → IsPosition p o → IsPosition risen o
  position_compacted None below here = tt
  position_compacted (Some t) below here = (floor_below p first to t here.0 below, here.1)

  positions_compacted : (ts : List (Option ℤ)) → AllByRecursion (IsBelow rises_to) ts → AllByRecursion (IsPosition p) ts → AllByRecursion (IsPosition risen) ts
  positions_compacted [] below all = tt
  positions_compacted (t ∷ ts) below all = (position_compacted t below.0 all.0, positions_compacted ts below.1 all.1)

  load_compacted : (o : Option Loaded) → AllByRecursion (IsBelow rises_to) (positions_of o) → IfSome o (LoadHolds p) → IfSome o (LoadHolds risen)
  load_compacted None below here = tt
  load_compacted (Some d) below here = (here.0, positions_compacted d.positions below here.1)

  compacted_holds : (s : Listening) → IsBelow rises_to (least_position s) → ListeningHolds p s → ListeningHolds risen s
  compacted_holds s below holds = record {
    raised = holds.raised;
    targets = λ id l found. let here = holds.targets id l found in (here.0, load_compacted l.loaded (below_found rises_to s id l below found) here.1);
  }

  all_compacted : (ls : List Listener) → AllByRecursion (IsBelow rises_to) (map (λ (l : Listener). least_position l.listening) ls) → AllByRecursion (λ (l : Listener). ListeningHolds p l.listening) ls
      → AllByRecursion (λ (l : Listener). ListeningHolds risen l.listening) ls
  all_compacted [] below all = tt
  all_compacted (l ∷ ls) below all = (compacted_holds l.listening below.0 all.0, all_compacted ls below.1 all.1)

-- ---- the numbers of its targets

none_numbered : (given session : ℕ) → NumbersHold given (unlistening session)
none_numbered given session = record {
  there = λ id t is. absurd (let none = sym (get-empty nat_cmp id) ∙ is in cc);
  given = λ id n is. absurd (let none = sym (get-empty nat_cmp id) ∙ is in cc);
  one = λ id other n is also. absurd (let none = sym (get-empty nat_cmp id) ∙ is in cc);
}

numbers_later : (given more : ℕ) (l : Listener) → given ≤ more → NumbersHold given l → NumbersHold more l
numbers_later given more l later holds = record { there = holds.there; given = λ id n is. let by = holds.given id n is in omega arith; one = holds.one }

-- other targets, none of which is new
numbers_kept : (given : ℕ) (l : Listener) (s : Listening) → ((id : ℕ) (t : Listened) → get s.targets id ≡ Some t → (k : Listened) × (get l.listening.targets id ≡ Some k)) → NumbersHold given l
    → NumbersHold given (record l { listening = s })
numbers_kept given l s before holds = record {
  there = λ id t is. let was = before id t is in holds.there id was.0 was.1;
  given = holds.given;
  one = holds.one;
}

numbers_added : (given id : ℕ) (t : Target) (token : Option ℤ) (l : Listener) → NumbersHold given l
    → NumbersHold (given + 1) (record l { listening = added id t token l.listening; numbers = insert l.numbers id (given + 1) })
numbers_added given id t token l holds = record {
  there = λ q k found. there q k (eq_by_cmp nat_cmp q id) (get-insert nat_cmp_total l.numbers id (given + 1) q) (sym (get-insert nat_cmp_total l.listening.targets id new q) ∙ found);
  given = λ q n found. within n (eq_by_cmp nat_cmp q id) q (sym (get-insert nat_cmp_total l.numbers id (given + 1) q) ∙ found);
  one = λ q r n found also. one q r n (eq_by_cmp nat_cmp q id) (eq_by_cmp nat_cmp r id) refl refl
      (sym (get-insert nat_cmp_total l.numbers id (given + 1) q) ∙ found) (sym (get-insert nat_cmp_total l.numbers id (given + 1) r) ∙ also);
} where
  new : Listened
  new = record { target = t; token = token; loaded = None }

  there : (q : ℕ) (k : Listened) (same : Bool) → get (insert l.numbers id (given + 1)) q ≡ cond same (Some (given + 1)) (get l.numbers q) → cond same (Some new) (get l.listening.targets q) ≡ Some k
      → (n : ℕ) × (get (insert l.numbers id (given + 1)) q ≡ Some n)
  there q k true is found = (given + 1, is)
  there q k false is found = let was = holds.there q k found in (was.0, is ∙ was.1)

  within : (n : ℕ) (same : Bool) (q : ℕ) → cond same (Some (given + 1)) (get l.numbers q) ≡ Some n → n ≤ given + 1
  within n true q found = let one : given + 1 ≡ n = cc in omega arith
  within n false q found = let by = holds.given q n found in omega arith

  one : (q r n : ℕ) (same other : Bool) → eq_by_cmp nat_cmp q id ≡ same → eq_by_cmp nat_cmp r id ≡ other → cond same (Some (given + 1)) (get l.numbers q) ≡ Some n
      → cond other (Some (given + 1)) (get l.numbers r) ≡ Some n → q ≡ r
  one q r n true true is also found too = number_is q id is ∙ sym (number_is r id also)
  one q r n true false is also found too = absurd (let new_one : given + 1 ≡ n = cc in let by = holds.given r n too in omega arith)
  one q r n false true is also found too = absurd (let new_one : given + 1 ≡ n = cc in let by = holds.given q n found in omega arith)
  one q r n false false is also found too = holds.one q r n found too

numbers_removed : (given id : ℕ) (l : Listener) → NumbersHold given l → NumbersHold given (record l { listening = removed id l.listening; numbers = remove l.numbers id })
numbers_removed given id l holds = record {
  there = λ q k found. there q k (eq_by_cmp nat_cmp q id) (get-remove nat_cmp_total l.numbers id q) (sym (get-remove nat_cmp_total l.listening.targets id q) ∙ found);
  given = λ q n found. holds.given q n (was q n (eq_by_cmp nat_cmp q id) (sym (get-remove nat_cmp_total l.numbers id q) ∙ found));
  one = λ q r n found also. holds.one q r n (was q n (eq_by_cmp nat_cmp q id) (sym (get-remove nat_cmp_total l.numbers id q) ∙ found))
      (was r n (eq_by_cmp nat_cmp r id) (sym (get-remove nat_cmp_total l.numbers id r) ∙ also));
} where
  there : (q : ℕ) (k : Listened) (same : Bool) → get (remove l.numbers id) q ≡ cond same None (get l.numbers q) → cond same None (get l.listening.targets q) ≡ Some k
      → (n : ℕ) × (get (remove l.numbers id) q ≡ Some n)
  there q k true is found = absurd (cc)
  there q k false is found = let had = holds.there q k found in (had.0, is ∙ had.1)

  was : (q n : ℕ) (same : Bool) → cond same None (get l.numbers q) ≡ Some n → get l.numbers q ≡ Some n
  was q n true found = absurd (cc)
  was q n false found = found

-- a new number is that of no other session's target
module _ (given id : ℕ) (t : Target) (token : Option ℤ) where
  abbrev with_new : Listener → Listener
  with_new l = record l { listening = added id t token l.listening; numbers = insert l.numbers id (given + 1) }

  was_or_new : (l : Listener) (q n : ℕ) → n ≤ given → get (insert l.numbers id (given + 1)) q ≡ Some n → get l.numbers q ≡ Some n
  was_or_new l q n by found = by_key (eq_by_cmp nat_cmp q id) (sym (get-insert nat_cmp_total l.numbers id (given + 1) q) ∙ found) where
    by_key : (same : Bool) → cond same (Some (given + 1)) (get l.numbers q) ≡ Some n → get l.numbers q ≡ Some n
    by_key true is = absurd (let one : given + 1 ≡ n = cc in omega arith)
    by_key false is = is

  new_first : (a b : Listener) → NumbersHold given a → NumbersHold given b → NumbersDiffer a b → NumbersDiffer (with_new a) b
  new_first a b here there differs q r n found also = differs q r n (was_or_new a q n (there.given r n also) found) also

  new_second : (a b : Listener) → NumbersHold given a → NumbersHold given b → NumbersDiffer a b → NumbersDiffer a (with_new b)
  new_second a b here there differs q r n found also = differs q r n found (was_or_new b r n (here.given q n found) also)

-- and one that is gone is none's
module _ (id : ℕ) where
  abbrev with_less : Listener → Listener
  with_less l = record l { listening = removed id l.listening; numbers = remove l.numbers id }

  was_there : (l : Listener) (q n : ℕ) → get (remove l.numbers id) q ≡ Some n → get l.numbers q ≡ Some n
  was_there l q n found = by_key (eq_by_cmp nat_cmp q id) (sym (get-remove nat_cmp_total l.numbers id q) ∙ found) where
    by_key : (same : Bool) → cond same None (get l.numbers q) ≡ Some n → get l.numbers q ≡ Some n
    by_key true is = absurd (cc)
    by_key false is = is

  less_first : (a b : Listener) → NumbersDiffer a b → NumbersDiffer (with_less a) b
  less_first a b differs q r n found also = differs q r n (was_there a q n found) also

  less_second : (a b : Listener) → NumbersDiffer a b → NumbersDiffer a (with_less b)
  less_second a b differs q r n found also = differs q r n found (was_there b r n also)

-- ---- each event

pub listeners_none : (p : Past) (given : ℕ) → ListenersHold p [] [] given
listeners_none p given = record { listed = refl; times = tt; numbers = tt; differ = tt }

pub listeners_opened : (p : Past) (ss : List Session) (ls : List Listener) (given number : ℕ) → ListenersHold p ss ls given
    → ListenersHold p (ss ++ record { number = number; outbox = []; has_owned = false } ∷ []) (ls ++ unlistening number ∷ []) given
listeners_opened p ss ls given number holds = record {
  listed = listed_more ls (unlistening number) ∙ ap (λ ns. ns ++ number ∷ []) holds.listed ∙ sym (numbers_more ss (record { number = number; outbox = []; has_owned = false }));
  times = all_more (λ (l : Listener). ListeningHolds p l.listening) ls (unlistening number) holds.times (none_holds p);
  numbers = all_more (NumbersHold given) ls (unlistening number) holds.numbers (none_numbered given number);
  differ = differ_more ls (unlistening number)
      (all_alike (NumbersHold given) (λ l. NumbersDiffer l (unlistening number)) (λ l here id other n is also. let none = sym (get-empty nat_cmp other) ∙ also in cc) ls holds.numbers) holds.differ;
}

pub listeners_departed : (p : Past) (ss : List Session) (ls : List Listener) (given session : ℕ) → ListenersHold p ss ls given → ListenersHold p (without session ss) (unheard session ls) given
listeners_departed p ss ls given session holds = record {
  listed = listed_unheard ls session ∙ ap (less session) holds.listed ∙ sym (numbers_without ss session);
  times = all_unheard (λ (l : Listener). ListeningHolds p l.listening) ls session holds.times;
  numbers = all_unheard (NumbersHold given) ls session holds.numbers;
  differ = differ_unheard ls session holds.differ;
}

-- with other messages
pub listeners_told : (p : Past) (ss other : List Session) (ls : List Listener) (given : ℕ) → numbers_of other ≡ numbers_of ss → ListenersHold p ss ls given → ListenersHold p other ls given
listeners_told p ss other ls given same holds = record { listed = holds.listed ∙ sym same; times = holds.times; numbers = holds.numbers; differ = holds.differ }

-- beside another past, whose times are no closer
pub listeners_later : (p q : Past) (ss : List Session) (ls : List Listener) (given : ℕ) → q.floor ≤ℤ p.floor → p.released ≤ℤ q.released → ListenersHold p ss ls given → ListenersHold q ss ls given
listeners_later p q ss ls given low high holds = record {
  listed = holds.listed;
  times = all_alike (λ (l : Listener). ListeningHolds p l.listening) (λ (l : Listener). ListeningHolds q l.listening) (λ l here. holds_later p q l.listening low high here) ls holds.times;
  numbers = holds.numbers;
  differ = holds.differ;
}

-- a release: more is released, and replies are let out
pub listeners_released : (p : Past) (ss other : List Session) (ls : List Listener) (given : ℕ) → UnreleasedRise p → numbers_of other ≡ numbers_of ss → ListenersHold p ss ls given
    → ListenersHold (past_released p) other ls given
listeners_released p ss other ls given above same holds =
    listeners_later p (past_released p) other ls given (≤ℤ_refl p.floor) (grows_released p above).released (listeners_told p ss other ls given same holds)

pub listeners_compacted : (p : Past) (ss : List Session) (ls : List Listener) (given : ℕ) (first : Option ℤ) (to : ℤ) → ListenersHold p ss ls given
    → ListenersHold (past_compacted p (least (first ∷ map (λ (l : Listener). least_position l.listening) ls)) to) ss ls given
listeners_compacted p ss ls given first to holds = record {
  listed = holds.listed;
  times =
      let positions = map (λ (l : Listener). least_position l.listening) ls in
      let asked = least (first ∷ positions) in
      all_compacted p asked to ls (all_below (rises_to p asked to) positions (below_rest (rises_to p asked to) first positions (rises_below p asked to))) holds.times;
  numbers = holds.numbers;
  differ = holds.differ;
}

pub listeners_added : (p : Past) (ss : List Session) (ls : List Listener) (given session id : ℕ) (t : Target) (token : Option ℤ) → IfSome token (λ k. k ≤ℤ p.released) → ListenersHold p ss ls given
    → ListenersHold p ss (with_listener session (λ l. record l { listening = added id t token l.listening; numbers = insert l.numbers id (given + 1) }) ls) (given + 1)
listeners_added p ss ls given session id t token by holds = record {
  listed = listed_with (with_new given id t token) (λ l. refl) session ls ∙ holds.listed;
  times = all_with (λ (l : Listener). ListeningHolds p l.listening) (λ (l : Listener). ListeningHolds p l.listening) (with_new given id t token) (λ l here. here) (λ l here. added_holds p id t token l.listening by here) session ls holds.times;
  numbers = all_with (NumbersHold given) (NumbersHold (given + 1)) (with_new given id t token) (λ l here. numbers_later given (given + 1) l (omega arith) here) (λ l here. numbers_added given id t token l here) session ls holds.numbers;
  differ = differ_with (NumbersHold given) (with_new given id t token) (new_first given id t token) (new_second given id t token) session ls holds.numbers holds.differ;
}

pub listeners_removed : (p : Past) (ss : List Session) (ls : List Listener) (given session id : ℕ) → ListenersHold p ss ls given
    → ListenersHold p ss (with_listener session (λ l. record l { listening = removed id l.listening; numbers = remove l.numbers id }) ls) given
listeners_removed p ss ls given session id holds = record {
  listed = listed_with (with_less id) (λ l. refl) session ls ∙ holds.listed;
  times = all_with (λ (l : Listener). ListeningHolds p l.listening) (λ (l : Listener). ListeningHolds p l.listening) (with_less id) (λ l here. here) (λ l here. removed_holds p id l.listening here) session ls holds.times;
  numbers = all_with (NumbersHold given) (NumbersHold given) (with_less id) (λ l here. here) (λ l here. numbers_removed given id l here) session ls holds.numbers;
  differ = differ_with (NumbersHold given) (with_less id) (λ a b here there differs. less_first id a b differs) (λ a b here there differs. less_second id a b differs) session ls holds.numbers holds.differ;
}

-- a change of what a session listens to by which it gets no target
module _ (p : Past) (change : Listening → Listening) (kept : (s : Listening) → ListeningHolds p s → ListeningHolds p (change s))
    (before : (s : Listening) (id : ℕ) (t : Listened) → get (change s).targets id ≡ Some t → (k : Listened) × (get s.targets id ≡ Some k)) where
  abbrev one_changed : Listener → Listener
  one_changed l = record l { listening = change l.listening }

  listeners_changed : (ss : List Session) (ls : List Listener) (given session : ℕ) → ListenersHold p ss ls given → ListenersHold p ss (with_listening session change ls) given
  listeners_changed ss ls given session holds = record {
    listed = listed_with one_changed (λ l. refl) session ls ∙ holds.listed;
    times = all_with (λ (l : Listener). ListeningHolds p l.listening) (λ (l : Listener). ListeningHolds p l.listening) one_changed (λ l here. here) (λ l here. kept l.listening here) session ls holds.times;
    numbers = all_with (NumbersHold given) (NumbersHold given) one_changed (λ l here. here) (λ l here. numbers_kept given l (change l.listening) (before l.listening) here) session ls holds.numbers;
    differ = differ_with (NumbersHold given) one_changed (λ a b here there differs. differs) (λ a b here there differs. differs) session ls holds.numbers holds.differ;
  }

  all_changed : (ss : List Session) (ls : List Listener) (given : ℕ) → ListenersHold p ss ls given → ListenersHold p ss (map one_changed ls) given
  all_changed ss ls given holds = record {
    listed = listed_mapped one_changed (λ l. refl) ls ∙ holds.listed;
    times = all_mapped (λ (l : Listener). ListeningHolds p l.listening) (λ (l : Listener). ListeningHolds p l.listening) one_changed (λ l here. kept l.listening here) ls holds.times;
    numbers = all_mapped (NumbersHold given) (NumbersHold given) one_changed (λ l here. numbers_kept given l (change l.listening) (before l.listening) here) ls holds.numbers;
    differ = differ_mapped one_changed (λ l. refl) ls holds.differ;
  }

each_before : (change : Listened → Listened) (s : Listening) (id : ℕ) (t : Listened) → get (each change s).targets id ≡ Some t → (k : Listened) × (get s.targets id ≡ Some k)
each_before change s id t found = let was = from_each change (get s.targets id) t (sym (get_each change s id) ∙ found) in (was.0, was.1)

loaded_before : (shards target : ℕ) (time : ℤ) (reset : Bool) (s : Listening) (id : ℕ) (t : Listened) → get (loaded shards target time reset s).targets id ≡ Some t → (k : Listened) × (get s.targets id ≡ Some k)
loaded_before shards target time reset s id t found = at_one (get s.targets target) refl found where
  at_one : (o : Option Listened) → get s.targets target ≡ o → get (loaded_at shards time reset target o s).targets id ≡ Some t → (k : Listened) × (get s.targets id ≡ Some k)
  at_one None is got = (t, got)
  at_one (Some k) is got = at_key (eq_by_cmp nat_cmp id target) refl (sym (get-insert nat_cmp_total s.targets target (loaded_one shards time reset k) id) ∙ got) where
    at_key : (same : Bool) → eq_by_cmp nat_cmp id target ≡ same → cond same (Some (loaded_one shards time reset k)) (get s.targets id) ≡ Some t → (j : Listened) × (get s.targets id ≡ Some j)
    at_key true ties got = (k, ap (get s.targets) (number_is id target ties) ∙ is)
    at_key false ties got = (t, got)

pub listeners_loaded : (p : Past) (ss : List Session) (ls : List Listener) (given session shards target : ℕ) (time : ℤ) (reset : Bool) → p.floor ≤ℤ time → time ≤ℤ p.released → ListenersHold p ss ls given
    → ListenersHold p ss (with_listening session (loaded shards target time reset) ls) given
listeners_loaded p ss ls given session shards target time reset low high holds =
    listeners_changed p (loaded shards target time reset) (λ s here. loaded_holds p shards target time reset s low high here) (loaded_before shards target time reset) ss ls given session holds

pub listeners_matched : (p : Past) (ss : List Session) (ls : List Listener) (given shard : ℕ) (to : ℤ) → to ≤ℤ p.released → ListenersHold p ss ls given → ListenersHold p ss (map (matched_to shard to) ls) given
listeners_matched p ss ls given shard to by holds =
    all_changed p (matched shard to) (λ s here. matched_holds p shard to s by here)
    (each_before (λ (l : Listened). record l { loaded = with_loaded (moved shard to) l.loaded })) ss ls given holds

pub listeners_raised : (p : Past) (ss : List Session) (ls : List Listener) (given session : ℕ) (time : ℤ) → time ≤ℤ p.released → ListenersHold p ss ls given
    → ListenersHold p ss (with_listening session (raised_to time) ls) given
listeners_raised p ss ls given session time by holds =
    listeners_changed p (raised_to time) (λ s here. raised_holds p time s by here)
    (each_before (λ (l : Listened). record l { loaded = with_loaded made_current l.loaded })) ss ls given session holds
