-- The targets of a session where each is changed: as many, in the same order. One that was moved in a shard up to a time is there for good,
-- and a session that was raised isn't ready again.
use Rattle.std.proofs.Common.{◌≡◌, ℕ, ℤ, suc, zero, Bool, true, false, cond, List, [], ◌∷◌, ◌++◌, get_or, map, set, Option, Some, None, refl, sym, ap, ◌∙◌, subst, arith}
use Rattle.std.specs.Prelude.{◌&&◌, ◌||◌, T, int_lt, not}
use Rattle.std.specs.FinMap.{FinMap, entries, entries-from_sorted, entries-insert, entries_sorted, from_entries, from_sorted, get-from_entries, get-from_sorted, is_sorted, nat_cmp-IsAntisymmetric, put, same_entries_map, same_map}
use Rattle.std.specs.FinMap.Entries.{below_all, by_order}
use Rattle.std.specs.List.{AllByRecursion, flat_map, list_any}
use Rattle.std.specs.Ordering.{is_lt, nat_cmp}
use Rattle.std.specs.declared.cmp.Ordering.{Ordering}
use Rattle.std.specs.declared.cmp.Ordering.TheVariants.{Less, Equal, Greater}
use Rattle.std.proofs.lemmas.Cmp.{nat_cmp_total}
use Rattle.std.proofs.lemmas.Int.{ints}
use Rattle.fs_listen.specs.Cuts.{base, cut, cut_behind, first_loading, is_current, is_from, is_loaded, is_ready, is_ready_at, least, positions_of, some_new}
use Rattle.fs_listen.specs.Listening.{Listened, Listening, Loaded, each, later_of, loaded_at, loaded_one, made_current, moved, raised_to, with_loaded}
use Rattle.fs_listen.specs.declared.cut.Cut.TheVariants.{At}

-- ---- as many, in the same order

abbrev pub changed_all : (Listened → Listened) → List (ℕ × Listened) → List (ℕ × Listened)
changed_all change es = map (λ e. (e.0, change e.1)) es

below_same : (change : Listened → Listened) (x : ℕ) (es : List (ℕ × Listened)) → below_all nat_cmp x (changed_all change es) ≡ below_all nat_cmp x es
below_same change x [] = refl
below_same change x (e ∷ es) = ap (λ b. is_lt (nat_cmp x e.0) && b) (below_same change x es)

sorted_same : (change : Listened → Listened) (es : List (ℕ × Listened)) → is_sorted nat_cmp (changed_all change es) ≡ is_sorted nat_cmp es
sorted_same change [] = refl
sorted_same change (e ∷ es) = λ i. below_same change e.0 es i && sorted_same change es i

pub entries_each : (change : Listened → Listened) (s : Listening) → entries (each change s).targets ≡ changed_all change (entries s.targets)
entries_each change s =
    let es = changed_all change (entries s.targets) in
    let rise : T (is_sorted nat_cmp es) = subst T (sym (sorted_same change (entries s.targets))) (entries_sorted s.targets) in
    let same = same_map nat_cmp_total nat_cmp-IsAntisymmetric (from_entries es) (from_sorted es) (λ q. get-from_entries nat_cmp_total es q ∙ sym (get-from_sorted nat_cmp es q rise)) in
    ap entries same ∙ entries-from_sorted nat_cmp es rise

same_all : (change : Listened → Listened) (es : List (ℕ × Listened)) → AllByRecursion (λ (e : ℕ × Listened). change e.1 ≡ e.1) es → changed_all change es ≡ es
same_all change [] all = refl
same_all change (e ∷ es) all = λ i. (e.0, all.0 i) ∷ same_all change es all.1 i

-- where no target is changed, nothing is
pub each_same : (change : Listened → Listened) (s : Listening) → AllByRecursion (λ (e : ℕ × Listened). change e.1 ≡ e.1) (entries s.targets) → each change s ≡ s
each_same change s all =
    ap (λ (ts : FinMap nat_cmp Listened). record s { targets = ts }) (same_entries_map (each change s).targets s.targets (entries_each change s ∙ same_all change (entries s.targets) all))

-- what holds of a target where it is changed
pub all_changed : (P : Listened → Type 0) (change : Listened → Listened) → ((l : Listened) → P l → P (change l)) → (es : List (ℕ × Listened)) → AllByRecursion (λ (e : ℕ × Listened). P e.1) es
    → AllByRecursion (λ (e : ℕ × Listened). P e.1) (changed_all change es)
all_changed P change keeps [] all = tt
all_changed P change keeps (e ∷ es) all = (keeps e.1 all.0, all_changed P change keeps es all.1)

pub each_changed : (P : Listened → Type 0) (change : Listened → Listened) → ((l : Listened) → P (change l)) → (es : List (ℕ × Listened)) → AllByRecursion (λ (e : ℕ × Listened). P e.1) (changed_all change es)
each_changed P change makes [] = tt
each_changed P change makes (e ∷ es) = (makes e.1, each_changed P change makes es)

-- ---- which are loaded

pub first_changed : (change : Loaded → Loaded) (es : List (ℕ × Listened)) → first_loading (changed_all (λ l. record l { loaded = with_loaded change l.loaded }) es) ≡ first_loading es
first_changed change [] = refl
first_changed change (e ∷ es) = λ i. cond (kept_loaded e.1.loaded i) (first_changed change es i) (Some e.0) where
  kept_loaded : (o : Option Loaded) → is_loaded (with_loaded change o) ≡ is_loaded o
  kept_loaded None = refl
  kept_loaded (Some d) = refl

-- where all are, so they are where one is loaded
placed : (id : ℕ) (l : Listened) (e : ℕ × Listened) (es rest : List (ℕ × Listened)) (o : Ordering) → is_loaded l.loaded ≡ true → is_loaded e.1.loaded ≡ true → first_loading es ≡ None → first_loading rest ≡ None
    → first_loading (by_order o ((id, l) ∷ e ∷ es) ((e.0, l) ∷ es) (e ∷ rest)) ≡ None
placed id l e es rest Less here there all more = rw here (rw there all)
placed id l e es rest Equal here there all more = rw here all
placed id l e es rest Greater here there all more = rw there more

none_before : (e : ℕ × Listened) (es : List (ℕ × Listened)) (there : Bool) → cond there (first_loading es) (Some e.0) ≡ None → (there ≡ true) × (first_loading es ≡ None)
none_before e es true none = (refl, none)
none_before e es false none = absurd (cc)

put_loaded : (id : ℕ) (l : Listened) (es : List (ℕ × Listened)) → is_loaded l.loaded ≡ true → first_loading es ≡ None → first_loading (put nat_cmp id l es) ≡ None
put_loaded id l [] here none = rw here refl
put_loaded id l (e ∷ es) here none =
    let both = none_before e es (is_loaded e.1.loaded) none in
    placed id l e es (put nat_cmp id l es) (nat_cmp id e.0) here both.0 both.1 (put_loaded id l es here both.1)

pub loaded_first : (shards : ℕ) (time : ℤ) (reset : Bool) (id : ℕ) (found : Option Listened) (s : Listening) → first_loading (entries s.targets) ≡ None
    → first_loading (entries (loaded_at shards time reset id found s).targets) ≡ None
loaded_first shards time reset id None s none = none
loaded_first shards time reset id (Some l) s none =
    let k = loaded_one shards time reset l in
    ap first_loading (entries-insert nat_cmp_total s.targets id k) ∙ put_loaded id k (entries s.targets) refl none

-- ---- a position that was moved

same_either : (b : Bool) (t : ℤ) → Some (cond b t t) ≡ Some t
same_either true t = refl
same_either false t = refl

later_itself : (to p : ℤ) (b : Bool) → int_lt p to ≡ b → later_of to (Some (cond b to p)) ≡ Some (cond b to p)
later_itself to p true is = same_either (int_lt to to) to
later_itself to p false is = ap (λ b. Some (cond b to p)) is

later_again : (to : ℤ) (o : Option ℤ) → later_of to (later_of to o) ≡ later_of to o
later_again to None = refl
later_again to (Some p) = later_itself to p (int_lt p to) refl

module _ (f : Option ℤ → Option ℤ) (again : (o : Option ℤ) → f (f o) ≡ f o) where
  abbrev at_place : ℕ → List (Option ℤ) → List (Option ℤ)
  at_place i xs = set xs i (f (get_or xs i None))

  -- it is there
  place_again : (xs : List (Option ℤ)) (i : ℕ) → at_place i (at_place i xs) ≡ at_place i xs
  place_again [] i = refl
  place_again (x ∷ xs) zero = ap (λ y. y ∷ xs) (again x)
  place_again (x ∷ xs) (suc i) = ap (λ ys. x ∷ ys) (place_again xs i)

  -- and it stays there
  place_stays : (xs : List (Option ℤ)) (i j : ℕ) → at_place i xs ≡ xs → at_place i (at_place j xs) ≡ at_place j xs
  place_stays [] i j is = refl
  place_stays (x ∷ xs) zero zero is = ap (λ y. y ∷ xs) (again x)
  place_stays (x ∷ xs) zero (suc j) is = let first : f x ≡ x = cc in ap (λ y. y ∷ at_place j xs) first
  place_stays (x ∷ xs) (suc i) zero is = let rest : at_place i xs ≡ xs = cc in ap (λ ys. f x ∷ ys) rest
  place_stays (x ∷ xs) (suc i) (suc j) is = let rest : at_place i xs ≡ xs = cc in ap (λ ys. x ∷ ys) (place_stays xs i j rest)

-- a target moved in a shard
abbrev pub moves : ℕ → ℤ → Listened → Listened
moves shard to l = record l { loaded = with_loaded (moved shard to) l.loaded }

-- to move it there does nothing more
abbrev pub IsAt : ℕ → ℤ → Listened → Type 0
IsAt shard to l = moves shard to l ≡ l

moved_again : (shard : ℕ) (to : ℤ) (o : Option Loaded) → with_loaded (moved shard to) (with_loaded (moved shard to) o) ≡ with_loaded (moved shard to) o
moved_again shard to None = refl
moved_again shard to (Some d) = ap (λ ps. Some (record d { positions = ps })) (place_again (later_of to) (later_again to) d.positions shard)

pub is_at : (shard : ℕ) (to : ℤ) (l : Listened) → IsAt shard to (moves shard to l)
is_at shard to l = ap (λ o. record l { loaded = o }) (moved_again shard to l.loaded)

moved_stays : (shard other : ℕ) (to : ℤ) (o : Option Loaded) → with_loaded (moved shard to) o ≡ o → with_loaded (moved shard to) (with_loaded (moved other to) o) ≡ with_loaded (moved other to) o
moved_stays shard other to None is = refl
moved_stays shard other to (Some d) is = ap (λ ps. Some (record d { positions = ps })) (place_stays (later_of to) (later_again to) d.positions shard other (ap positions_of is))

pub stays_at : (shard other : ℕ) (to : ℤ) (l : Listened) → IsAt shard to l → IsAt shard to (moves other to l)
stays_at shard other to l is = ap (λ o. record l { loaded = o }) (moved_stays shard other to l.loaded (ap (λ (k : Listened). k.loaded) is))

-- also where its session is raised
abbrev pub renews : Listened → Listened
renews l = record l { loaded = with_loaded made_current l.loaded }

renewed_stays : (shard : ℕ) (to : ℤ) (o : Option Loaded) → with_loaded (moved shard to) o ≡ o → with_loaded (moved shard to) (with_loaded made_current o) ≡ with_loaded made_current o
renewed_stays shard to None is = refl
renewed_stays shard to (Some d) is = ap (λ ps. Some (record (made_current d) { positions = ps })) (ap positions_of is)

pub renewed_at : (shard : ℕ) (to : ℤ) (l : Listened) → IsAt shard to l → IsAt shard to (renews l)
renewed_at shard to l is = ap (λ o. record l { loaded = o }) (renewed_stays shard to l.loaded (ap (λ (k : Listened). k.loaded) is))

-- ---- a session that was raised

renewed_positions : (o : Option Loaded) → positions_of (with_loaded made_current o) ≡ positions_of o
renewed_positions None = refl
renewed_positions (Some d) = refl

-- the positions of all targets
abbrev all_positions : List (ℕ × Listened) → List (Option ℤ)
all_positions es = flat_map (λ (l : Listened). positions_of l.loaded) (map (λ e. e.1) es)

same_positions : (es : List (ℕ × Listened)) → all_positions (changed_all renews es) ≡ all_positions es
same_positions [] = refl
same_positions (e ∷ es) = λ i. renewed_positions e.1.loaded i ++ same_positions es i

cut_renewed : (s : Listening) (time : ℤ) → cut (raised_to time s) ≡ cut s
cut_renewed s time =
    let es = entries s.targets in
    ap (λ (fs : List (ℕ × Listened)). cut_behind (first_loading fs) (least (all_positions fs))) (entries_each renews s)
    ∙ (λ i. cut_behind (first_changed made_current es i) (least (same_positions es i)))

-- whether one of them is new
abbrev any_new : List (ℕ × Listened) → Bool
any_new es = list_any (λ (l : Listened). not (is_current l.loaded)) (map (λ e. e.1) es)

none_new : (es : List (ℕ × Listened)) → first_loading es ≡ None → any_new (changed_all renews es) ≡ false
none_new [] none = refl
none_new (e ∷ es) none = by_load (none_new es) e.1.loaded none where
  by_load : (first_loading es ≡ None → any_new (changed_all renews es) ≡ false) → (o : Option Loaded) → cond (is_loaded o) (first_loading es) (Some e.0) ≡ None → (not (is_current (with_loaded made_current o)) || any_new (changed_all renews es)) ≡ false
  by_load more None none = absurd (cc)
  by_load more (Some d) none = more none

all_loaded : (first : Option ℕ) (position : Option ℤ) (time : ℤ) → cut_behind first position ≡ At time → first ≡ None
all_loaded None position time is = refl
all_loaded (Some id) position time is = absurd (cc)

isnt_below : (t : ℤ) → int_lt t t ≡ false
isnt_below t = grind (arith, ints)

neither : (a b c : Bool) → b ≡ false → c ≡ false → (a && (b || c)) ≡ false
neither true b c not_b not_c = rw (not_b, not_c) refl
neither false b c not_b not_c = refl

pub never_ready : (s : Listening) (time : ℤ) → cut s ≡ At time → is_ready (raised_to time s) ≡ false
never_ready s time is =
    let r = raised_to time s in
    let loaded = all_loaded (first_loading (entries s.targets)) _ time is in
    ap (is_ready_at r) (cut_renewed s time ∙ is)
    ∙ neither (is_from (base r) time) (int_lt time time) (some_new r) (isnt_below time) (ap any_new (entries_each renews s) ∙ none_new (entries s.targets) loaded)
