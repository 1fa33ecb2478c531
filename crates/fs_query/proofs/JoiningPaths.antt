-- The paths that join a query's order, one behind the other.
use Rattle.std.proofs.Common.{◌≡◌, ℕ, ◌<◌, Bool, true, false, cond, List, [], ◌∷◌, ◌++◌, map, drop, get_or, ◌+◌, length, refl, sym, ap, subst, ◌∙◌}
use Rattle.std.specs.Prelude.{Option, Some, None, ◌&&◌}
use Rattle.std.specs.List.{AllByRecursion, filter}
use Rattle.std.specs.List.Sorted.{IsStrictlySortedBy}
use Rattle.std.specs.Ordering.{is_gt, ordering_reverse, match_ordering}
use Rattle.std.specs.declared.cmp.Ordering.{Ordering}
use Rattle.std.specs.declared.cmp.Ordering.TheVariants.{Less, Equal, Greater}
use Rattle.std.proofs.Math.Bridge.{le_prop}
use Rattle.std.proofs.lemmas.List.{drop_more}
use Rattle.fs_path.specs.FieldOrder.{by_parts}
use Rattle.fs_path.specs.TextOrder.{ids_cmp_total, ids_same}
use Rattle.fs_path.specs.declared.field.FieldPath.{FieldPath}
use Rattle.fs_query.specs.Asked.{Asked}
use Rattle.fs_query.specs.Condition.{conditions_of}
use Rattle.fs_query.specs.View.{view}
use Rattle.fs_query.specs.declared.filter.Filter.{Filter}
use Rattle.fs_query.specs.Joining.{is_above, lesser, nearer, least_of}
use Rattle.fs_query.specs.Normal.{inequality_paths, inequality_paths_of, put_path, in_order, joins, joining}
use Rattle.fs_query.specs.declared.order.Order.{Order}

abbrev pub Rise : List FieldPath → Type 0
Rise ps = IsStrictlySortedBy by_parts ps

-- ---- the order of paths

turn : (p q : FieldPath) → by_parts p q ≡ Greater → by_parts q p ≡ Less
turn p q e = ids_cmp_total.antisymm q.parts p.parts ∙ ap ordering_reverse e

turn_back : (p q : FieldPath) → by_parts p q ≡ Less → by_parts q p ≡ Greater
turn_back p q e = ids_cmp_total.antisymm q.parts p.parts ∙ ap ordering_reverse e

chain : (p q r : FieldPath) → by_parts p q ≡ Less → by_parts q r ≡ Less → by_parts p r ≡ Less
chain p q r e f = ids_cmp_total.trans p.parts q.parts r.parts e f

own_reverse : (o : Ordering) → o ≡ ordering_reverse o → o ≡ Equal
own_reverse Less e = absurd (cc e)
own_reverse Equal e = refl
own_reverse Greater e = absurd (cc e)

same_equal : (p : FieldPath) → by_parts p p ≡ Equal
same_equal p = own_reverse (by_parts p p) (ids_cmp_total.antisymm p.parts p.parts)

gt_is : (o : Ordering) → is_gt o ≡ true → o ≡ Greater
gt_is Less e = absurd (cc e)
gt_is Equal e = absurd (cc e)
gt_is Greater e = refl

-- paths with the same names are one
abbrev path_of : (names : List (List ℕ)) → 0 < length names → FieldPath
path_of names some = record { parts = names; some = some }

pub path_same : (p q : FieldPath) → p.parts ≡ q.parts → p ≡ q
path_same p q e =
    subst (λ (names : List (List ℕ)). (some : 0 < length names) → p ≡ path_of names some) e
    (λ some. ap (path_of p.parts) (le_prop p.some some)) q.some

pub equal_paths : (p q : FieldPath) → by_parts p q ≡ Equal → p ≡ q
equal_paths p q e = path_same p q (ids_same p.parts q.parts e)

-- greater than a greater one
gt_chain : (p q r : FieldPath) → is_gt (by_parts p q) ≡ true → is_gt (by_parts q r) ≡ true → is_gt (by_parts p r) ≡ true
gt_chain p q r e f =
    ap is_gt (turn_back r p (chain r q p (turn q r (gt_is (by_parts q r) f)) (turn p q (gt_is (by_parts p q) e))))

-- not greater than one that isn't greater
not_gt_by : (p q r : FieldPath) (o s : Ordering) → by_parts p q ≡ o → by_parts q r ≡ s → is_gt o ≡ false → is_gt s ≡ false → is_gt (by_parts p r) ≡ false
not_gt_by p q r Less Less e f g h = ap is_gt (chain p q r e f)
not_gt_by p q r Equal s e f g h = ap (λ (x : FieldPath). is_gt (by_parts x r)) (equal_paths p q e) ∙ ap is_gt f ∙ h
not_gt_by p q r Less Equal e f g h = ap (λ (x : FieldPath). is_gt (by_parts p x)) (sym (equal_paths q r f)) ∙ ap is_gt e ∙ g
not_gt_by p q r Less Greater e f g h = absurd (cc h)
not_gt_by p q r Greater s e f g h = absurd (cc g)

not_gt : (p q r : FieldPath) → is_gt (by_parts p q) ≡ false → is_gt (by_parts q r) ≡ false → is_gt (by_parts p r) ≡ false
not_gt p q r e f = not_gt_by p q r (by_parts p q) (by_parts q r) refl refl e f

-- ---- above a path

above_more : (after : Option FieldPath) (p q : FieldPath) → by_parts p q ≡ Less → is_above p after ≡ true → is_above q after ≡ true
above_more None p q e a = refl
above_more (Some r) p q e a = gt_chain q p r (ap is_gt (turn_back p q e)) a

-- those from the first on that is above a path
abbrev pub behind : Option FieldPath → List FieldPath → List FieldPath
behind after [] = []
behind after (p ∷ ps) = cond (is_above p after) (p ∷ ps) (behind after ps)

abbrev pub first : List FieldPath → Option FieldPath
first [] = None
first (p ∷ ps) = Some p

abbrev lesser_of : Option FieldPath → Option FieldPath → Option FieldPath
lesser_of best None = best
lesser_of best (Some p) = lesser best p

none_lesser : (h : Option FieldPath) → lesser_of None h ≡ h
none_lesser None = refl
none_lesser (Some p) = refl

-- the lesser of three, whichever two come first
lesser_assoc_by : (q p r : FieldPath) (g h : Bool) → is_gt (by_parts q p) ≡ g → is_gt (by_parts p r) ≡ h
    → lesser (cond g (Some p) (Some q)) r ≡ lesser_of (Some q) (cond h (Some r) (Some p))
lesser_assoc_by q p r true true e f =
    ap (λ b. cond b (Some r) (Some p)) f ∙ ap (λ b. cond b (Some r) (Some q)) (sym (gt_chain q p r e f))
lesser_assoc_by q p r true false e f = ap (λ b. cond b (Some r) (Some p)) f ∙ ap (λ b. cond b (Some p) (Some q)) (sym e)
lesser_assoc_by q p r false true e f = refl
lesser_assoc_by q p r false false e f =
    ap (λ b. cond b (Some r) (Some q)) (not_gt q p r e f) ∙ ap (λ b. cond b (Some p) (Some q)) (sym e)

lesser_assoc : (best : Option FieldPath) (p : FieldPath) (h : Option FieldPath) → lesser_of (lesser best p) h ≡ lesser_of best (lesser_of (Some p) h)
lesser_assoc best p None = refl
lesser_assoc None p (Some r) = sym (none_lesser (lesser (Some p) r))
lesser_assoc (Some q) p (Some r) = lesser_assoc_by q p r (is_gt (by_parts q p)) (is_gt (by_parts p r)) refl refl

-- ---- the first above a path, when one more is put in its place

put_first_by : (after : Option FieldPath) (p q : FieldPath) (qs : List FieldPath) (o : Ordering) (a b : Bool)
    → by_parts p q ≡ o → is_above p after ≡ a → is_above q after ≡ b
    → first (behind after (put_path p qs)) ≡ cond a (lesser_of (Some p) (first (behind after qs))) (first (behind after qs))
    → first (behind after (match_ordering o (p ∷ q ∷ qs) (q ∷ qs) (q ∷ put_path p qs)))
    ≡ cond a (lesser_of (Some p) (first (cond b (q ∷ qs) (behind after qs)))) (first (cond b (q ∷ qs) (behind after qs)))
put_first_by after p q qs Less true true e f g rest =
    ap (λ c. first (cond c (p ∷ q ∷ qs) (behind after (q ∷ qs)))) f ∙ ap (λ c. cond (is_gt c) (Some q) (Some p)) (sym e)
put_first_by after p q qs Less true false e f g rest = absurd (cc (above_more after p q e f))
put_first_by after p q qs Less false b e f g rest =
    ap (λ c. first (cond c (p ∷ q ∷ qs) (behind after (q ∷ qs)))) f ∙ ap (λ c. first (cond c (q ∷ qs) (behind after qs))) g
put_first_by after p q qs Equal true true e f g rest =
    ap (λ c. first (cond c (q ∷ qs) (behind after qs))) g ∙ ap Some (sym (equal_paths p q e)) ∙ ap (λ c. cond (is_gt c) (Some q) (Some p)) (sym e)
put_first_by after p q qs Equal true false e f g rest = absurd (cc (ap (λ (x : FieldPath). is_above x after) (equal_paths p q e)))
put_first_by after p q qs Equal false b e f g rest = ap (λ c. first (cond c (q ∷ qs) (behind after qs))) g
put_first_by after p q qs Greater true true e f g rest =
    ap (λ c. first (cond c (q ∷ put_path p qs) (behind after (put_path p qs)))) g ∙ ap (λ c. cond (is_gt c) (Some q) (Some p)) (sym e)
put_first_by after p q qs Greater false true e f g rest = absurd (cc (above_more after q p (turn p q e) g))
put_first_by after p q qs Greater a false e f g rest =
    ap (λ c. first (cond c (q ∷ put_path p qs) (behind after (put_path p qs)))) g ∙ rest

put_first_alone : (after : Option FieldPath) (p : FieldPath) (a : Bool) → first (cond a (p ∷ []) []) ≡ cond a (Some p) None
put_first_alone after p true = refl
put_first_alone after p false = refl

put_first : (after : Option FieldPath) (p : FieldPath) (qs : List FieldPath)
    → first (behind after (put_path p qs)) ≡ cond (is_above p after) (lesser_of (Some p) (first (behind after qs))) (first (behind after qs))
put_first after p [] = put_first_alone after p (is_above p after)
put_first after p (q ∷ qs) = put_first_by after p q qs (by_parts p q) (is_above p after) (is_above q after) refl refl refl (put_first after p qs)

-- ---- the least that joins behind a path is the first of those that join, in order, above it

least_by : (os : List Order) (after best : Option FieldPath) (p : FieldPath) (ps : List FieldPath) (j a : Bool) → joins os p ≡ j → is_above p after ≡ a
    → ((b : Option FieldPath) → least_of os after b ps ≡ lesser_of b (first (behind after (in_order (filter (joins os) ps)))))
    → least_of os after (nearer os after best p) ps ≡ lesser_of best (first (behind after (in_order (cond j (p ∷ filter (joins os) ps) (filter (joins os) ps)))))
least_by os after best p ps false a e f rest =
    ap (λ c. least_of os after (cond (c && is_above p after) (lesser best p) best) ps) e ∙ rest best
least_by os after best p ps true true e f rest =
    (λ i. least_of os after (cond (e i && f i) (lesser best p) best) ps)
    ∙ rest (lesser best p)
    ∙ lesser_assoc best p (first (behind after (in_order (filter (joins os) ps))))
    ∙ ap (lesser_of best) (ap (λ c. cond c (lesser_of (Some p) (first (behind after (in_order (filter (joins os) ps))))) (first (behind after (in_order (filter (joins os) ps))))) (sym f))
    ∙ ap (lesser_of best) (sym (put_first after p (in_order (filter (joins os) ps))))
least_by os after best p ps true false e f rest =
    (λ i. least_of os after (cond (e i && f i) (lesser best p) best) ps)
    ∙ rest best
    ∙ ap (lesser_of best) (ap (λ c. cond c (lesser_of (Some p) (first (behind after (in_order (filter (joins os) ps))))) (first (behind after (in_order (filter (joins os) ps))))) (sym f))
    ∙ ap (lesser_of best) (sym (put_first after p (in_order (filter (joins os) ps))))

pub least_joined : (os : List Order) (after best : Option FieldPath) (ps : List FieldPath)
    → least_of os after best ps ≡ lesser_of best (first (behind after (in_order (filter (joins os) ps))))
least_joined os after best [] = refl
least_joined os after best (p ∷ ps) =
    least_by os after best p ps (joins os p) (is_above p after) refl refl (λ b. least_joined os after b ps)

-- ---- those that join rise

all_put_by : (P : FieldPath → Type 0) (p q : FieldPath) (qs : List FieldPath) (o : Ordering) → P p → P q → AllByRecursion P qs
    → AllByRecursion P (put_path p qs) → AllByRecursion P (match_ordering o (p ∷ q ∷ qs) (q ∷ qs) (q ∷ put_path p qs))
all_put_by P p q qs Less hp hq all rest = (hp, (hq, all))
all_put_by P p q qs Equal hp hq all rest = (hq, all)
all_put_by P p q qs Greater hp hq all rest = (hq, rest)

pub all_put : (P : FieldPath → Type 0) (p : FieldPath) (qs : List FieldPath) → P p → AllByRecursion P qs → AllByRecursion P (put_path p qs)
all_put P p [] hp all = (hp, all)
all_put P p (q ∷ qs) hp all = all_put_by P p q qs (by_parts p q) hp all.0 all.1 (all_put P p qs hp all.1)

all_above : (p q : FieldPath) (qs : List FieldPath) → by_parts p q ≡ Less → AllByRecursion (λ y. by_parts q y ≡ Less) qs → AllByRecursion (λ y. by_parts p y ≡ Less) qs
all_above p q [] e all = all
all_above p q (y ∷ ys) e all = (chain p q y e all.0, all_above p q ys e all.1)

put_rises_by : (p q : FieldPath) (qs : List FieldPath) (o : Ordering) → by_parts p q ≡ o → Rise (q ∷ qs) → Rise (put_path p qs)
    → Rise (match_ordering o (p ∷ q ∷ qs) (q ∷ qs) (q ∷ put_path p qs))
unfolding IsStrictlySortedBy
put_rises_by p q qs Less e rise rest = ((e, all_above p q qs e rise.0), rise)
put_rises_by p q qs Equal e rise rest = rise
put_rises_by p q qs Greater e rise rest = (all_put (λ y. by_parts q y ≡ Less) p qs (turn p q e) rise.0, rest)

put_rises : (p : FieldPath) (qs : List FieldPath) → Rise qs → Rise (put_path p qs)
unfolding IsStrictlySortedBy
put_rises p [] rise = (rise, rise)
put_rises p (q ∷ qs) rise = put_rises_by p q qs (by_parts p q) refl rise (put_rises p qs rise.1)

pub in_order_rises : (ps : List FieldPath) → Rise (in_order ps)
unfolding IsStrictlySortedBy
in_order_rises [] = tt
in_order_rises (p ∷ ps) = put_rises p (in_order ps) (in_order_rises ps)

-- ---- one step on

front_above_by : (after : Option FieldPath) (x p : FieldPath) (xs rest : List FieldPath) (b : Bool) → is_above x after ≡ b
    → (behind after xs ≡ p ∷ rest → is_above p after ≡ true) → cond b (x ∷ xs) (behind after xs) ≡ p ∷ rest → is_above p after ≡ true
front_above_by after x p xs rest true e more h = ap (λ (y : FieldPath). is_above y after) (let s : p ≡ x = cc h in s) ∙ e
front_above_by after x p xs rest false e more h = more h

front_above : (after : Option FieldPath) (p : FieldPath) (xs rest : List FieldPath) → behind after xs ≡ p ∷ rest → is_above p after ≡ true
front_above after p [] rest h = absurd (cc h)
front_above after p (x ∷ xs) rest h = front_above_by after x p xs rest (is_above x after) refl (front_above after p xs rest) h

-- the rest is above the first
rest_above : (x : FieldPath) (xs : List FieldPath) → AllByRecursion (λ y. by_parts x y ≡ Less) xs → behind (Some x) xs ≡ xs
rest_above x [] all = refl
rest_above x (y ∷ ys) all = ap (λ o. cond (is_gt o) (y ∷ ys) (behind (Some x) ys)) (turn_back x y all.0)

-- what isn't above `after` isn't above what is
below_it_by : (after : Option FieldPath) (x p : FieldPath) (b : Bool) → is_above x after ≡ false → is_above p after ≡ true → is_gt (by_parts x p) ≡ b → b ≡ false
below_it_by None x p b e f g = absurd (cc e)
below_it_by (Some r) x p false e f g = refl
below_it_by (Some r) x p true e f g = absurd (cc (gt_chain x p r g f))

below_it : (after : Option FieldPath) (x p : FieldPath) → is_above x after ≡ false → is_above p after ≡ true → is_gt (by_parts x p) ≡ false
below_it after x p e f = below_it_by after x p (is_gt (by_parts x p)) e f refl

next_by : (after : Option FieldPath) (x p : FieldPath) (xs rest : List FieldPath) (b : Bool) → is_above x after ≡ b → Rise (x ∷ xs)
    → (behind after xs ≡ p ∷ rest → behind (Some p) xs ≡ rest) → cond b (x ∷ xs) (behind after xs) ≡ p ∷ rest
    → cond (is_gt (by_parts x p)) (x ∷ xs) (behind (Some p) xs) ≡ rest
unfolding IsStrictlySortedBy
next_by after x p xs rest true e rise more h =
    let s : p ≡ x = cc h in let t : xs ≡ rest = cc h in
    ap (λ (y : FieldPath). cond (is_gt (by_parts x y)) (x ∷ xs) (behind (Some y) xs)) s
    ∙ ap (λ o. cond (is_gt o) (x ∷ xs) (behind (Some x) xs)) (same_equal x)
    ∙ rest_above x xs rise.0
    ∙ t
next_by after x p xs rest false e rise more h =
    ap (λ b. cond b (x ∷ xs) (behind (Some p) xs)) (below_it after x p e (front_above after p xs rest h)) ∙ more h

next_behind : (after : Option FieldPath) (p : FieldPath) (xs rest : List FieldPath) → Rise xs → behind after xs ≡ p ∷ rest → behind (Some p) xs ≡ rest
unfolding IsStrictlySortedBy
next_behind after p [] rest rise h = absurd (cc h)
next_behind after p (x ∷ xs) rest rise h =
    next_by after x p xs rest (is_above x after) refl rise (next_behind after p xs rest rise.1) h

first_some : (ps : List FieldPath) (p : FieldPath) → Some p ≡ first ps → (rest : List FieldPath) × (ps ≡ p ∷ rest)
first_some [] p e = absurd (cc e)
first_some (x ∷ xs) p e = (xs, cc e)

first_none : (ps : List FieldPath) → None ≡ first ps → ps ≡ []
first_none [] e = refl
first_none (x ∷ xs) e = absurd (cc e)

step_by : (q : Asked) (after : Option FieldPath) (p : FieldPath) (found : (rest : List FieldPath) × (behind after (joining q) ≡ p ∷ rest))
    → behind after (joining q) ≡ p ∷ behind (Some p) (joining q)
step_by q after p (rest, e) =
    e ∙ ap (λ ps. p ∷ ps) (sym (next_behind after p (joining q) rest (in_order_rises (filter (joins q.orders) (inequality_paths q.filter))) e))

-- the next that joins
pub joining_next : (q : Asked) (after : Option FieldPath) (p : FieldPath) → Some p ≡ least_of q.orders after None (inequality_paths q.filter)
    → behind after (joining q) ≡ p ∷ behind (Some p) (joining q)
joining_next q after p e =
    step_by q after p (first_some (behind after (joining q)) p
    (e ∙ least_joined q.orders after None (inequality_paths q.filter) ∙ none_lesser (first (behind after (joining q)))))

-- no more
pub joining_end : (q : Asked) (after : Option FieldPath) → None ≡ least_of q.orders after None (inequality_paths q.filter) → behind after (joining q) ≡ []
joining_end q after e =
    first_none (behind after (joining q))
    (e ∙ least_joined q.orders after None (inequality_paths q.filter) ∙ none_lesser (first (behind after (joining q))))

-- all of them
pub joining_all : (ps : List FieldPath) → behind None ps ≡ ps
joining_all [] = refl
joining_all (p ∷ ps) = refl

-- ---- filter by filter

pub least_append : (os : List Order) (after best : Option FieldPath) (ps qs : List FieldPath) → least_of os after best (ps ++ qs) ≡ least_of os after (least_of os after best ps) qs
least_append os after best [] qs = refl
least_append os after best (p ∷ ps) qs = least_append os after (nearer os after best p) ps qs

pub least_rest : (os : List Order) (after best : Option FieldPath) (fs : List Filter) (k : ℕ) (f : Filter) → k < length fs
    → least_of os after best (inequality_paths_of (conditions_of (map view (drop k fs))))
    ≡ least_of os after (least_of os after best (inequality_paths (view (get_or fs k f)))) (inequality_paths_of (conditions_of (map view (drop (k + 1) fs))))
least_rest os after best fs k f h =
    ap (λ gs. least_of os after best (inequality_paths_of (conditions_of (map view gs)))) (drop_more fs k f h)
    ∙ least_append os after best (inequality_paths (view (get_or fs k f))) (inequality_paths_of (conditions_of (map view (drop (k + 1) fs))))
