-- Which paths join a query's order.
use Rattle.std.proofs.Common.{◌≡◌, zero, suc, Bool, true, false, cond, List, [], ◌∷◌, refl, sym, ap, subst, ◌∙◌, arith, ◌⊎◌, inl, inr}
use Rattle.std.specs.List.{Contains, filter}
use Rattle.std.specs.Ordering.{match_ordering}
use Rattle.std.specs.declared.cmp.Ordering.{Ordering}
use Rattle.std.specs.declared.cmp.Ordering.TheVariants.{Less, Equal, Greater}
use Rattle.std.proofs.lemmas.List.Elements.{Contains-append_right, Contains-append_cases}
use Rattle.fs_path.specs.declared.field.FieldPath.{FieldPath}
use Rattle.fs_query.specs.Laws.{JoiningRise, JoiningAreUnordered}
use Rattle.fs_query.specs.Normal.{inequality_paths, put_path, in_order, joins}
use Rattle.fs_path.specs.FieldOrder.{by_parts}
use Rattle.fs_query.proofs.JoiningPaths.{equal_paths, in_order_rises}

-- ---- a list's members

no_member : (x : FieldPath) → Contains [] x → ⊥
no_member x (k, short, e) = omega arith

here : (y : FieldPath) (ys : List FieldPath) → Contains (y ∷ ys) y
here y ys = (0, omega arith, refl)

here_too : (x y : FieldPath) (ys : List FieldPath) → y ≡ x → Contains (y ∷ ys) x
here_too x y ys e = subst (λ (z : FieldPath). Contains (y ∷ ys) z) e (here y ys)

there : (x y : FieldPath) (ys : List FieldPath) → Contains ys x → Contains (y ∷ ys) x
there x y ys m = Contains-append_right (y ∷ []) ys x m

alone_is : (x y : FieldPath) → Contains (y ∷ []) x → y ≡ x
alone_is x y (zero, short, e) = e
alone_is x y (suc k, short, e) = absurd (omega arith)

cases_by : (x y : FieldPath) (ys : List FieldPath) → Contains (y ∷ []) x ⊎ Contains ys x → (y ≡ x) ⊎ Contains ys x
cases_by x y ys (inl m) = inl (alone_is x y m)
cases_by x y ys (inr m) = inr m

member_cases : (x y : FieldPath) (ys : List FieldPath) → Contains (y ∷ ys) x → (y ≡ x) ⊎ Contains ys x
member_cases x y ys m = cases_by x y ys (Contains-append_cases (y ∷ []) ys x m)

-- ---- put in its place

put_behind : (x p q : FieldPath) (qs : List FieldPath) → (q ≡ x) ⊎ Contains qs x → ((p ≡ x) ⊎ Contains qs x → Contains (put_path p qs) x) → Contains (q ∷ put_path p qs) x
put_behind x p q qs (inl h) rest = here_too x q (put_path p qs) h
put_behind x p q qs (inr m) rest = there x q (put_path p qs) (rest (inr m))

put_member_by : (x p q : FieldPath) (qs : List FieldPath) (o : Ordering) → by_parts p q ≡ o → (p ≡ x) ⊎ Contains (q ∷ qs) x
    → ((p ≡ x) ⊎ Contains qs x → Contains (put_path p qs) x) → Contains (match_ordering o (p ∷ q ∷ qs) (q ∷ qs) (q ∷ put_path p qs)) x
put_member_by x p q qs Less e (inl h) rest = here_too x p (q ∷ qs) h
put_member_by x p q qs Less e (inr m) rest = there x p (q ∷ qs) m
put_member_by x p q qs Equal e (inl h) rest = here_too x q qs (sym (equal_paths p q e) ∙ h)
put_member_by x p q qs Equal e (inr m) rest = m
put_member_by x p q qs Greater e (inl h) rest = there x q (put_path p qs) (rest (inl h))
put_member_by x p q qs Greater e (inr m) rest = put_behind x p q qs (member_cases x q qs m) rest

put_member : (x p : FieldPath) (qs : List FieldPath) → (p ≡ x) ⊎ Contains qs x → Contains (put_path p qs) x
put_member x p [] (inl h) = here_too x p [] h
put_member x p [] (inr m) = absurd (no_member x m)
put_member x p (q ∷ qs) h = put_member_by x p q qs (by_parts p q) refl h (put_member x p qs)

back_by : (x p q : FieldPath) (qs : List FieldPath) → (q ≡ x) ⊎ ((p ≡ x) ⊎ Contains qs x) → (p ≡ x) ⊎ Contains (q ∷ qs) x
back_by x p q qs (inl h) = inr (here_too x q qs h)
back_by x p q qs (inr (inl h)) = inl h
back_by x p q qs (inr (inr m)) = inr (there x q qs m)

further : (x p q : FieldPath) (qs : List FieldPath) → (q ≡ x) ⊎ Contains (put_path p qs) x → (Contains (put_path p qs) x → (p ≡ x) ⊎ Contains qs x) → (q ≡ x) ⊎ ((p ≡ x) ⊎ Contains qs x)
further x p q qs (inl h) rest = inl h
further x p q qs (inr m) rest = inr (rest m)

from_put_by : (x p q : FieldPath) (qs : List FieldPath) (o : Ordering) → Contains (match_ordering o (p ∷ q ∷ qs) (q ∷ qs) (q ∷ put_path p qs)) x
    → (Contains (put_path p qs) x → (p ≡ x) ⊎ Contains qs x) → (p ≡ x) ⊎ Contains (q ∷ qs) x
from_put_by x p q qs Less m rest = member_cases x p (q ∷ qs) m
from_put_by x p q qs Equal m rest = inr m
from_put_by x p q qs Greater m rest = back_by x p q qs (further x p q qs (member_cases x q (put_path p qs) m) rest)

from_put : (x p : FieldPath) (qs : List FieldPath) → Contains (put_path p qs) x → (p ≡ x) ⊎ Contains qs x
from_put x p [] m = member_cases x p [] m
from_put x p (q ∷ qs) m = from_put_by x p q qs (by_parts p q) m (from_put x p qs)

-- ---- in order

in_order_by : (x p : FieldPath) (ps : List FieldPath) → (p ≡ x) ⊎ Contains ps x → (Contains ps x → Contains (in_order ps) x) → (p ≡ x) ⊎ Contains (in_order ps) x
in_order_by x p ps (inl h) rest = inl h
in_order_by x p ps (inr m) rest = inr (rest m)

pub to_order : (x : FieldPath) (ps : List FieldPath) → Contains ps x → Contains (in_order ps) x
to_order x [] m = m
to_order x (p ∷ ps) m = put_member x p (in_order ps) (in_order_by x p ps (member_cases x p ps m) (to_order x ps))

from_order_by : (x p : FieldPath) (ps : List FieldPath) → (p ≡ x) ⊎ Contains (in_order ps) x → (Contains (in_order ps) x → Contains ps x) → Contains (p ∷ ps) x
from_order_by x p ps (inl h) rest = here_too x p ps h
from_order_by x p ps (inr m) rest = there x p ps (rest m)

pub from_order : (x : FieldPath) (ps : List FieldPath) → Contains (in_order ps) x → Contains ps x
from_order x [] m = m
from_order x (p ∷ ps) m = from_order_by x p ps (from_put x p (in_order ps) m) (from_order x ps)

-- ---- those that join

to_kept_by : (t : FieldPath → Bool) (x p : FieldPath) (ps : List FieldPath) (b : Bool) → t p ≡ b → (p ≡ x) ⊎ Contains ps x → t x ≡ true
    → (Contains ps x → Contains (filter t ps) x) → Contains (cond b (p ∷ filter t ps) (filter t ps)) x
to_kept_by t x p ps true e (inl h) k rest = here_too x p (filter t ps) h
to_kept_by t x p ps true e (inr m) k rest = there x p (filter t ps) (rest m)
to_kept_by t x p ps false e (inl h) k rest = absurd (cc (ap t h))
to_kept_by t x p ps false e (inr m) k rest = rest m

pub to_kept : (t : FieldPath → Bool) (x : FieldPath) (ps : List FieldPath) → t x ≡ true → Contains ps x → Contains (filter t ps) x
to_kept t x [] k m = m
to_kept t x (p ∷ ps) k m = to_kept_by t x p ps (t p) refl (member_cases x p ps m) k (to_kept t x ps k)

kept_by : (t : FieldPath → Bool) (x p : FieldPath) (ps : List FieldPath) → t p ≡ true → (p ≡ x) ⊎ Contains (filter t ps) x
    → (Contains (filter t ps) x → Contains ps x × (t x ≡ true)) → Contains (p ∷ ps) x × (t x ≡ true)
kept_by t x p ps e (inl h) rest = (here_too x p ps h, sym (ap t h) ∙ e)
kept_by t x p ps e (inr m) rest = (there x p ps (rest m).0, (rest m).1)

from_kept_by : (t : FieldPath → Bool) (x p : FieldPath) (ps : List FieldPath) (b : Bool) → t p ≡ b → Contains (cond b (p ∷ filter t ps) (filter t ps)) x
    → (Contains (filter t ps) x → Contains ps x × (t x ≡ true)) → Contains (p ∷ ps) x × (t x ≡ true)
from_kept_by t x p ps true e m rest = kept_by t x p ps e (member_cases x p (filter t ps) m) rest
from_kept_by t x p ps false e m rest = (there x p ps (rest m).0, (rest m).1)

pub from_kept : (t : FieldPath → Bool) (x : FieldPath) (ps : List FieldPath) → Contains (filter t ps) x → Contains ps x × (t x ≡ true)
from_kept t x [] m = absurd (no_member x m)
from_kept t x (p ∷ ps) m = from_kept_by t x p ps (t p) refl m (from_kept t x ps)

-- ---- the laws

pub joining_rise : JoiningRise
joining_rise q = in_order_rises (filter (joins q.orders) (inequality_paths q.filter))

pub joining_are_unordered : JoiningAreUnordered
joining_are_unordered q p = (
  λ m. from_kept (joins q.orders) p (inequality_paths q.filter) (from_order p (filter (joins q.orders) (inequality_paths q.filter)) m),
  λ h. to_order p (filter (joins q.orders) (inequality_paths q.filter)) (to_kept (joins q.orders) p (inequality_paths q.filter) h.1 h.0),
)
