-- What is held after names were put into the tree, or taken out.
use Rattle.std.proofs.Common.{◌≡◌, ℕ, ◌+◌, ◌<◌, Bool, true, false, cond, List, [], ◌∷◌, ◌++◌, length, take, drop, get_or, Option, Some, None, Result, Ok, Err, refl, sym, ap, ◌∙◌, subst}
use Rattle.std.specs.Prelude.{◌==◌, ◌&&◌, ◌||◌, not, unwrap_or, OnErr}
use Rattle.std.specs.BTreeMap.{is_at}
use Rattle.std.proofs.lemmas.Cmp.{eq_by_cmp_equiv}
use Rattle.std.proofs.lemmas.List.{take-append-drop}
use Rattle.std.proofs.lemmas.List.Folds.{list_any-append, list_any_more}
use Rattle.std.proofs.lemmas.Bool.{or_parts}
use Rattle.std.proofs.Math.Bool.{and-or_distrib_right, or-false}
use Rattle.fs_path.specs.NameOrder.{name_cmp, name_cmp_total, name_eq, name_is}
use Rattle.fs_path.specs.declared.name.DocName.{DocName}
use Rattle.fs_locks.specs.Holds.{is_in}
use Rattle.std.specs.Map.{lookup}
use Rattle.std.specs.Ordering.{nat_cmp}
use Rattle.std.specs.declared.cmp.Ordering.{Ordering}
use Rattle.fs_locks.specs.Tree.{Tree, has, found, ids_at, held, Puts, SameTree, SameBut, HasMore, HasLess, Taken, taken_at, taken_by, SameTaken, TakesMore}
use Rattle.fs_locks.proofs.Ids.{tied_is}

-- ---- one name

-- the test of a look-up, as the test of one name among names
is_one : (name n : DocName) → is_at (name_cmp name) n ≡ is_in n (name ∷ [])
is_one name n = (eq_by_cmp_equiv name_cmp_total).symm name n ∙ sym (or-false (name_eq n name))

pub put_one : (old new : Tree) (name : DocName) (ids : List ℕ) (id : ℕ) → Puts old new name (Some ids) → ((i : ℕ) → has i ids ≡ (i == id || has i (ids_at name old)))
    → HasMore old new id (name ∷ [])
put_one old new name ids id puts more i n =
    ap (λ o. has i (unwrap_or o [])) (puts n) ∙ at (is_at (name_cmp name) n) refl ∙ ap (λ b. (b && i == id) || held old i n) (is_one name n)
  where
    at : (b : Bool) → is_at (name_cmp name) n ≡ b → has i (unwrap_or (cond b (Some ids) (found n old)) []) ≡ ((b && i == id) || held old i n)
    at true ties = more i ∙ ap (λ m. i == id || held old i m) (name_is name n ties)
    at false ties = refl

pub put_none : {A E : Type 0} (r : Result A E) (old new : Tree) (name : DocName) (ids : List ℕ) → Puts old new name (Some ids) → ids ≡ ids_at name old → OnErr r (SameTree old new)
put_none (Ok x) old new name ids puts same = tt
put_none (Err e) old new name ids puts same = λ i n. ap (λ o. has i (unwrap_or o [])) (puts n) ∙ at i n (is_at (name_cmp name) n) refl
  where
    at : (i : ℕ) (n : DocName) (b : Bool) → is_at (name_cmp name) n ≡ b → has i (unwrap_or (cond b (Some ids) (found n old)) []) ≡ held old i n
    at i n true ties = ap (has i) same ∙ ap (held old i) (name_is name n ties)
    at i n false ties = refl

pub take_one : (old new : Tree) (name : DocName) (there : Option (List ℕ)) (id : ℕ) → Puts old new name there
    → ((i : ℕ) → has i (unwrap_or there []) ≡ (not (i == id) && has i (ids_at name old))) → HasLess old new id (name ∷ [])
take_one old new name there id puts less i n =
    ap (λ o. has i (unwrap_or o [])) (puts n) ∙ at (is_at (name_cmp name) n) refl ∙ ap (λ b. not (b && i == id) && held old i n) (is_one name n)
  where
    at : (b : Bool) → is_at (name_cmp name) n ≡ b → has i (unwrap_or (cond b there (found n old)) []) ≡ (not (b && i == id) && held old i n)
    at true ties = less i ∙ ap (λ m. not (i == id) && held old i m) (name_is name n ties)
    at false ties = refl

pub take_none : (tree : Tree) (name : DocName) (id : ℕ) → found name tree ≡ None → HasLess tree tree id (name ∷ [])
take_none tree name id none i n = at (is_at (name_cmp name) n) refl ∙ ap (λ b. not (b && i == id) && held tree i n) (is_one name n)
  where
    not_there : (c : Bool) (o : Option (List ℕ)) → o ≡ None → has i (unwrap_or o []) ≡ (not c && has i (unwrap_or o []))
    not_there true o is = ap (λ p. has i (unwrap_or p [])) is
    not_there false o is = refl

    at : (b : Bool) → is_at (name_cmp name) n ≡ b → held tree i n ≡ (not (b && i == id) && held tree i n)
    at true ties = not_there (i == id) (found n tree) (ap (λ m. found m tree) (sym (name_is name n ties)) ∙ none)
    at false ties = refl

-- twice taken out is once
pub taken_twice : (old mid new : Tree) (name : DocName) (ids : List ℕ) → Puts old mid name (Some ids) → Puts mid new name None → Puts old new name None
taken_twice old mid new name ids puts out n = out n ∙ ap (cond (is_at (name_cmp name) n) None) (puts n) ∙ at (is_at (name_cmp name) n)
  where
    at : (b : Bool) → cond b None (cond b (Some ids) (found n old)) ≡ cond b None (found n old)
    at true = refl
    at false = refl

-- ---- one name after another

one_more : (names : List DocName) (i : ℕ) (name n : DocName) → i < length names → name ≡ get_or names i name → is_in n (take (i + 1) names) ≡ (is_in n (take i names) || is_in n (name ∷ []))
one_more names i name n within is =
    list_any_more (name_eq n) names i name within
    ∙ ap (λ (x : DocName). is_in n (take i names) || name_eq n x) (sym is)
    ∙ ap (λ b. is_in n (take i names) || b) (sym (or-false (name_eq n name)))

or_more : (a b c x : Bool) → ((a && b) || ((c && b) || x)) ≡ (((c || a) && b) || x)
or_more true true true x = refl
or_more true true false x = refl
or_more true false true x = refl
or_more true false false x = refl
or_more false b true x = refl
or_more false b false x = refl

and_less : (a b c x : Bool) → (not (a && b) && (not (c && b) && x)) ≡ (not ((c || a) && b) && x)
and_less true true true x = refl
and_less true true false x = refl
and_less true false true x = refl
and_less true false false x = refl
and_less false b true x = refl
and_less false b false x = refl

pub has_more : (old now new : Tree) (names : List DocName) (k : ℕ) (name : DocName) (id : ℕ) → k < length names → name ≡ get_or names k name
    → HasMore old now id (take k names) → HasMore now new id (name ∷ []) → HasMore old new id (take (k + 1) names)
has_more old now new names k name id within is before one i n =
    one i n
    ∙ ap (λ x. (is_in n (name ∷ []) && i == id) || x) (before i n)
    ∙ or_more (is_in n (name ∷ [])) (i == id) (is_in n (take k names)) (held old i n)
    ∙ ap (λ b. (b && i == id) || held old i n) (sym (one_more names k name n within is))

pub has_less : (old now new : Tree) (names : List DocName) (k : ℕ) (name : DocName) (id : ℕ) → k < length names → name ≡ get_or names k name
    → HasLess old now id (take k names) → HasLess now new id (name ∷ []) → HasLess old new id (take (k + 1) names)
has_less old now new names k name id within is before one i n =
    one i n
    ∙ ap (λ x. not (is_in n (name ∷ []) && i == id) && x) (before i n)
    ∙ and_less (is_in n (name ∷ [])) (i == id) (is_in n (take k names)) (held old i n)
    ∙ ap (λ b. not (b && i == id) && held old i n) (sym (one_more names k name n within is))

-- some of them are in
pub has_some : (old now new : Tree) (names : List DocName) (k : ℕ) (id : ℕ) → HasMore old now id (take k names) → SameTree now new → SameBut old new id names
has_some old now new names k id before same i n apart =
    let parts : is_in n names ≡ (is_in n (take k names) || is_in n (drop k names)) =
    ap (is_in n) (sym (take-append-drop k names)) ∙ list_any-append (name_eq n) (take k names) (drop k names) in
    let apart_all : ((is_in n (take k names) || is_in n (drop k names)) && i == id) ≡ false = ap (λ b. b && i == id) (sym parts) ∙ apart in
    let none : (is_in n (take k names) && i == id) ≡ false =
    (or_parts (is_in n (take k names) && i == id) (is_in n (drop k names) && i == id) (sym (and-or_distrib_right (is_in n (take k names)) (is_in n (drop k names)) (i == id)) ∙ apart_all)).0 in
    same i n ∙ before i n ∙ ap (λ b. b || held old i n) none

pub more_but : (old new : Tree) (id : ℕ) (names : List DocName) → HasMore old new id names → SameBut old new id names
more_but old new id names more i n apart = more i n ∙ ap (λ b. b || held old i n) apart

-- ---- what an id takes

-- an id has this, and the others what they had, by an order of ids
abbrev pub PutsBy : (ℕ → ℕ → Ordering) → Taken → Taken → ℕ → Option (List DocName) → Type 0
PutsBy cmp old new id value = (i : ℕ) → lookup (is_at (cmp i)) new ≡ cond (is_at (cmp id) i) value (lookup (is_at (cmp i)) old)

pub took_none : {A E : Type 0} (r : Result A E) (cmp : ℕ → ℕ → Ordering) (old new : Taken) (id : ℕ) (names : List DocName) → cmp ≡ nat_cmp → PutsBy cmp old new id (Some names) → names ≡ taken_by id old
    → OnErr r (SameTaken old new)
took_none (Ok x) cmp old new id names order puts same = tt
took_none (Err e) cmp old new id names order puts same = λ i. ap (λ o. unwrap_or o []) (subst (λ c. PutsBy c old new id (Some names)) order puts i) ∙ at i (is_at (nat_cmp id) i) refl
  where
    at : (i : ℕ) (b : Bool) → is_at (nat_cmp id) i ≡ b → unwrap_or (cond b (Some names) (taken_at i old)) [] ≡ taken_by i old
    at i true ties = same ∙ ap (λ (k : ℕ). taken_by k old) (tied_is id i ties)
    at i false ties = refl

pub took_more : (cmp : ℕ → ℕ → Ordering) (old new : Taken) (id : ℕ) (all names : List DocName) → cmp ≡ nat_cmp → PutsBy cmp old new id (Some all) → all ≡ taken_by id old ++ names
    → TakesMore old new id names
took_more cmp old new id all names order puts is i = ap (λ o. unwrap_or o []) (subst (λ c. PutsBy c old new id (Some all)) order puts i) ∙ at (is_at (nat_cmp id) i)
  where
    at : (b : Bool) → unwrap_or (cond b (Some all) (taken_at i old)) [] ≡ cond b (taken_by id old ++ names) (taken_by i old)
    at true = is
    at false = refl
