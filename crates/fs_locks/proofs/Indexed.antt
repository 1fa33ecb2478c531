-- The index has what is held: after an id has read something, or where memory ran out, and after it was released.
use Rattle.std.proofs.Common.{◌≡◌, ℕ, ◌+◌, ◌<◌, Bool, true, false, cond, List, [], ◌∷◌, length, take, get_or, None, Result, refl, sym, ap, ◌∙◌}
use Rattle.std.specs.Prelude.{◌==◌, ◌&&◌, ◌||◌, OnErr, not}
use Rattle.std.specs.BTreeMap.{BTreeMap, is_at}
use Rattle.std.specs.Cmp.{first_so, second_so}
use Rattle.std.specs.Map.{lookup}
use Rattle.std.specs.Ordering.{nat_cmp}
use Rattle.std.proofs.lemmas.Bool.{eqb-true}
use Rattle.std.proofs.lemmas.List.Folds.{list_any_more}
use Rattle.std.proofs.Math.Bool.{and-false, or-false}
use Rattle.std.proofs.lemmas.Result.{on_err_weaker}
use Rattle.fs_path.specs.NameOrder.{name_is}
use Rattle.fs_path.specs.declared.name.DocName.{DocName}
use Rattle.fs_locks.specs.Shares.{Shares, shared_by, with_share}
use Rattle.fs_locks.specs.Spots.{IndexLess, IndexMore, IsIndex, SameIndex, Spot, named, collection, group, is_among, is_at_spot, stands}
use Rattle.fs_locks.specs.Tree.{SameTree, held}
use Rattle.fs_locks.specs.declared.held.Held.{Held}
use Rattle.fs_locks.specs.declared.held.Held.TheVariants.{Name}
use Rattle.fs_locks.specs.declared.index.Index.{Index}
use Rattle.fs_locks.proofs.Entries.{any_less, any_more}

turned : (a b c : Bool) → ((a && b) || c) ≡ (c || (b && a))
turned true true true = refl
turned true true false = refl
turned true false true = refl
turned true false false = refl
turned false true true = refl
turned false true false = refl
turned false false true = refl
turned false false false = refl

-- an id has read something
pub index_more : (old new : Index) (shares again : Shares) (id : ℕ) (h : Held) → IsIndex old shares → IndexMore old new id (h ∷ []) → again ≡ with_share shares id h → IsIndex new again
index_more old new shares again id h is more noted s i =
    more s i
    ∙ ap (λ b. (b && i == id) || stands old s i) (or-false (is_at_spot s h))
    ∙ ap (λ b. (is_at_spot s h && i == id) || b) (is s i)
    ∙ turned (is_at_spot s h) (i == id) (is_among s (shared_by i shares))
    ∙ sym (any_more (is_at_spot s) shares id i h)
    ∙ ap (λ all. is_among s (shared_by i all)) (sym noted)

-- ---- memory ran out

-- it stood there, and stands there still
pub index_stood : (old new : Index) (shares again : Shares) (id : ℕ) (h : Held) → IsIndex old shares → IndexMore old new id (h ∷ []) → ((s : Spot) → is_at_spot s h ≡ true → stands old s id ≡ true)
    → again ≡ shares → IsIndex new again
index_stood old new shares again id h is more stood same s i =
    more s i ∙ ap (λ b. (b && i == id) || stands old s i) (or-false (is_at_spot s h)) ∙ at (is_at_spot s h && i == id) refl ∙ is s i ∙ ap (λ all. is_among s (shared_by i all)) (sym same)
  where
    at : (b : Bool) → (is_at_spot s h && i == id) ≡ b → (b || stands old s i) ≡ stands old s i
    at true both = sym (ap (λ (k : ℕ). stands old s k) (eqb-true i id (second_so (is_at_spot s h) (i == id) both)) ∙ stood s (first_so (is_at_spot s h) (i == id) both))
    at false apart = refl

-- it didn't, and was taken out again
pub index_back : (old mid new : Index) (shares again : Shares) (id : ℕ) (h : Held) → IsIndex old shares → IndexMore old mid id (h ∷ []) → IndexLess mid new id (h ∷ [])
    → ((s : Spot) → is_at_spot s h ≡ true → stands old s id ≡ false) → again ≡ shares → IsIndex new again
index_back old mid new shares again id h is more less none same s i =
    less s i ∙ ap (λ b. not (is_among s (h ∷ []) && i == id) && b) (more s i)
    ∙ ap (λ b. not (b && i == id) && ((b && i == id) || stands old s i)) (or-false (is_at_spot s h))
    ∙ at (is_at_spot s h && i == id) refl ∙ is s i ∙ ap (λ all. is_among s (shared_by i all)) (sym same)
  where
    at : (b : Bool) → (is_at_spot s h && i == id) ≡ b → (not b && (b || stands old s i)) ≡ stands old s i
    at true both = sym (ap (λ (k : ℕ). stands old s k) (eqb-true i id (second_so (is_at_spot s h) (i == id) both)) ∙ none s (first_so (is_at_spot s h) (i == id) both))
    at false apart = refl

-- ---- an id is released

pub index_less : (old new : Index) (shares left : Shares) (id : ℕ) (hs : List Held) → IsIndex old shares → hs ≡ shared_by id shares → IndexLess old new id hs
    → ((q : ℕ) → lookup (is_at (nat_cmp q)) left ≡ cond (is_at (nat_cmp id) q) None (lookup (is_at (nat_cmp q)) shares)) → IsIndex new left
index_less old new shares left id hs is all less out s i =
    less s i
    ∙ ap (λ b. not (is_among s hs && i == id) && b) (is s i)
    ∙ ap (λ xs. not (is_among s xs && i == id) && is_among s (shared_by i shares)) all
    ∙ at (i == id) refl
    ∙ sym (any_less (is_at_spot s) shares left id i out)
  where
    gone : (b : Bool) → (not (b && true) && b) ≡ false
    gone true = refl
    gone false = refl

    at : (b : Bool) → (i == id) ≡ b → (not (is_among s (shared_by id shares) && b) && is_among s (shared_by i shares)) ≡ (not b && is_among s (shared_by i shares))
    at true ties = ap (λ (k : ℕ). not (is_among s (shared_by id shares) && true) && is_among s (shared_by k shares)) (eqb-true i id ties) ∙ gone (is_among s (shared_by id shares))
    at false apart = ap (λ b. not b && is_among s (shared_by i shares)) (and-false (is_among s (shared_by id shares)))

-- one after another
pub less_more : (old now new : Index) (hs : List Held) (k : ℕ) (h : Held) (id : ℕ) → k < length hs → h ≡ get_or hs k h → IndexLess old now id (take k hs) → IndexLess now new id (h ∷ [])
    → IndexLess old new id (take (k + 1) hs)
less_more old now new hs k h id within is before one s i =
    one s i
    ∙ ap (λ b. not (is_among s (h ∷ []) && i == id) && b) (before s i)
    ∙ joined (is_among s (h ∷ [])) (is_among s (take k hs)) (i == id) (stands old s i)
    ∙ ap (λ b. not (b && i == id) && stands old s i) (sym (list_any_more (is_at_spot s) hs k h within ∙ ap (λ (x : Held). is_among s (take k hs) || is_at_spot s x) (sym is) ∙ ap (λ b. is_among s (take k hs) || b) (sym (or-false (is_at_spot s h)))))
  where
    joined : (a c b x : Bool) → (not (a && b) && (not (c && b) && x)) ≡ (not ((c || a) && b) && x)
    joined true true true x = refl
    joined true true false x = refl
    joined true false true x = refl
    joined true false false x = refl
    joined false true true x = refl
    joined false true false x = refl
    joined false false true x = refl
    joined false false false x = refl

-- ---- names in the index

-- who stands at what is held as a name holds the name
pub has_name : (index : Index) (n : DocName) (h : Held) (id : ℕ) (r : Bool) → h ≡ Name n → r ≡ held index.names.entries id n → (s : Spot) → is_at_spot s h ≡ true → stands index s id ≡ r
has_name index n h id r is holds s at = of_spot s (ap (is_at_spot s) (sym is) ∙ at) ∙ sym holds
  where
    of_spot : (s : Spot) → is_at_spot s (Name n) ≡ true → stands index s id ≡ held index.names.entries id n
    of_spot (named m) same = ap (λ (k : DocName). held index.names.entries id k) (name_is m n same)
    of_spot (collection x path) same = absurd (cc)
    of_spot (group x path) same = absurd (cc)

pub same_names : {A E : Type 0} (r : Result A E) (index : Index) (names : BTreeMap DocName (List ℕ)) → OnErr r (SameTree index.names.entries names.entries) → OnErr r (SameIndex index (record index { names = names }))
same_names r index names = on_err_weaker {P = SameTree index.names.entries names.entries} {Q = SameIndex index (record index { names = names })} r (λ same s i. of_spot same s i)
  where
    of_spot : SameTree index.names.entries names.entries → (s : Spot) (i : ℕ) → stands (record index { names = names }) s i ≡ stands index s i
    of_spot same (named n) i = same i n
    of_spot same (collection x path) i = refl
    of_spot same (group x path) i = refl
