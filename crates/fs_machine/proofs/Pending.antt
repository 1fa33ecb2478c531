-- The pending commit of a number, as it is found.
use Rattle.std.proofs.Common.{◌≡◌, ℕ, Bool, true, false, cond, List, [], ◌∷◌, Some, refl, sym, ap, ◌∙◌, subst, arith}
use Rattle.std.specs.List.{AllByRecursion}
use Rattle.std.proofs.lemmas.Bool.Decides.{nat_tests}
use Rattle.std.proofs.lemmas.Option.{same_Some}
use Rattle.fs_write.specs.declared.write_result.WriteResult.{WriteResult}
use Rattle.fs_machine.specs.Past.{batches, is_pending}
use Rattle.fs_machine.specs.declared.unreleased.Unreleased.{Unreleased}
use Rattle.fs_machine.specs.Settle.{accepted_in, is_it, pending_in}

found_next : (v : Unreleased) (us : List Unreleased) (id : ℕ) (u : Unreleased) (b : Bool) → is_it id v ≡ b → cond b (Some v) (pending_in id us) ≡ Some u → (pending_in id us ≡ Some u → is_it id u ≡ true) → is_it id u ≡ true
found_next v us id u true here is more = ap (is_it id) (sym (same_Some v u is)) ∙ here
found_next v us id u false here is more = more is

-- what is found is a commit of the number, and pending
pub is_found : (us : List Unreleased) (id : ℕ) (u : Unreleased) → pending_in id us ≡ Some u → is_it id u ≡ true
is_found [] id u is = absurd (cc)
is_found (v ∷ us) id u is = found_next v us id u (is_it id v) refl is (is_found us id u)

number_of_it : (id : ℕ) (u : Unreleased) → is_it id u ≡ true → u.batch.id ≡ id
number_of_it id u is = grind (arith, nat_tests)

pub number_found : (us : List Unreleased) (id : ℕ) (u : Unreleased) → pending_in id us ≡ Some u → u.batch.id ≡ id
number_found us id u is = number_of_it id u (is_found us id u is)

pub pending_it : (id : ℕ) (u : Unreleased) → is_it id u ≡ true → is_pending u ≡ true
pending_it id u is = grind (arith, nat_tests)

pub pending_found : (us : List Unreleased) (id : ℕ) (u : Unreleased) → pending_in id us ≡ Some u → is_pending u ≡ true
pending_found us id u is = pending_it id u (is_found us id u is)

pub passes_it : (id : ℕ) (v : Unreleased) → is_pending v ≡ false → is_it id v ≡ false
passes_it id v is = grind (arith, nat_tests)

all_next : (P : Unreleased → Type 0) (v : Unreleased) (us : List Unreleased) (id : ℕ) (u : Unreleased) (b : Bool) → cond b (Some v) (pending_in id us) ≡ Some u → P v → (pending_in id us ≡ Some u → P u) → P u
all_next P v us id u true is here more = subst P (same_Some v u is) here
all_next P v us id u false is here more = more is

-- what holds of all holds of it
pub all_found : (P : Unreleased → Type 0) (us : List Unreleased) (id : ℕ) (u : Unreleased) → pending_in id us ≡ Some u → AllByRecursion P us → P u
all_found P [] id u is all = absurd (cc)
all_found P (v ∷ us) id u is all = all_next P v us id u (is_it id v) is all.0 (λ rest. all_found P us id u rest all.1)

same_next : (v : Unreleased) (us : List Unreleased) (id : ℕ) (results : List WriteResult) (b : Bool) → batches (accepted_in id results us) ≡ batches us
    → batches (cond b (record v { results = Some results } ∷ us) (v ∷ accepted_in id results us)) ≡ v.batch ∷ batches us
same_next v us id results true more = refl
same_next v us id results false more = ap (λ bs. v.batch ∷ bs) more

-- accepting it leaves all batches as they are
pub same_batches : (us : List Unreleased) (id : ℕ) (results : List WriteResult) → batches (accepted_in id results us) ≡ batches us
same_batches [] id results = refl
same_batches (v ∷ us) id results = same_next v us id results (is_it id v) (same_batches us id results)
