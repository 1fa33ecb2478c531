-- What holds of a value that is refused by tests in order, and of one that isn't.
use Rattle.std.proofs.Common.{◌≡◌, Bool, true, false, cond, Ok, Err, List, [], ◌∷◌, refl}
use Rattle.std.specs.List.{AllByRecursion}
use Rattle.fs_path.specs.declared.error.PathError.{PathError}
use Rattle.fs_path.specs.Refusal.{unless_refused}

-- where no test holds, a value is accepted
pub accepts : {A : Type 0} (a : A) (tests : List (Bool × PathError)) → AllByRecursion (λ t. t.0 ≡ false) tests → unless_refused a tests ≡ Ok a
accepts a [] all = refl
accepts a (test ∷ tests) all = let here : test.0 ≡ false = all.0 in let rest = accepts a tests all.1 in rw here rest

accepted_at : {A : Type 0} (a x : A) (holds : Bool) (e : PathError) (tests : List (Bool × PathError)) → (unless_refused a tests ≡ Ok x → (a ≡ x) × AllByRecursion (λ t. t.0 ≡ false) tests) → cond holds (Err e) (unless_refused a tests) ≡ Ok x → (a ≡ x) × AllByRecursion (λ t. t.0 ≡ false) ((holds, e) ∷ tests)
accepted_at a x true e tests more h = cc
accepted_at a x false e tests more h = let rest = more h in (rest.0, (refl, rest.1))

-- a value is accepted as it is, and where no test holds
pub accepted : {A : Type 0} (a x : A) (tests : List (Bool × PathError)) → unless_refused a tests ≡ Ok x → (a ≡ x) × AllByRecursion (λ t. t.0 ≡ false) tests
accepted a x [] h = (cc, tt)
accepted a x (test ∷ tests) h = accepted_at a x test.0 test.1 tests (accepted a x tests) h

-- the tests decide, whatever the value is
pub accepts_too : {A B : Type 0} (a x : A) (b : B) (tests : List (Bool × PathError)) → unless_refused a tests ≡ Ok x → unless_refused b tests ≡ Ok b
accepts_too a x b tests h = accepts b tests (accepted a x tests h).1

refuses_at : {A B : Type 0} (a : A) (b : B) (r : PathError) (holds : Bool) (e : PathError) (tests : List (Bool × PathError)) → (unless_refused a tests ≡ Err r → unless_refused b tests ≡ Err r) → cond holds (Err e) (unless_refused a tests) ≡ Err r → cond holds (Err e) (unless_refused b tests) ≡ Err r
refuses_at a b r true e tests more h = cc
refuses_at a b r false e tests more h = more h

pub refuses_too : {A B : Type 0} (a : A) (b : B) (r : PathError) (tests : List (Bool × PathError)) → unless_refused a tests ≡ Err r → unless_refused b tests ≡ Err r
refuses_too a b r [] h = cc
refuses_too a b r (test ∷ tests) h = refuses_at a b r test.0 test.1 tests (refuses_too a b r tests) h

never_at : {A : Type 0} (a : A) (r : PathError) (holds : Bool) (e : PathError) (tests : List (Bool × PathError)) → (e ≡ r → ⊥) → (unless_refused a tests ≡ Err r → ⊥) → cond holds (Err e) (unless_refused a tests) ≡ Err r → ⊥
never_at a r true e tests other more h = other (cc)
never_at a r false e tests other more h = more h

-- no other refusal than those of the tests
pub never_refused : {A : Type 0} (a : A) (r : PathError) (tests : List (Bool × PathError)) → AllByRecursion (λ t. t.1 ≡ r → ⊥) tests → unless_refused a tests ≡ Err r → ⊥
never_refused a r [] all h = cc
never_refused a r (test ∷ tests) all h = never_at a r test.0 test.1 tests all.0 (never_refused a r tests all.1) h
