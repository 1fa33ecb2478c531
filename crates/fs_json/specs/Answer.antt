-- What a reader answers: the value that is there, or the rule that is broken and where.
use Rattle.std.specs.Prelude.{◌≡◌, ◌⊎◌, ℕ, List, Option, Some, None, Result, Ok, Err, alloc_error}
use Rattle.fs_path.specs.declared.place.Rule.{Rule}
use Rattle.fs_json.specs.declared.bad.Bad.{Bad}
use Rattle.fs_json.specs.declared.bad.Bad.TheVariants.{At, Method, Memory}

-- the value, or that the rule is broken at the place
abbrev pub or_fault : {A : Type 0} → Rule → List ℕ → Option A → Result A Bad
or_fault rule place None = Err (At rule place)
or_fault rule place (Some x) = Ok x

-- one reading after another: the first fault decides
infixl 10 ◌>>=◌
abbrev pub ◌>>=◌ : {A B : Type 0} → Result A Bad → (A → Result B Bad) → Result B Bad
(Ok x) >>= f = f x
(Err bad) >>= f = Err bad

-- what is made of what was read
abbrev pub made : {A B : Type 0} → (A → B) → Result A Bad → Result B Bad
made make read = read >>= λ x. Ok (make x)

-- The answer, seen by view, is this reading. Want of memory may always come in its place.
abbrev pub Gives : {X Y : Type 0} → (X → Y) → Result X Bad → Result Y Bad → Type 0
Gives view (Ok x) reading = reading ≡ Ok (view x)
Gives view (Err (At rule place)) reading = reading ≡ Err (At rule place)
Gives view (Err (Method name)) reading = reading ≡ Err (Method name)
Gives view (Err (Memory e)) reading = Unit {0}

-- that the rule is broken at the place, or that there is no memory to tell it
abbrev pub IsBadAt : Rule → List ℕ → Bad → Type 0
IsBadAt rule place bad = (bad ≡ At rule place) ⊎ (bad ≡ Memory alloc_error)
