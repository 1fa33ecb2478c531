-- What holds of whatever is read, reading by reading. Each crate that reads JSON may cite it.
use Rattle.std.proofs.Common.{◌≡◌, ℕ, List, Bool, true, false, Option, Some, None, Result, Ok, Err, IfOk, cond, inl, inr, refl, subst}
use Rattle.std.specs.Option.{option_map_or}
use Rattle.fs_path.specs.Place.{member_place}
use Rattle.serde_json.specs.Data.{Data}
use Rattle.fs_json.specs.Answer.{Gives, IsBadAt, made, ◌>>=◌}
use Rattle.fs_json.specs.Members.{member_at, member_or, required_as, required_at}
use Rattle.fs_json.specs.declared.bad.Bad.{Bad}
use Rattle.fs_json.specs.declared.bad.Bad.TheVariants.{At, Method, Memory}
use Rattle.fs_path.specs.declared.place.Rule.{Rule}

-- what holds of whatever a reading is holds of what is answered
pub of_reading : {X Y : Type 0} (view : X → Y) (P : Y → Type 0) (answer : Result X Bad) (reading : Result Y Bad) → Gives view answer reading → IfOk reading P
    → IfOk answer (λ x. P (view x))
of_reading view P (Ok x) reading gives holds = subst (λ r. IfOk r P) gives holds
of_reading view P (Err bad) reading gives holds = record {}

-- what follows from where it is read
pub as_it_is : {A E : Type 0} (P : A → Type 0) (r : Result A E) → ((x : A) → r ≡ Ok x → P x) → IfOk r P
as_it_is P (Ok x) each = each x refl
as_it_is P (Err bad) each = record {}

-- one reading after another
pub in_turn_holds : {A B : Type 0} (P : A → Type 0) (Q : B → Type 0) (first : Result A Bad) (next : A → Result B Bad) → IfOk first P → ((x : A) → P x → IfOk (next x) Q)
    → IfOk (first >>= next) Q
in_turn_holds P Q (Ok x) next holds more = more x holds
in_turn_holds P Q (Err bad) next holds more = record {}

-- after a reading of which nothing is asked
pub at_last_holds : {A B : Type 0} (Q : B → Type 0) (first : Result A Bad) (next : A → Result B Bad) → ((x : A) → IfOk (next x) Q) → IfOk (first >>= next) Q
at_last_holds Q (Ok x) next more = more x
at_last_holds Q (Err bad) next more = record {}

-- what is read in turn is what is read at last
pub last_ok : {A B : Type 0} (first : Result A Bad) (then : Result B Bad) (x : B) → (first >>= λ _. then) ≡ Ok x → then ≡ Ok x
last_ok (Ok y) then x e = e
last_ok (Err bad) then x e = cc

-- Two readings, of which one is made: an item and the items behind it, a field and the fields behind it.
pub both_hold : {A B C : Type 0} (P : A → Type 0) (Q : B → Type 0) (R : C → Type 0) (make : A → B → C) (first : Result A Bad) (rest : Result B Bad) → IfOk first P → IfOk rest Q
    → ((x : A) (xs : B) → P x → Q xs → R (make x xs)) → IfOk (first >>= λ x. rest >>= λ xs. Ok (make x xs)) R
both_hold P Q R make (Ok x) (Ok xs) one more all = all x xs one more
both_hold P Q R make (Ok x) (Err bad) one more all = record {}
both_hold P Q R make (Err bad) rest one more all = record {}

-- what is made of a reading
pub of_made : {A B : Type 0} (P : A → Type 0) (Q : B → Type 0) (make : A → B) (read : Result A Bad) → IfOk read P → ((x : A) → P x → Q (make x)) → IfOk (made make read) Q
of_made P Q make (Ok x) holds more = more x holds
of_made P Q make (Err bad) holds more = record {}

-- either of two readings
pub either : {A : Type 0} (P : A → Type 0) (b : Bool) (x y : Result A Bad) → IfOk x P → IfOk y P → IfOk (cond b x y) P
either P true x y first second = first
either P false x y first second = second

-- ---- members

-- a member that may be absent
pub found_or : {A X : Type 0} (P : A → Type 0) (read : X → Result A Bad) (found : Option X) (absent : Result A Bad) → ((x : X) → IfOk (read x) P) → IfOk absent P
    → IfOk (option_map_or read found absent) P
found_or P read None absent each none = none
found_or P read (Some x) absent each none = each x

pub member_holds : {A : Type 0} (P : A → Type 0) (absent : A) (read : Data → List ℕ → Result A Bad) (name : List ℕ) (d : Data) (place : List ℕ)
    → ((x : Data) (p : List ℕ) → IfOk (read x p) P) → P absent → IfOk (member_or absent read name d place) P
member_holds P absent read name d place each none =
    at_last_holds P (member_at name d place) _
    (λ found. found_or P (λ x. read x (member_place place name)) found (Ok absent) (λ x. each x (member_place place name)) none)

-- and one that has to be there
pub required_holds : {A : Type 0} (P : A → Type 0) (read : Data → List ℕ → Result A Bad) (name : List ℕ) (d : Data) (place : List ℕ)
    → ((x : Data) (p : List ℕ) → IfOk (read x p) P) → IfOk (required_as read name d place) P
required_holds P read name d place each = at_last_holds P (required_at name d place) _ (λ x. each x (member_place place name))

-- ---- refusals

-- what tells a fault gives a reading that is that fault
pub told : {X Y : Type 0} (view : X → Y) (rule : Rule) (place : List ℕ) (bad : Bad) (reading : Result Y Bad) → IsBadAt rule place bad → reading ≡ Err (At rule place)
    → Gives view (Err bad) reading
told view rule place (At r p) reading (inl e) is = cc
told view rule place (At r p) reading (inr e) is = absurd (cc)
told view rule place (Method name) reading (inl e) is = absurd (cc)
told view rule place (Method name) reading (inr e) is = absurd (cc)
told view rule place (Memory e) reading h is = record {}
