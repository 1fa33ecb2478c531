-- The lines of a script that are no requests: what the members of each form are read as.
use Rattle.std.specs.Prelude.{ℕ, ℤ, pos, negsuc, ◌^◌, nat_lt, Bool, List, [], ◌∷◌, Option, Some, None, Result, Ok, codes, option_and_then, if◌then◌else◌, ⊤}
use Rattle.serde_json.specs.Data.{Data}
use Rattle.serde_json.specs.Find.{as_bool}
use Rattle.fs_path.specs.declared.place.Rule.TheVariants.{G}
use Rattle.fs_json.specs.Answer.{or_fault, ◌>>=◌}
use Rattle.fs_json.specs.Members.{only_at, required_as, required_at}
use Rattle.fs_json.specs.Scalars.{integer_at, text_at}
use Rattle.fs_json.specs.Time.{optional_time_at}
use Rattle.fs_json.specs.declared.bad.Bad.{Bad}
use Rattle.fs_replay.specs.declared.request.Line.{Line}
use Rattle.fs_replay.specs.declared.request.Line.TheVariants.{Load}

-- the member of a line that has no other: in `{"settle":"12"}` that of `settle` is `"12"`
abbrev pub sole_at : List ℕ → Data → Result Data Bad
sole_at name d = only_at (name ∷ []) d [] >>= λ _. required_at name d []

-- what it is read as
abbrev pub sole_as : {A : Type 0} → (Data → List ℕ → Result A Bad) → List ℕ → Data → Result A Bad
sole_as read name d = sole_at name d >>= λ x. read x name

-- `true`, and no other value
abbrev pub only_true : Bool → Option ⊤
only_true b = if b then Some tt else None

-- a member that may only be `true`
abbrev pub true_at : Data → List ℕ → Result ⊤ Bad
true_at d place = or_fault G place (option_and_then only_true (as_bool d))

-- the name of a session that leaves
abbrev pub leave_at : Data → Result (List ℕ) Bad
leave_at d =
    only_at (codes "session" ∷ codes "leave" ∷ []) d [] >>= λ _.
    required_as text_at (codes "session") d [] >>= λ name.
    required_as true_at (codes "leave") d [] >>= λ _.
    Ok name

-- a number of 32 bits that has no sign
abbrev pub number_of : ℤ → Option ℕ
number_of (pos n) = if nat_lt n (2 ^ 32) then Some n else None
number_of (negsuc n) = None

abbrev pub number_at : Data → List ℕ → Result ℕ Bad
number_at d place = integer_at d place >>= λ z. or_fault G place (number_of z)

-- a target of a session that is to be loaded, and the time
unfoldable pub load_at : Data → List ℕ → Result Line Bad
load_at d place = do
  _ ← only_at (codes "session" ∷ codes "target" ∷ codes "at" ∷ []) d place
  name ← required_as text_at (codes "session") d place
  target ← required_as number_at (codes "target") d place
  at ← optional_time_at (codes "at") d place
  Ok (Load name target at)
