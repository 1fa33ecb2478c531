-- What the members of an object are read as that hold one text, truth value or integer.
use Rattle.std.specs.Prelude.{ℕ, ℤ, Bool, List, Result}
use Rattle.fs_path.specs.declared.place.Rule.TheVariants.{G}
use Rattle.serde_json.specs.Data.{Data}
use Rattle.serde_json.specs.Find.{as_bool, as_str}
use Rattle.fs_json.specs.Answer.{or_fault}
use Rattle.fs_json.specs.Integer.{integer_of, small_of}
use Rattle.fs_json.specs.declared.bad.Bad.{Bad}

-- a string
abbrev pub text_at : Data → List ℕ → Result (List ℕ) Bad
text_at d place = or_fault G place (as_str d)

-- a truth value
abbrev pub truth_at : Data → List ℕ → Result Bool Bad
truth_at d place = or_fault G place (as_bool d)

-- a 64-bit integer, and one of 32 bits
abbrev pub integer_at : Data → List ℕ → Result ℤ Bad
integer_at d place = or_fault G place (integer_of d)

abbrev pub small_at : Data → List ℕ → Result ℤ Bad
small_at d place = or_fault G place (small_of d)
