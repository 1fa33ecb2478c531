-- What the ids of a path break, and in which order it is told. (Cloud Firestore documentation, "Usage and limits".)
use Rattle.std.specs.Prelude.{ℕ, ◌%◌, Bool, not, ◌||◌, List, [], ◌∷◌, length, Option, is_some, nat_lt, ◌==◌}
use Rattle.std.specs.List.{list_any, find}
use Rattle.std.specs.Option.{option_map, unwrap_or}
use Rattle.fs_path.specs.declared.error.PathError.{PathError}
use Rattle.fs_path.specs.declared.error.PathError.TheVariants.{Parity, Empty, Reserved, Dots, TooLong, TooDeep}
use Rattle.fs_path.specs.Limits.{max_name, max_segments}
use Rattle.fs_path.specs.Segment.{is_empty, is_reserved, is_dots, is_long}

-- the number of ids; whether some id is empty, reserved, or of dots; and the length of the first that is too long
pub record Findings : Type 0 where
  pub count : ℕ
  pub empty : Bool
  pub reserved : Bool
  pub dots : Bool
  pub long : Option ℕ

abbrev pub findings : List (List ℕ) → Findings
findings ids = record {
  count = length ids;
  empty = list_any is_empty ids;
  reserved = list_any is_reserved ids;
  dots = list_any is_dots ids;
  long = option_map length (find is_long ids);
}

-- the tests of ids, in the order in which a refusal is told, for a text of so many bytes
abbrev pub id_refusals : Findings → ℕ → List (Bool × PathError)
id_refusals f bytes =
    (f.empty, Empty)
    ∷ (f.reserved, Reserved)
    ∷ (f.dots, Dots)
    ∷ (is_some f.long, TooLong (unwrap_or f.long 0))
    ∷ (nat_lt max_name bytes, TooLong bytes)
    ∷ (nat_lt max_segments f.count, TooDeep f.count)
    ∷ []

abbrev pub is_even : ℕ → Bool
is_even n = n % 2 == 0

-- a document's path has an even number of ids, at least two
abbrev pub document_refusals : Findings → ℕ → List (Bool × PathError)
document_refusals f bytes = (not (is_even f.count) || f.count == 0, Parity) ∷ id_refusals f bytes

-- a parent's path has an even number of ids, which may be none
abbrev pub parent_refusals : Findings → ℕ → List (Bool × PathError)
parent_refusals f bytes = (not (is_even f.count), Parity) ∷ id_refusals f bytes
