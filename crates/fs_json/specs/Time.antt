-- Times in JSON: strings of RFC 3339 (proto3 JSON: `google.protobuf.Timestamp`).
use Rattle.std.specs.Prelude.{◌≡◌, ℕ, ℤ, List, Option, Some, None, Result, Ok, Err}
use Rattle.fs_path.specs.declared.place.Rule.TheVariants.{T}
use Rattle.fs_time.specs.Rfc3339.{time_of, time_text}
use Rattle.fs_time.specs.declared.error.TimeError.{TimeError}
use Rattle.fs_time.specs.declared.error.TimeError.TheVariants.{BadText, OutOfRange, Memory as NoMemory}
use Rattle.serde_json.specs.Data.{Data, string}
use Rattle.fs_json.specs.Answer.{made, ◌>>=◌}
use Rattle.fs_json.specs.Members.{member_or, required_as}
use Rattle.fs_json.specs.Scalars.{text_at}
use Rattle.fs_json.specs.declared.bad.Bad.{Bad}
use Rattle.fs_json.specs.declared.bad.Bad.TheVariants.{At, Memory}

-- what was read of a time's text, or the rule of times that is broken: 1 for a text that is no time, 2 out of range
abbrev pub moment_at : List ℕ → Result ℤ TimeError → Result ℤ Bad
moment_at place (Ok z) = Ok z
moment_at place (Err BadText) = Err (At (T 1) place)
moment_at place (Err OutOfRange) = Err (At (T 2) place)
moment_at place (Err (NoMemory e)) = Err (Memory e)

abbrev pub time_at : Data → List ℕ → Result ℤ Bad
time_at d place = text_at d place >>= λ text. moment_at place (time_of text)

-- a time that has to be a member
abbrev pub required_time_at : List ℕ → Data → List ℕ → Result ℤ Bad
required_time_at name d place = required_as time_at name d place

-- and one that may be absent
abbrev pub optional_time_at : List ℕ → Data → List ℕ → Result (Option ℤ) Bad
optional_time_at name d place = member_or None (λ x p. made Some (time_at x p)) name d place

-- a time as it is written
abbrev pub time_json : ℤ → Data
time_json z = string (time_text z)

-- the text of a time is read back, at any place
abbrev pub IsTimeHeld : ℤ → Type 0
IsTimeHeld z = (place : List ℕ) → time_at (time_json z) place ≡ Ok z
