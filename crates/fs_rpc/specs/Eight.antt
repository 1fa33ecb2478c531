-- A 64-bit number in JSON: base64 of 8 bytes, the highest first. Bytes of another length are none.
-- (v1 reference: `transaction` and `stream_token`, bytes that only the server understands.)
--
--     transaction 2                            "AAAAAAAAAAI="
--     the token of a stream with no batch yet  "AAAAAAAAAAA="
use Rattle.std.specs.Prelude.{◌≡◌, ◌==◌, ℕ, List, length, Option, Some, None, Result, Ok, if◌then◌else◌}
use Rattle.std.specs.Int.{w64, byte_len, from_be_bytes, to_be_bytes}
use Rattle.base64.specs.Engines.{standard}
use Rattle.base64.specs.GeneralPurpose.{encode_of}
use Rattle.serde_json.specs.Data.{Data, string, Members, member}
use Rattle.fs_path.specs.declared.place.Rule.TheVariants.{G}
use Rattle.fs_json.specs.Answer.{made, or_fault, ◌>>=◌}
use Rattle.fs_json.specs.Base64.{bytes_of}
use Rattle.fs_json.specs.Members.{member_or}
use Rattle.fs_json.specs.declared.bad.Bad.{Bad}

-- ---- reading

-- the number that bytes are
unfoldable pub number_of : List ℕ → Option ℕ
number_of bytes = if length bytes == byte_len w64 then Some (from_be_bytes w64 bytes) else None

abbrev pub eight_at : Data → List ℕ → Result ℕ Bad
eight_at d place = or_fault G place (bytes_of d) >>= λ bytes. or_fault G place (number_of bytes)

-- one that may be absent
abbrev pub optional_eight_at : List ℕ → Data → List ℕ → Result (Option ℕ) Bad
optional_eight_at name d place = member_or None (λ x p. made Some (eight_at x p)) name d place

-- ---- writing

unfoldable pub eight_text : ℕ → List ℕ
eight_text n = encode_of standard (to_be_bytes w64 n)

abbrev pub eight_json : ℕ → Data
eight_json n = string (eight_text n)

-- a number under this name, where there is one, in front of what follows
abbrev pub with_eight : List ℕ → Option ℕ → Members → Members
with_eight name None rest = rest
with_eight name (Some n) rest = member name (eight_json n) rest

-- the text of a number is read back, at any place
abbrev pub IsEightHeld : ℕ → Type 0
IsEightHeld n = (place : List ℕ) → eight_at (eight_json n) place ≡ Ok n
