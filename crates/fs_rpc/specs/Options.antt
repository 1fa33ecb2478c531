-- The options of a transaction: that it only reads, as of a time or as of now, or that it reads and writes.
-- (v1 reference: `TransactionOptions`.)
--
--     {"readOnly":{"readTime":"2024-01-01T00:00:00Z"}}     only reads, as of that time
--     {"readOnly":{}}                                      only reads, as of now
--     {"readWrite":{"retryTransaction":"AAAAAAAAAAI="}}    reads and writes; which one is tried again is ignored
--     {}                                                   reads and writes
use Rattle.std.specs.Prelude.{ℕ, List, [], ◌∷◌, Result, Ok, codes, if◌then◌else◌}
use Rattle.std.specs.Option.{option_map_or}
use Rattle.std.specs.Str.{bytes_eq}
use Rattle.serde_json.specs.Data.{Data, object, no_members}
use Rattle.fs_path.specs.Place.{member_place}
use Rattle.fs_json.specs.Answer.{◌>>=◌}
use Rattle.fs_json.specs.Members.{at_most_one_at, member_or, only_at, with_one}
use Rattle.fs_json.specs.Time.{optional_time_at}
use Rattle.fs_json.specs.declared.bad.Bad.{Bad}
use Rattle.fs_rpc.specs.Eight.{optional_eight_at}
use Rattle.fs_rpc.specs.When.{with_read_time}
use Rattle.fs_request.specs.declared.options.TransactionOptions.{TransactionOptions}
use Rattle.fs_request.specs.declared.options.TransactionOptions.TheVariants.{ReadWrite, ReadOnly}

-- ---- reading

abbrev pub read_only_members : List (List ℕ)
read_only_members = codes "readTime" ∷ []

unfoldable pub read_only_at : Data → List ℕ → Result TransactionOptions Bad
read_only_at d place = do
  _ ← only_at read_only_members d place
  time ← optional_time_at (codes "readTime") d place
  Ok (ReadOnly time)

abbrev pub read_write_members : List (List ℕ)
read_write_members = codes "retryTransaction" ∷ []

unfoldable pub read_write_at : Data → List ℕ → Result TransactionOptions Bad
read_write_at d place = do
  _ ← only_at read_write_members d place
  _ ← optional_eight_at (codes "retryTransaction") d place
  Ok ReadWrite

-- the members of options, of which at most one is given
abbrev pub options_members : List (List ℕ)
options_members = codes "readOnly" ∷ codes "readWrite" ∷ []

-- what one of them tells, by its name
abbrev pub mode_at : List ℕ → Data → List ℕ → Result TransactionOptions Bad
mode_at name d place =
    if bytes_eq name (codes "readOnly") then read_only_at d (member_place place (codes "readOnly"))
    else read_write_at d (member_place place (codes "readWrite"))

unfoldable pub options_at : Data → List ℕ → Result TransactionOptions Bad
options_at d place = do
  _ ← only_at options_members d place
  one ← at_most_one_at options_members d place
  option_map_or (λ x. mode_at x.0 x.1 place) one (Ok ReadWrite)

-- a transaction without options reads and writes
abbrev pub options_in : Data → List ℕ → Result TransactionOptions Bad
options_in d place = member_or ReadWrite options_at (codes "options") d place

-- ---- writing

-- `{"readWrite":{}}`, `{"readOnly":{}}` or `{"readOnly":{"readTime":".."}}`
abbrev pub options_json : TransactionOptions → Data
options_json ReadWrite = with_one (codes "readWrite") (object no_members)
options_json (ReadOnly time) = with_one (codes "readOnly") (object (with_read_time time no_members))
