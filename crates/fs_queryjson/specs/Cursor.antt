-- The JSON of a cursor. (v1 reference, "Cursor".)
--
--     at 1             {"before":true,"values":[{"integerValue":"1"}]}
--     just after 1     {"values":[{"integerValue":"1"}]}
use Rattle.std.specs.Prelude.{ℕ, Bool, true, false, List, [], ◌∷◌, Option, Some, None, Result, Ok, codes}
use Rattle.serde_json.specs.Data as json
use Rattle.fs_json.specs.Answer.{◌>>=◌, made}
use Rattle.fs_json.specs.Members.{only_at, member_or}
use Rattle.fs_json.specs.declared.bad.Bad.{Bad}
use Rattle.fs_value.specs.Data.{Data}
use Rattle.fs_query.specs.declared.cursor.Cursor.{Cursor}
use Rattle.fs_valjson.specs.Reading.{list_at}
use Rattle.fs_valjson.specs.Writing.{list_json}
use Rattle.fs_json.specs.Scalars.{truth_at}

abbrev pub cursor_members : List (List ℕ)
cursor_members = codes "values" ∷ codes "before" ∷ []

abbrev pub cursor_at : json.Data → List ℕ → Result Cursor Bad
cursor_at d place =
    only_at cursor_members d place >>= λ _. member_or [] list_at (codes "values") d place >>= λ values. member_or false truth_at (codes "before") d place >>= λ before. Ok (record { values = values; before = before })

-- the cursor of this name, which may be absent
abbrev pub cursor_in : List ℕ → json.Data → List ℕ → Result (Option Cursor) Bad
cursor_in name d place = member_or None (λ x inside. made Some (cursor_at x inside)) name d place

-- ---- writing

-- values that are none are left out
abbrev pub with_values : List Data → json.Members
with_values [] = json.no_members
with_values (d ∷ ds) = json.member (codes "values") (list_json (d ∷ ds)) json.no_members

abbrev pub with_before : Bool → json.Members → json.Members
with_before true rest = json.member (codes "before") (json.boolean true) rest
with_before false rest = rest

abbrev pub cursor_json : Cursor → json.Data
cursor_json c = json.object (with_before c.before (with_values c.values))
