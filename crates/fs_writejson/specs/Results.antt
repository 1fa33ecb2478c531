-- The JSON of the result of a write. (v1 reference, "WriteResult".)
--
--     updated at 2024, an increment came to 3     {"transformResults":[{"integerValue":"3"}],"updateTime":"2024-01-01T00:00:00Z"}
--     a delete                                    {}
use Rattle.std.specs.Prelude.{ℕ, ℤ, List, [], ◌∷◌, Option, Some, None, Result, Ok, IfSome, codes}
use Rattle.serde_json.specs.Data as json
use Rattle.fs_value.specs.Data.{Data}
use Rattle.fs_json.specs.Answer.{◌>>=◌}
use Rattle.fs_json.specs.Members.{member_or, only_at}
use Rattle.fs_json.specs.Time.{optional_time_at, time_json, IsTimeHeld}
use Rattle.fs_json.specs.declared.bad.Bad.{Bad}
use Rattle.fs_valjson.specs.Reading.{list_at}
use Rattle.fs_valjson.specs.Valid.{IsListHeld}
use Rattle.fs_valjson.specs.Writing.{list_json}
use Rattle.fs_write.specs.declared.write_result.WriteResult.{WriteResult}

-- ---- reading

-- the members that a result may have
abbrev pub write_result_members : List (List ℕ)
write_result_members = codes "updateTime" ∷ codes "transformResults" ∷ []

-- an absent list has no values
abbrev pub transform_results_in : json.Data → List ℕ → Result (List Data) Bad
transform_results_in d place = member_or [] list_at (codes "transformResults") d place

-- a delete has no time at which the document was last updated
unfoldable pub write_result_at : json.Data → List ℕ → Result WriteResult Bad
write_result_at d place = do
  _ ← only_at write_result_members d place
  updated ← optional_time_at (codes "updateTime") d place
  transforms ← transform_results_in d place
  Ok (record { updated = updated; transforms = transforms })

-- ---- writing

abbrev pub updated_member : Option ℤ → json.Members
updated_member None = json.no_members
updated_member (Some time) = json.member (codes "updateTime") (time_json time) json.no_members

abbrev pub with_results : List Data → json.Members → json.Members
with_results [] rest = rest
with_results (d ∷ ds) rest = json.member (codes "transformResults") (list_json (d ∷ ds)) rest

unfoldable pub result_json : WriteResult → json.Data
result_json r = json.object (with_results r.transforms (updated_member r.updated))

-- what is written of it is read back: its time, and its values
pub record IsResultHeld (r : WriteResult) : Type 0 where
  pub updated : IfSome r.updated IsTimeHeld
  pub transforms : IsListHeld r.transforms
