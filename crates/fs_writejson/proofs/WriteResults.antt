-- Results are read with names of documents and written no deeper than they were read, and read back, from their tokens too.
use Rattle.std.proofs.Common.{◌≡◌, ℕ, ◌+◌, ◌≤◌, ◌<◌, ℤ, List, [], ◌∷◌, Option, Some, None, Ok, IfOk, IfSome, codes, refl, arith}
use Rattle.std.proofs.lemmas.Result.{IfOk-weaker}
use Rattle.fs_path.specs.Place.{member_place}
use Rattle.serde_json.specs.Data as json
use Rattle.serde_json.specs.Data.{depth}
use Rattle.fs_value.specs.Data.{Data, items_of}
use Rattle.fs_json.specs.Members.{only_at}
use Rattle.fs_json.specs.Time.{optional_time_at, IsTimeHeld}
use Rattle.fs_json.proofs.Depths.{inside_or}
use Rattle.fs_json.proofs.Readings.{at_last_holds, in_turn_holds, member_holds}
use Rattle.fs_valjson.proofs.Depths.{list_within}
use Rattle.fs_valjson.specs.Reading.{list_at}
use Rattle.fs_valjson.specs.Tokens.{IsReadFromTokens}
use Rattle.fs_valjson.proofs.Valid.{list_names}
use Rattle.fs_valjson.specs.Writing.{list_json, ItemsHaveNames}
use Rattle.fs_write.specs.declared.write_result.WriteResult.{WriteResult}
use Rattle.fs_writejson.specs.Results.{result_json, transform_results_in, write_result_at, write_result_members, IsResultHeld}
use Rattle.fs_writejson.specs.Valid.{ResultHasNames}

-- ---- read

abbrev NamesIn : List Data → Type 0
NamesIn ds = ItemsHaveNames (items_of ds)

pub write_result_valid : (d : json.Data) (place : List ℕ) → IfOk (write_result_at d place) ResultHasNames
unfolding write_result_at
write_result_valid d place =
    at_last_holds ResultHasNames (only_at write_result_members d place) _
    (λ u. at_last_holds ResultHasNames (optional_time_at (codes "updateTime") d place) _
    (λ updated. in_turn_holds NamesIn ResultHasNames (transform_results_in d place) _
    (member_holds NamesIn [] list_at (codes "transformResults") d place list_names tt) (λ ds are. are)))

result_fits : (updated : Option ℤ) (ds : List Data) (n : ℕ) → depth (list_json ds) ≤ n → depth (result_json (record { updated = updated; transforms = ds })) ≤ n + 1
unfolding result_json
result_fits None [] n h = omega (arith, h)
result_fits (Some time) [] n h = omega (arith, h)
result_fits None (d ∷ ds) n h = omega (arith, h)
result_fits (Some time) (d ∷ ds) n h = omega (arith, h)

pub write_result_within : (d : json.Data) (place : List ℕ) (n : ℕ) → depth d ≤ n + 1 → 0 < n → IfOk (write_result_at d place) (λ r. depth (result_json r) ≤ n + 1)
unfolding write_result_at
write_result_within d place n h some =
    let within : WriteResult → Type 0 = λ r. depth (result_json r) ≤ n + 1 in
    let inner = member_place place (codes "transformResults") in
    let V : List Data → Type 0 = λ ds. depth (list_json ds) ≤ n in
    at_last_holds within (only_at write_result_members d place) _
    (λ u. at_last_holds within (optional_time_at (codes "updateTime") d place) _
    (λ updated. in_turn_holds V within (transform_results_in d place) _
    (inside_or V (codes "transformResults") d place (λ x. list_at x inner) (Ok [])
    (λ x falls. IfOk-weaker (list_at x inner) (λ ds. depth (list_json ds) ≤ depth x) V (λ ds are. omega (arith, are, falls, h)) (list_within x inner)) (omega (arith, some)))
    (λ ds are. result_fits updated ds n are)))

-- ---- written

result_again_at : (updated : Option ℤ) (ds : List Data) (place : List ℕ) → IfSome updated IsTimeHeld
    → ((p : List ℕ) → list_at (list_json ds) p ≡ Ok ds) → write_result_at (result_json (record { updated = updated; transforms = ds })) place ≡ Ok (record { updated = updated; transforms = ds })
unfolding write_result_at result_json
result_again_at None [] place t h = refl
result_again_at (Some time) [] place t h = rw (t (member_place place (codes "updateTime"))) refl
result_again_at None (d ∷ ds) place t h = rw (h (member_place place (codes "transformResults"))) refl
result_again_at (Some time) (d ∷ ds) place t h = rw (t (member_place place (codes "updateTime")), h (member_place place (codes "transformResults"))) refl

pub write_result_again : (r : WriteResult) (place : List ℕ) → IsResultHeld r → ResultHasNames r → write_result_at (result_json r) place ≡ Ok r
write_result_again r place held names = result_again_at r.updated r.transforms place held.updated (λ p. held.transforms.again p names)

from_tokens_at : (updated : Option ℤ) (ds : List Data) → IsReadFromTokens (list_json ds) → IsReadFromTokens (result_json (record { updated = updated; transforms = ds }))
unfolding result_json
from_tokens_at None [] h = refl
from_tokens_at (Some time) [] h = refl
from_tokens_at None (d ∷ ds) h = rw h refl
from_tokens_at (Some time) (d ∷ ds) h = rw h refl

pub result_from_tokens : (r : WriteResult) → IsResultHeld r → IsReadFromTokens (result_json r)
result_from_tokens r held = from_tokens_at r.updated r.transforms held.transforms.from_tokens
