-- What is written of transforms that were read nests no deeper than what was read.
use Rattle.std.proofs.Common.{ℕ, ◌+◌, ◌≤◌, ◌<◌, List, [], ◌∷◌, map, Bool, true, Ok, IfOk, codes, arith}
use Rattle.std.proofs.lemmas.Result.{IfOk-weaker}
use Rattle.std.specs.List.{AllByRecursion}
use Rattle.fs_path.specs.Place.{member_place}
use Rattle.fs_path.specs.declared.field.FieldPath.{FieldPath}
use Rattle.serde_json.specs.Data as json
use Rattle.serde_json.specs.Data.{depth, items_depth, members_depth}
use Rattle.fs_value.specs.Data.{Data}
use Rattle.fs_json.specs.Members.{one_of_at, only_at, required_at}
use Rattle.fs_json.specs.Paths.{field_path_at}
use Rattle.fs_json.specs.Walk.{all_at}
use Rattle.fs_json.proofs.Readings.{at_last_holds, in_turn_holds, of_made}
use Rattle.fs_json.proofs.Depths.{inside_or, one_falls}
use Rattle.fs_json.proofs.Walks.{list_inside}
use Rattle.fs_valjson.proofs.Depths.{array_within}
use Rattle.fs_valjson.specs.Reading.{array_at}
use Rattle.fs_valjson.specs.Writing.{array_json}
use Rattle.fs_write.specs.declared.transform.Operation.{Operation}
use Rattle.fs_write.specs.declared.transform.Operation.TheVariants.{RequestTime, Increment, Maximum, Minimum, AppendMissing, RemoveAll}
use Rattle.fs_write.specs.declared.transform.Transform.{Transform}
use Rattle.fs_writejson.specs.Transform.{operation_at, operation_in, operation_json, operations, together, transform_at, transform_json, transform_members, transforms_at, transforms_in, transforms_json}
use Rattle.fs_writejson.proofs.Operations.{operation_holds}

abbrev GivenWithin : ℕ → Operation × Bool → Type 0
GivenWithin n o = depth (operation_json o.0) ≤ n

operation_within : (name : List ℕ) (d : json.Data) (place : List ℕ) (n : ℕ) → depth d ≤ n → 0 < n → IfOk (operation_at name d place) (GivenWithin n)
operation_within name d place n h some =
    let fits : List Data → Type 0 = λ ds. depth (array_json ds) ≤ n in
    let below : IfOk (array_at d place) fits = IfOk-weaker (array_at d place) (λ ds. depth (array_json ds) ≤ depth d) fits (λ ds are. omega (arith, are, h)) (array_within d place) in
    operation_holds (λ o. depth (operation_json o) ≤ n) name d place (omega arith) (λ z. omega (arith, some)) (λ z. omega (arith, some)) (λ z. omega (arith, some)) below below

transform_fits : (path : FieldPath) (o : Operation) (n : ℕ) → depth (operation_json o) ≤ n → depth (transform_json (record { path = path; operation = o })) ≤ n + 1
transform_fits path RequestTime n h = omega (arith, h)
transform_fits path (Increment z) n h = omega (arith, h)
transform_fits path (Maximum z) n h = omega (arith, h)
transform_fits path (Minimum z) n h = omega (arith, h)
transform_fits path (AppendMissing ds) n h = omega (arith, h)
transform_fits path (RemoveAll ds) n h = omega (arith, h)

abbrev StepWithin : ℕ → Transform × Bool → Type 0
StepWithin n t = depth (transform_json t.0) ≤ n + 1

transform_within : (d : json.Data) (place : List ℕ) (n : ℕ) → depth d ≤ n + 1 → 0 < n → IfOk (transform_at d place) (StepWithin n)
unfolding transform_at
transform_within d place n h some =
    at_last_holds (StepWithin n) (only_at transform_members d place) _
    (λ u. at_last_holds (StepWithin n) (required_at (codes "fieldPath") d place) _
    (λ text. at_last_holds (StepWithin n) (field_path_at text (member_place place (codes "fieldPath"))) _
    (λ path. in_turn_holds (GivenWithin n) (StepWithin n) (operation_in d place) _
    (in_turn_holds (λ one. depth one.1 < depth d) (GivenWithin n) (one_of_at operations d place) _ (one_falls operations d place)
    (λ one falls. operation_within one.0 one.1 (member_place place one.0) n (omega (arith, falls, h)) some)) (λ o are. transform_fits path o.0 n are))))

-- so deep are all of these
abbrev pub AllWithin : ℕ → List Transform × Bool → Type 0
AllWithin n ts = items_depth (transforms_json ts.0) ≤ n + 1

all_within : (n : ℕ) (ts : List (Transform × Bool)) → AllByRecursion (StepWithin n) ts → items_depth (transforms_json (map (λ t. t.0) ts)) ≤ n + 1
all_within n [] each = omega arith
all_within n (t ∷ ts) each = omega (arith, each.0, all_within n ts each.1)

pub transforms_within : (d : json.Data) (place : List ℕ) (n : ℕ) → depth d ≤ n + 3 → 0 < n → IfOk (transforms_in d place) (AllWithin n)
unfolding transforms_at
transforms_within d place n h some =
    inside_or (AllWithin n) (codes "updateTransforms") d place (λ x. transforms_at x (member_place place (codes "updateTransforms"))) (Ok ([], true))
    (λ x falls. listed x (member_place place (codes "updateTransforms")) (omega (arith, falls, h))) (omega arith)
  where
    listed : (x : json.Data) (p : List ℕ) → depth x ≤ n + 2 → IfOk (transforms_at x p) (AllWithin n)
    listed x p fits =
        of_made (AllByRecursion (StepWithin n)) (AllWithin n) together (all_at transform_at x p)
        (list_inside (StepWithin n) transform_at x (n + 1) p (omega (arith, fits)) (λ y q low. transform_within y q n low some)) (λ ts each. all_within n ts each)
