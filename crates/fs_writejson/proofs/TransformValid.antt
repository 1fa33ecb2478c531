-- The references in transforms that are read are names of documents.
use Rattle.std.proofs.Common.{ℕ, List, [], ◌∷◌, map, Bool, true, Ok, IfOk, codes}
use Rattle.std.specs.List.{AllByRecursion}
use Rattle.fs_path.specs.Place.{member_place}
use Rattle.serde_json.specs.Data as json
use Rattle.fs_value.specs.Data.{items_of}
use Rattle.fs_json.specs.Members.{member_at, one_of_at, only_at, required_at}
use Rattle.fs_json.specs.Paths.{field_path_at}
use Rattle.fs_json.specs.Walk.{all_at}
use Rattle.fs_json.proofs.Readings.{at_last_holds, found_or, in_turn_holds, of_made}
use Rattle.fs_json.proofs.Walks.{each_of_list}
use Rattle.fs_valjson.proofs.Valid.{array_names}
use Rattle.fs_valjson.specs.Writing.{ItemsHaveNames}
use Rattle.fs_write.specs.Rules.{operand}
use Rattle.fs_write.specs.declared.transform.Operation.{Operation}
use Rattle.fs_write.specs.declared.transform.Transform.{Transform}
use Rattle.fs_writejson.specs.Transform.{operation_at, operation_in, operations, together, transform_at, transform_members, transforms_at, transforms_in}
use Rattle.fs_writejson.specs.Valid.{HasNames}
use Rattle.fs_writejson.proofs.Operations.{operation_holds}

-- the references in what an operation is given
abbrev GivenNames : Operation × Bool → Type 0
GivenNames o = ItemsHaveNames (items_of (operand o.0))

operation_names : (name : List ℕ) (d : json.Data) (place : List ℕ) → IfOk (operation_at name d place) GivenNames
operation_names name d place =
    operation_holds (λ o. ItemsHaveNames (items_of (operand o))) name d place tt (λ z. tt) (λ z. tt) (λ z. tt) (array_names d place) (array_names d place)

abbrev StepNames : Transform × Bool → Type 0
StepNames t = HasNames t.0

transform_names : (d : json.Data) (place : List ℕ) → IfOk (transform_at d place) StepNames
unfolding transform_at
transform_names d place =
    at_last_holds StepNames (only_at transform_members d place) _
    (λ u. at_last_holds StepNames (required_at (codes "fieldPath") d place) _
    (λ text. at_last_holds StepNames (field_path_at text (member_place place (codes "fieldPath"))) _
    (λ path. in_turn_holds GivenNames StepNames (operation_in d place) _
    (at_last_holds GivenNames (one_of_at operations d place) _ (λ one. operation_names one.0 one.1 (member_place place one.0))) (λ o are. are))))

abbrev pub AllNames : List Transform × Bool → Type 0
AllNames ts = AllByRecursion HasNames ts.0

firsts : (ts : List (Transform × Bool)) → AllByRecursion StepNames ts → AllByRecursion HasNames (map (λ t. t.0) ts)
firsts [] each = tt
firsts (t ∷ ts) each = (each.0, firsts ts each.1)

list_of_transforms : (d : json.Data) (place : List ℕ) → IfOk (transforms_at d place) AllNames
unfolding transforms_at
list_of_transforms d place =
    of_made (AllByRecursion StepNames) AllNames together (all_at transform_at d place) (each_of_list StepNames transform_at d place transform_names) (λ ts each. firsts ts each)

pub transforms_names : (d : json.Data) (place : List ℕ) → IfOk (transforms_in d place) AllNames
transforms_names d place =
    at_last_holds AllNames (member_at (codes "updateTransforms") d place) _
    (λ found. found_or AllNames (λ x. transforms_at x (member_place place (codes "updateTransforms"))) found (Ok ([], true))
    (λ x. list_of_transforms x (member_place place (codes "updateTransforms"))) tt)
