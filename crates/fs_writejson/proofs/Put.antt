-- Members that are put in one after another stand in the order of their names.
use Rattle.std.proofs.Common.{◌≡◌, List, [], ◌∷◌, codes, refl, ap, ◌∙◌}
use Rattle.serde_json.specs.Data.{Members, no_members, array, object, put}
use Rattle.fs_path.specs.declared.field.FieldPath.{FieldPath}
use Rattle.fs_write.specs.declared.transform.Transform.{Transform}
use Rattle.fs_write.specs.declared.write.Act.{Act}
use Rattle.fs_write.specs.declared.write.Act.TheVariants.{Set, Merge, Delete}
use Rattle.fs_write.specs.declared.write.Precondition.{Precondition}
use Rattle.fs_write.specs.declared.write.Precondition.TheVariants as condition
use Rattle.fs_writejson.specs.Mask.{mask_json, paths_json}
use Rattle.fs_writejson.specs.Steps.{with_act_put, with_condition_put, with_transforms_put}
use Rattle.fs_writejson.specs.Written.{transforms_member, with_act, with_condition}

-- a mask with paths
pub paths_put : (ps : List FieldPath) → (ps ≡ [] → ⊥) → object (put (codes "fieldPaths") (array (paths_json ps)) no_members) ≡ mask_json ps
paths_put [] some = absurd (some refl)
paths_put (p ∷ ps) some = refl

transforms_behind : (act : Act) (ts : List Transform) → with_transforms_put ts (with_act_put act no_members) ≡ with_act act (transforms_member ts)
transforms_behind (Set name fields) [] = refl
transforms_behind (Set name fields) (t ∷ ts) = refl
transforms_behind (Merge name fields mask) [] = refl
transforms_behind (Merge name fields mask) (t ∷ ts) = refl
transforms_behind (Delete name) [] = refl
transforms_behind (Delete name) (t ∷ ts) = refl

condition_before : (act : Act) (c : Precondition) (rest : Members) → with_condition_put c (with_act act rest) ≡ with_condition c (with_act act rest)
condition_before act condition.None rest = refl
condition_before (Set name fields) (condition.Exists there) rest = refl
condition_before (Set name fields) (condition.UpdateTime time) rest = refl
condition_before (Merge name fields mask) (condition.Exists there) rest = refl
condition_before (Merge name fields mask) (condition.UpdateTime time) rest = refl
condition_before (Delete name) (condition.Exists there) rest = refl
condition_before (Delete name) (condition.UpdateTime time) rest = refl

pub write_put : (act : Act) (ts : List Transform) (c : Precondition)
    → with_condition_put c (with_transforms_put ts (with_act_put act no_members)) ≡ with_condition c (with_act act (transforms_member ts))
write_put act ts c = ap (with_condition_put c) (transforms_behind act ts) ∙ condition_before act c (transforms_member ts)
