-- What is written has no float, so its text is told byte for byte.
use Rattle.std.proofs.Common.{◌≡◌, false, List, [], ◌∷◌, map, refl}
use Rattle.serde_json.specs.View.{items_of}
use Rattle.serde_json.specs.Written.{has_float, items_have_float, members_have_float}
use Rattle.fs_path.specs.declared.field.FieldPath.{FieldPath}
use Rattle.fs_valjson.proofs.Floats.{array_float, update_float}
use Rattle.fs_write.specs.declared.transform.Operation.{Operation}
use Rattle.fs_write.specs.declared.transform.Operation.TheVariants.{RequestTime, Increment, Maximum, Minimum, AppendMissing, RemoveAll}
use Rattle.fs_write.specs.declared.transform.Transform.{Transform}
use Rattle.fs_write.specs.declared.write.Act.{Act}
use Rattle.fs_write.specs.declared.write.Act.TheVariants.{Set, Merge, Delete}
use Rattle.fs_write.specs.declared.write.Precondition.{Precondition}
use Rattle.fs_write.specs.declared.write.Precondition.TheVariants as condition
use Rattle.fs_write.specs.declared.write.Write.{Write}
use Rattle.fs_writejson.specs.Mask.{mask_json}
use Rattle.fs_json.specs.Paths.{path_json}
use Rattle.fs_writejson.specs.Transform.{transform_json}
use Rattle.fs_writejson.specs.Written.{transforms_member, with_act, write_json}

paths_float : (ps : List FieldPath) → items_have_float (items_of (map path_json ps)) ≡ false
paths_float [] = refl
paths_float (p ∷ ps) = rw (paths_float ps) refl

pub mask_float : (ps : List FieldPath) → has_float (mask_json ps) ≡ false
mask_float [] = refl
mask_float (p ∷ ps) = rw (paths_float ps) refl

transform_float_at : (path : FieldPath) (o : Operation) → has_float (transform_json (record { path = path; operation = o })) ≡ false
transform_float_at path RequestTime = refl
transform_float_at path (Increment n) = refl
transform_float_at path (Maximum n) = refl
transform_float_at path (Minimum n) = refl
transform_float_at path (AppendMissing ds) = rw (array_float ds) refl
transform_float_at path (RemoveAll ds) = rw (array_float ds) refl

transforms_float : (ts : List Transform) → items_have_float (items_of (map transform_json ts)) ≡ false
transforms_float [] = refl
transforms_float (t ∷ ts) = rw (transform_float_at t.path t.operation, transforms_float ts) refl

transforms_member_float : (ts : List Transform) → members_have_float (transforms_member ts) ≡ false
transforms_member_float [] = refl
transforms_member_float (t ∷ ts) = rw (transform_float_at t.path t.operation, transforms_float ts) refl

act_float : (act : Act) (ts : List Transform) → members_have_float (with_act act (transforms_member ts)) ≡ false
act_float (Set name fields) ts = rw (update_float name fields, transforms_member_float ts) refl
act_float (Merge name fields mask) ts = rw (update_float name fields, mask_float mask, transforms_member_float ts) refl
act_float (Delete name) ts = rw (transforms_member_float ts) refl

write_float_at : (act : Act) (ts : List Transform) (c : Precondition) → has_float (write_json (record { act = act; transforms = ts; condition = c })) ≡ false
unfolding write_json
write_float_at act ts condition.None = act_float act ts
write_float_at act ts (condition.Exists there) = act_float act ts
write_float_at act ts (condition.UpdateTime time) = act_float act ts

pub write_float : (w : Write) → has_float (write_json w) ≡ false
write_float w = write_float_at w.act w.transforms w.condition
