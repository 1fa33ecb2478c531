-- The JSON of a write, as it is written. The members of each object stand in byte order of their names, and what is absent
-- or empty is left out, but for a mask. (v1 reference, "Write"; proto3 JSON.)
--
--     delete of c/a                                     {"delete":"projects/p/databases/d/documents/c/a"}
--     c/a becomes {} with an empty mask                 {"update":{"name":".."},"updateMask":{}}
--     delete of c/a, which must not be there            {"currentDocument":{"exists":false},"delete":".."}
use Rattle.std.specs.Prelude.{List, [], ◌∷◌, codes}
use Rattle.fs_path.specs.Document.{document_text}
use Rattle.serde_json.specs.Data.{Data, boolean, string, array, object, Members, no_members, member}
use Rattle.fs_json.specs.Time.{time_json}
use Rattle.fs_valjson.specs.Document.{update_json}
use Rattle.fs_json.specs.Members.{with_one}
use Rattle.fs_write.specs.declared.transform.Transform.{Transform}
use Rattle.fs_write.specs.declared.write.Act.{Act}
use Rattle.fs_write.specs.declared.write.Act.TheVariants.{Set, Merge, Delete}
use Rattle.fs_write.specs.declared.write.Precondition.{Precondition}
use Rattle.fs_write.specs.declared.write.Precondition.TheVariants as condition
use Rattle.fs_write.specs.declared.write.Write.{Write}
use Rattle.fs_writejson.specs.Mask.{mask_json}
use Rattle.fs_writejson.specs.Transform.{transforms_json}

abbrev pub with_condition : Precondition → Members → Members
with_condition condition.None rest = rest
with_condition (condition.Exists there) rest = member (codes "currentDocument") (with_one (codes "exists") (boolean there)) rest
with_condition (condition.UpdateTime time) rest = member (codes "currentDocument") (with_one (codes "updateTime") (time_json time)) rest

abbrev pub with_act : Act → Members → Members
with_act (Set name fields) rest = member (codes "update") (update_json name fields) rest
with_act (Merge name fields mask) rest = member (codes "update") (update_json name fields) (member (codes "updateMask") (mask_json mask) rest)
with_act (Delete name) rest = member (codes "delete") (string (document_text name)) rest

abbrev pub transforms_member : List Transform → Members
transforms_member [] = no_members
transforms_member (t ∷ ts) = member (codes "updateTransforms") (array (transforms_json (t ∷ ts))) no_members

unfoldable pub write_json : Write → Data
write_json w = object (with_condition w.condition (with_act w.act (transforms_member w.transforms)))
