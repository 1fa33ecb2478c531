-- What only private clauses cite: the member of a precondition that is there, and the members of an object that is
-- written, put in one after another.
use Rattle.std.specs.Prelude.{ℕ, List, [], ◌∷◌, Option, Result, codes}
use Rattle.fs_path.specs.Document.{document_text}
use Rattle.serde_json.specs.Data as json
use Rattle.fs_json.specs.Answer.{◌>>=◌}
use Rattle.fs_json.specs.Members.{at_most_one_at, only_at, with_one}
use Rattle.fs_json.specs.Time.{time_json}
use Rattle.fs_json.specs.declared.bad.Bad.{Bad}
use Rattle.fs_valjson.specs.Document.{update_json}
use Rattle.fs_write.specs.declared.transform.Transform.{Transform}
use Rattle.fs_write.specs.declared.write.Act.{Act}
use Rattle.fs_write.specs.declared.write.Act.TheVariants.{Set, Merge, Delete}
use Rattle.fs_write.specs.declared.write.Precondition.{Precondition}
use Rattle.fs_write.specs.declared.write.Precondition.TheVariants as condition
use Rattle.fs_writejson.specs.Condition.{condition_members}
use Rattle.fs_writejson.specs.Mask.{mask_json}
use Rattle.fs_writejson.specs.Transform.{transforms_json}

-- ---- read

abbrev pub the_condition : json.Data → List ℕ → Result (Option (List ℕ × json.Data)) Bad
the_condition d place = only_at condition_members d place >>= λ _. at_most_one_at condition_members d place

-- ---- written

abbrev pub with_act_put : Act → json.Members → json.Members
with_act_put (Set name fields) others = json.put (codes "update") (update_json name fields) others
with_act_put (Merge name fields mask) others = json.put (codes "updateMask") (mask_json mask) (json.put (codes "update") (update_json name fields) others)
with_act_put (Delete name) others = json.put (codes "delete") (json.string (document_text name)) others

abbrev pub with_transforms_put : List Transform → json.Members → json.Members
with_transforms_put [] others = others
with_transforms_put (t ∷ ts) others = json.put (codes "updateTransforms") (json.array (transforms_json (t ∷ ts))) others

abbrev pub with_condition_put : Precondition → json.Members → json.Members
with_condition_put condition.None others = others
with_condition_put (condition.Exists there) others = json.put (codes "currentDocument") (with_one (codes "exists") (json.boolean there)) others
with_condition_put (condition.UpdateTime time) others = json.put (codes "currentDocument") (with_one (codes "updateTime") (time_json time)) others
