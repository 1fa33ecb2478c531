-- The JSON of a document, read and written. (v1 reference, "Document".)
use Rattle.std.specs.Prelude.{ℕ, ℤ, pos, List, [], ◌∷◌, Option, Result, Ok, codes}
use Rattle.std.specs.Option.{unwrap_or}
use Rattle.fs_path.specs.Document.{document_text}
use Rattle.fs_path.specs.Place.{member_place}
use Rattle.fs_path.specs.declared.name.DocName.{DocName}
use Rattle.fs_path.specs.declared.name.Root.{Root}
use Rattle.serde_json.specs.Data as json
use Rattle.fs_value.specs.Data.{Data, members_of}
use Rattle.fs_value.specs.declared.document.Document.{Document}
use Rattle.fs_json.specs.Answer.{made, ◌>>=◌}
use Rattle.fs_json.specs.Members.{member_or, only_at, required_at}
use Rattle.fs_json.specs.Paths.{document_name_at}
use Rattle.fs_json.specs.Time.{optional_time_at, time_json}
use Rattle.fs_json.specs.declared.bad.Bad.{Bad}
use Rattle.fs_valjson.specs.Reading.{fields_at}
use Rattle.fs_valjson.specs.Writing.{members_json}

abbrev pub document_members : List (List ℕ)
document_members = codes "name" ∷ codes "fields" ∷ codes "createTime" ∷ codes "updateTime" ∷ []

-- fields that are absent are none
abbrev pub fields_in : json.Data → List ℕ → Result (List (List ℕ × Data)) Bad
fields_in d place = member_or [] fields_at (codes "fields") d place

-- a time that is absent is the one of an empty `google.protobuf.Timestamp`, 1970-01-01T00:00:00Z
abbrev pub or_first : Option ℤ → ℤ
or_first time = unwrap_or time (pos 0)

abbrev pub time_in : List ℕ → json.Data → List ℕ → Result ℤ Bad
time_in name d place = made or_first (optional_time_at name d place)

-- what a document has beside its name
pub record Content : Type 0 where
  pub fields : List (List ℕ × Data)
  pub created : ℤ
  pub updated : ℤ

abbrev pub content_at : json.Data → List ℕ → Result Content Bad
content_at d place = do
  fields ← fields_in d place
  created ← time_in (codes "createTime") d place
  updated ← time_in (codes "updateTime") d place
  Ok (record { fields = fields; created = created; updated = updated })

-- a document of this root
unfoldable pub document_at : Root → json.Data → List ℕ → Result Document Bad
document_at root d place = do
  _ ← only_at document_members d place
  name ← required_at (codes "name") d place
  named ← document_name_at root name (member_place place (codes "name"))
  content ← content_at d place
  Ok (record { name = named; fields = content.fields; created = content.created; updated = content.updated })

-- ---- writing

-- fields that are none are left out
abbrev pub with_fields : json.Members → json.Members → json.Members
with_fields json.no_members rest = rest
with_fields (json.member k d ms) rest = json.member (codes "fields") (json.object (json.member k d ms)) rest

unfoldable pub document_json : Document → json.Data
document_json d =
    json.object (json.member (codes "createTime") (time_json d.created) (with_fields (members_json (members_of d.fields))
    (json.member (codes "name") (json.string (document_text d.name)) (json.member (codes "updateTime") (time_json d.updated) json.no_members))))

-- a document as an update has it, without times
unfoldable pub update_json : DocName → List (List ℕ × Data) → json.Data
update_json name fields = json.object (with_fields (members_json (members_of fields)) (json.member (codes "name") (json.string (document_text name)) json.no_members))

-- the document that it is read as
abbrev pub untimed : DocName → List (List ℕ × Data) → Document
untimed name fields = record { name = name; fields = fields; created = pos 0; updated = pos 0 }
