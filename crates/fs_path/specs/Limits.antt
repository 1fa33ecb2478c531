-- The greatest sizes. (Cloud Firestore documentation, "Usage and limits": collections, documents, and fields.)
use Rattle.std.specs.Prelude.{ℕ}

-- bytes of a collection's or a document's id
abbrev pub max_id : ℕ
max_id = 1500

-- bytes of a field's name
abbrev pub max_field_name : ℕ
max_field_name = 1500

-- bytes of a document's whole name
abbrev pub max_name : ℕ
max_name = 6144

-- ids of a path (this project's own)
abbrev pub max_segments : ℕ
max_segments = 200
