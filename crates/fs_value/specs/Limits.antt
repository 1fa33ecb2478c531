-- The limits of values and documents.
-- (Cloud Firestore documentation, "Usage and limits": "Maximum depth of fields in a map or array", "Maximum size for a
-- document".)
use Rattle.std.specs.Prelude.{ℕ}

-- the greatest depth that a value of a document may have
abbrev pub deepest_value : ℕ
deepest_value = 20

-- the greatest counted size of a document, in bytes: 1 MiB
abbrev pub largest_document : ℕ
largest_document = 1048576
