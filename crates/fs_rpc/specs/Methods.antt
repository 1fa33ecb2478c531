-- The methods of requests, and what stands beside one.
use Rattle.std.specs.Prelude.{ℕ, List, [], ◌∷◌, codes}

-- in the order of the walk; the first eight are built
abbrev pub methods : List (List ℕ)
methods = codes "commit" ∷ codes "getDocument" ∷ codes "batchGetDocuments" ∷ codes "runQuery" ∷ codes "beginTransaction" ∷ codes "rollback" ∷ codes "listen" ∷ codes "write" ∷ codes "createIndex"
    ∷ codes "createDocument" ∷ codes "updateDocument" ∷ codes "deleteDocument" ∷ codes "partitionQuery" ∷ codes "runAggregationQuery" ∷ codes "listDocuments" ∷ codes "listCollectionIds" ∷ codes "batchWrite" ∷ []

-- beside the method of an envelope
abbrev pub envelope_head : List (List ℕ)
envelope_head = codes "id" ∷ []

-- beside the method of a line on a session
abbrev pub session_head : List (List ℕ)
session_head = codes "session" ∷ codes "id" ∷ []
