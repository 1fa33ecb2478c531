-- What holds of whatever is read as a filter on one field.
use Rattle.std.proofs.Common.{ℕ, List, IfOk, codes, bytes_eq}
use Rattle.serde_json.specs.Data as json
use Rattle.fs_query.specs.Condition.{Condition}
use Rattle.fs_json.proofs.Readings.{either}
use Rattle.fs_queryjson.specs.Filter.{compare_at, simple_at, unary_at}

pub simple_holds : (P : Condition → Type 0) (name : List ℕ) (d : json.Data) (place : List ℕ) → IfOk (compare_at d place) P → IfOk (unary_at d place) P → IfOk (simple_at name d place) P
simple_holds P name d place of_compared of_unary =
    either P (bytes_eq name (codes "fieldFilter")) _ _ of_compared (either P (bytes_eq name (codes "unaryFilter")) _ _ of_unary (record {}))
