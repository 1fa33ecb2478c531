-- What holds of each operation that could be read holds of the one that is read.
use Rattle.std.proofs.Common.{ℕ, ℤ, List, Bool, true, false, Some, None, IfOk, codes, cond, bytes_eq}
use Rattle.fs_path.specs.declared.place.Rule.TheVariants.{G}
use Rattle.serde_json.specs.Data as json
use Rattle.fs_value.specs.Data.{Data, null, boolean, integer, timestamp, string, bytes, reference, array, object}
use Rattle.fs_json.specs.Answer.{or_fault, made}
use Rattle.fs_json.proofs.Readings.{at_last_holds, either, of_made}
use Rattle.fs_valjson.specs.Reading.{array_at, value_at}
use Rattle.fs_write.specs.declared.transform.Operation.{Operation}
use Rattle.fs_write.specs.declared.transform.Operation.TheVariants.{RequestTime, Increment, Maximum, Minimum, AppendMissing, RemoveAll}
use Rattle.fs_writejson.specs.Transform.{number_of, operation_at, server_value}

server_holds : (P : Operation → Type 0) (d : json.Data) (place : List ℕ) → P RequestTime → IfOk {T = Operation × Bool} (made (λ o. (o, true)) (or_fault G place (server_value d))) (λ o. P o.0)
server_holds P json.null place now = record {}
server_holds P (json.boolean b) place now = record {}
server_holds P (json.number n) place now = record {}
server_holds P (json.string s) place now = at (bytes_eq s (codes "REQUEST_TIME"))
  where
    at : (b : Bool) → IfOk {T = Operation × Bool} (made (λ o. (o, true)) (or_fault G place (cond b (Some RequestTime) None))) (λ o. P o.0)
    at true = now
    at false = record {}
server_holds P (json.array ds) place now = record {}
server_holds P (json.object ms) place now = record {}

-- operations on a number
module _ (P : Operation → Type 0) (increment : (z : ℤ) → P (Increment z)) (maximum : (z : ℤ) → P (Maximum z)) (minimum : (z : ℤ) → P (Minimum z)) where
  one_of_three : (a b : Bool) (z : ℤ) → P (cond a (Increment z) (cond b (Maximum z) (Minimum z)))
  one_of_three true b z = increment z
  one_of_three false true z = maximum z
  one_of_three false false z = minimum z

  number_holds : (name : List ℕ) (d : Data) → P (number_of name d).0
  number_holds name null = one_of_three _ _ _
  number_holds name (boolean b) = one_of_three _ _ _
  number_holds name (integer z) = one_of_three _ _ _
  number_holds name (timestamp t) = one_of_three _ _ _
  number_holds name (string s) = one_of_three _ _ _
  number_holds name (bytes b) = one_of_three _ _ _
  number_holds name (reference r) = one_of_three _ _ _
  number_holds name (array ds) = one_of_three _ _ _
  number_holds name (object ms) = one_of_three _ _ _

pub operation_holds : (P : Operation → Type 0) (name : List ℕ) (d : json.Data) (place : List ℕ) → P RequestTime
    → ((z : ℤ) → P (Increment z)) → ((z : ℤ) → P (Maximum z)) → ((z : ℤ) → P (Minimum z))
    → IfOk (array_at d place) (λ ds. P (AppendMissing ds)) → IfOk (array_at d place) (λ ds. P (RemoveAll ds)) → IfOk (operation_at name d place) (λ o. P o.0)
unfolding operation_at
operation_holds P name d place now increment maximum minimum append remove =
    let Q : Operation × Bool → Type 0 = λ o. P o.0 in
    either Q (bytes_eq name (codes "setToServerValue")) _ _ (server_holds P d place now)
    (either Q (bytes_eq name (codes "appendMissingElements")) _ _
    (of_made (λ ds. P (AppendMissing ds)) Q (λ ds. (AppendMissing ds, true)) (array_at d place) append (λ ds is. is))
    (either Q (bytes_eq name (codes "removeAllFromArray")) _ _
    (of_made (λ ds. P (RemoveAll ds)) Q (λ ds. (RemoveAll ds, true)) (array_at d place) remove (λ ds is. is))
    (at_last_holds Q (value_at d place) _ (λ x. number_holds P increment maximum minimum name x))))
