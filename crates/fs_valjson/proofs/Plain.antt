-- What holds of whatever is read of a member that holds no values.
use Rattle.std.proofs.Common.{ℕ, ℤ, List, Bool, true, false, Some, None, IfOk, codes, cond, bytes_eq}
use Rattle.fs_path.specs.Document.{IsDocument}
use Rattle.fs_path.specs.declared.name.DocName.{DocName}
use Rattle.fs_path.specs.declared.place.Rule.TheVariants.{G}
use Rattle.serde_json.specs.Data as json
use Rattle.fs_value.specs.Data.{Data, null, boolean, integer, timestamp, string, bytes, reference}
use Rattle.fs_json.specs.Answer.{or_fault}
use Rattle.fs_json.specs.Base64.{bytes_of}
use Rattle.fs_json.specs.Paths.{reference_at}
use Rattle.fs_json.specs.Scalars.{integer_at, text_at, truth_at}
use Rattle.fs_json.specs.Time.{time_at}
use Rattle.fs_json.proofs.Named.{reference_is}
use Rattle.fs_json.proofs.Readings.{at_last_holds, either, in_turn_holds}
use Rattle.fs_valjson.specs.Reading.{null_of, plain_at}

null_text : (P : Data → Type 0) (b : Bool) (place : List ℕ) → P null → IfOk (or_fault G place (cond b (Some null) None)) P
null_text P true place is = is
null_text P false place is = record {}

null_holds : (P : Data → Type 0) (d : json.Data) (place : List ℕ) → P null → IfOk (or_fault G place (null_of d)) P
null_holds P json.null place is = is
null_holds P (json.boolean b) place is = record {}
null_holds P (json.number n) place is = record {}
null_holds P (json.string s) place is = null_text P (bytes_eq s (codes "NULL_VALUE")) place is
null_holds P (json.array ds) place is = record {}
null_holds P (json.object ms) place is = record {}

pub plain_holds : (P : Data → Type 0) → P null → ((b : Bool) → P (boolean b)) → ((n : ℤ) → P (integer n)) → ((t : ℤ) → P (timestamp t)) → ((s : List ℕ) → P (string s))
    → ((b : List ℕ) → P (bytes b)) → ((n : DocName) → IsDocument n → P (reference n)) → (name : List ℕ) (d : json.Data) (place : List ℕ) → IfOk (plain_at name d place) P
plain_holds P of_null of_boolean of_integer of_timestamp of_string of_bytes of_reference name d place =
    either P (bytes_eq name (codes "nullValue")) _ _ (null_holds P d place of_null)
    (either P (bytes_eq name (codes "booleanValue")) _ _ (at_last_holds P (truth_at d place) _ of_boolean)
    (either P (bytes_eq name (codes "integerValue")) _ _ (at_last_holds P (integer_at d place) _ of_integer)
    (either P (bytes_eq name (codes "timestampValue")) _ _ (at_last_holds P (time_at d place) _ of_timestamp)
    (either P (bytes_eq name (codes "stringValue")) _ _ (at_last_holds P (text_at d place) _ of_string)
    (either P (bytes_eq name (codes "bytesValue")) _ _ (at_last_holds P (or_fault G place (bytes_of d)) _ of_bytes)
    (either P (bytes_eq name (codes "referenceValue")) _ _ (in_turn_holds IsDocument P (reference_at d place) _ (reference_is d place) of_reference) (record {})))))))
