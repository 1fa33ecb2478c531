use Rattle.std.proofs.Common.{◌≡◌, ℕ, false, List, Result, Ok, Err, IfOk, OnOk, sym, ap, ◌∙◌}
use Rattle.fs_path.specs.declared.name.Root.{Root}
use Rattle.serde_json.specs.View.{view as json}
use Rattle.serde_json.specs.Written.{has_float}
use Rattle.serde_json.specs.declared.value.Value.{Value}
use Rattle.fs_write.specs.declared.write.Write.{Write}
use Rattle.fs_writejson.specs.Rules.{write_at}
use Rattle.fs_writejson.specs.Valid.{IsWriteOf}
use Rattle.fs_writejson.specs.Written.{write_json}
use Rattle.fs_rpc.specs.RequestSteps.{IsWriteHeld}
use Rattle.fs_rpc.proofs.request_write.write_one.Goals as goal

-- what is written of a write is its JSON, so that has no float and is read back
held : {E : Type 0} (r : Result Value E) (w : Write) → IfOk r (λ v. json v ≡ write_json w) → IfOk r (λ v. has_float (json v) ≡ false)
    → IfOk r (λ v. (root : Root) (place : List ℕ) → IsWriteOf root w → write_at root (json v) place ≡ Ok w) → OnOk r (IsWriteHeld w)
held (Ok v) w is none again = record { float = ap has_float (sym is) ∙ none; again = λ root place valid. ap (λ d. write_at root d place) (sym is) ∙ again root place valid }
held (Err e) w is none again = record {}

pub returns-clause-held : goal.returns-clause-held
returns-clause-held c = held c.write_write.result c.args.write.now c.write_write.ensures.value c.write_write.ensures.no_float c.write_write.ensures.reads_back
