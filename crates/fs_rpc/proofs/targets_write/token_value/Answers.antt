use Rattle.std.proofs.Common.{◌≡◌, ℕ, List, Some, Result, Ok, Err, IfOk, OnOk, sym, ap, ◌∙◌}
use Rattle.serde_json.specs.View.{view as json}
use Rattle.serde_json.specs.declared.value.Value.{Value}
use Rattle.fs_json.specs.Base64.{bytes_json, bytes_of}
use Rattle.fs_rpc.specs.MessageSteps.{IsTokenHeld}
use Rattle.fs_rpc.proofs.targets_write.token_value.Goals as goal

-- what is written of a token is its JSON, so that is read back
held : {E : Type 0} (r : Result Value E) (token : List ℕ) → IfOk r (λ v. json v ≡ bytes_json token) → IfOk r (λ v. bytes_of (json v) ≡ Some token) → OnOk r (IsTokenHeld token)
held (Ok v) token is again = ap bytes_of (sym is) ∙ again
held (Err e) token is again = record {}

pub returns-clause-held : goal.returns-clause-held
returns-clause-held c = held c.write_bytes.result c.args.token.now c.write_bytes.ensures.value c.write_bytes.ensures.reads_back
