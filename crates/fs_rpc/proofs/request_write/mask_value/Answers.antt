use Rattle.std.proofs.Common.{◌≡◌, ℕ, false, List, Result, Ok, Err, IfOk, OnOk, sym, ap, ◌∙◌}
use Rattle.fs_path.specs.declared.field.FieldPath.{FieldPath}
use Rattle.serde_json.specs.View.{view as json}
use Rattle.serde_json.specs.Written.{has_float}
use Rattle.serde_json.specs.declared.value.Value.{Value}
use Rattle.fs_writejson.specs.Mask.{mask_at, mask_json}
use Rattle.fs_rpc.specs.RequestSteps.{ArePathsHeld}
use Rattle.fs_rpc.proofs.request_write.mask_value.Goals as goal

-- what is written of a mask is its JSON, so that has no float and is read back
held : {E : Type 0} (r : Result Value E) (paths : List FieldPath) → IfOk r (λ v. json v ≡ mask_json paths) → IfOk r (λ v. has_float (json v) ≡ false)
    → IfOk r (λ v. (place : List ℕ) → mask_at (json v) place ≡ Ok paths) → OnOk r (ArePathsHeld paths)
held (Ok v) paths is none again = record { float = ap has_float (sym is) ∙ none; again = λ place. ap (λ d. mask_at d place) (sym is) ∙ again place }
held (Err e) paths is none again = record {}

pub returns-clause-held : goal.returns-clause-held
returns-clause-held c = held c.write_mask.result c.args.paths.now c.write_mask.ensures.value c.write_mask.ensures.no_float c.write_mask.ensures.reads_back
