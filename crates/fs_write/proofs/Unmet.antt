-- A write whose precondition isn't met is refused for that, and else for what it comes to.
use Rattle.std.proofs.Common.{◌≡◌, ◌≢◌, IfErr, ℕ, Option, Some, None, option_map, Result, sym, ap, ◌∙◌}
use Rattle.std.proofs.lemmas.Option.{same_Some}
use Rattle.fs_status.specs.Refusal.{refusal_of}
use Rattle.fs_status.specs.declared.reason.Reason.{Reason}
use Rattle.fs_status.specs.declared.reason.Reason.TheVariants.{Memory}
use Rattle.fs_status.specs.declared.refusal.Refusal.{Refusal}
use Rattle.fs_write.specs.OneWrite.{Fault, unless}
use Rattle.fs_write.specs.Refused.{reason_of, refused}

pub refused_unmet : {A : Type 0} (number : ℕ) (found : Option Fault) (rest : Result A Fault) (reason : Reason) (e : Refusal) → option_map (reason_of number) found ≡ Some reason → e ≡ refusal_of reason
    → refused number (unless found rest) ≡ Some e
refused_unmet number None rest reason e is so = absurd (cc)
refused_unmet number (Some fault) rest reason e is so = ap Some (ap refusal_of (same_Some (reason_of number fault) reason is) ∙ sym so)

pub refused_met : {A B : Type 0} (number : ℕ) (found : Option Fault) (rest : Result A Fault) (done : Result B Refusal) → option_map (reason_of number) found ≡ None
    → IfErr done (λ e. e ≢ refusal_of Memory → refused number rest ≡ Some e) → IfErr done (λ e. e ≢ refusal_of Memory → refused number (unless found rest) ≡ Some e)
refused_met number None rest done met so = so
refused_met number (Some fault) rest done met so = absurd (cc)
