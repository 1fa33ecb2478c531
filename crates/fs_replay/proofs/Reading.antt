-- What isn't read is told.
use Rattle.std.proofs.Common.{◌≡◌, Result, Ok, Err, sym, ap, ◌∙◌}
use Rattle.std.specs.Prelude.{IfOk}
use Rattle.fs_json.specs.Answer.{Gives}
use Rattle.fs_json.specs.declared.bad.Bad.{Bad}
use Rattle.fs_json.specs.declared.bad.Bad.TheVariants.{At, Method, Memory}
use Rattle.fs_replay.specs.Line.{IsFault, line_read, line_reason}
use Rattle.fs_replay.specs.declared.request.Line.{Line}
use Rattle.fs_replay.specs.declared.request.Line.TheVariants as line

fault_given : (bad : Bad) (reading : Result Line Bad) → Gives {X = Line} (λ l. l) (Err bad) reading → IsFault bad → reading ≡ Err bad
fault_given (At rule place) reading given fault = given
fault_given (Method name) reading given fault = given
fault_given (Memory e) reading given fault = absurd fault

pub read_refused : {E : Type 0} (bad : Bad) (reading : Result Line Bad) (r : Result Line E) → Gives {X = Line} (λ l. l) (Err bad) reading
    → IfOk r (λ l. IsFault bad × (l ≡ line.Refused (line_reason bad))) → IfOk r (λ l. l ≡ line_read reading)
read_refused bad reading (Ok l) given so = so.1 ∙ sym (ap line_read (fault_given bad reading given so.0))
read_refused bad reading (Err e) given so = tt
