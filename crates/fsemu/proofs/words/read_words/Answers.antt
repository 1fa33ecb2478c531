use Rattle.std.proofs.Common.{◌∙◌, map, string_bytes, sym, subst}
use Rattle.fs_path.proofs.Results.{at_err}
use Rattle.fsemu.specs.Words.{AreAllowed, IsCommand, IsReplay}
use Rattle.fsemu.specs.Reader.{found_by, options_by}
use Rattle.fsemu.proofs.Allowed.{all_allowed}
use Rattle.fsemu.proofs.Readings.{sound, only, refused}
use Rattle.fsemu.proofs.words.read_words.Goals as goal

pub returns-in_err-options-in-Some-clause-err : goal.returns-in_err-options-in-Some-clause-err
returns-in_err-options-in-Some-clause-err c =
    let is : IsCommand (map string_bytes c.args.words.now) =
    record { options = options_by (found_by c.in-Some.given); asks = sound _ _ (sym c.in-Some.ensures) } in
    at_err _ is

pub returns-in_ok-options-in-Some-clause-some : goal.returns-in_ok-options-in-Some-clause-some
returns-in_ok-options-in-Some-clause-some c =
    subst (IsReplay (map string_bytes c.args.words.now)) (sym c.in_ok-options-in-Some.ensures) (sound _ _ (sym c.in-Some.ensures))

pub returns-in_ok-options-in-Some-clause-only : goal.returns-in_ok-options-in-Some-clause-only
returns-in_ok-options-in-Some-clause-only c = λ others is.
    only (map string_bytes c.args.words.now) _ (sym c.in-Some.ensures) others is ∙ sym c.in_ok-options-in-Some.ensures

pub returns-in_ok-options-in-Some-clause-allowed : goal.returns-in_ok-options-in-Some-clause-allowed
returns-in_ok-options-in-Some-clause-allowed c =
    subst AreAllowed (sym c.in_ok-options-in-Some.ensures) (all_allowed (map string_bytes c.args.words.now) _ (sound _ _ (sym c.in-Some.ensures)))

pub returns-in-None-clause-none : goal.returns-in-None-clause-none
returns-in-None-clause-none c = λ is. refused _ (sym c.in-None.ensures) is.options is.asks
