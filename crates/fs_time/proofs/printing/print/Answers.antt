use Rattle.std.proofs.Common.{◌∙◌, ◌<◌, ◌≤◌, sym, ap, subst, All, length, List, ℕ}
use Rattle.std.proofs.lemmas.Result.{IfOk-weaker}
use Rattle.fs_time.specs.Stamp.{text_of}
use Rattle.fs_time.specs.Rfc3339.{time_of, time_text, longest_text, IsTextOfMoment}
use Rattle.fs_time.proofs.RoundTrip.{time_of-time_text}
use Rattle.fs_time.proofs.Printed.{time_text-ascii, time_text-longest}
use Rattle.fs_time.proofs.printing.print.Goals as goal

pub returns-clause-text : goal.returns-clause-text
unfolding time_text
returns-clause-text c = IfOk-weaker c.utc_text.result _ _ (λ s written. written ∙ ap text_of c.parts_at.ensures.value) c.utc_text.ensures

pub returns-clause-shows : goal.returns-clause-shows
returns-clause-shows c = IfOk-weaker c.utc_text.result _ _ (λ s written. subst (λ (t : List ℕ). IsTextOfMoment c.args.t t) (sym written) c.parts_at.ensures.shows) c.utc_text.ensures

pub returns-clause-again : goal.returns-clause-again
returns-clause-again c = IfOk-weaker c.utc_text.result _ _ (λ s printed. ap time_of printed ∙ time_of-time_text c.args.t c.parts_at.ensures.range) (returns-clause-text c)

pub returns-clause-ascii : goal.returns-clause-ascii
returns-clause-ascii c = IfOk-weaker c.utc_text.result _ _ (λ s printed. subst (λ (t : List ℕ). All (λ b. b < 128) t) (sym printed) (time_text-ascii c.args.t)) (returns-clause-text c)

pub returns-clause-longest : goal.returns-clause-longest
returns-clause-longest c = IfOk-weaker c.utc_text.result _ _ (λ s printed. subst (λ (t : List ℕ). length t ≤ longest_text) (sym printed) (time_text-longest c.args.t)) (returns-clause-text c)
