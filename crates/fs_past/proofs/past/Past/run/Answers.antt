use Rattle.std.proofs.Common.{◌≤ℤ◌, sym, ap, ◌∙◌, subst}
use Rattle.std.specs.FinMap.{values}
use Rattle.std.proofs.lemmas.Result.{IfOk-weaker}
use Rattle.fs_history.specs.History.{at}
use Rattle.fs_query.specs.AnswerTo.{answer_to}
use Rattle.fs_machine.specs.Past.{Past}
use Rattle.fs_past.proofs.past.Past.run.Goals as goal

pub answer_at-requires-clause-from : goal.answer_at-requires-clause-from
answer_at-requires-clause-from c = subst (λ (p : Past). p.floor ≤ℤ c.args.time) (sym c.self.view_is) c.requires.from

pub answer_at-requires-clause-to : goal.answer_at-requires-clause-to
answer_at-requires-clause-to c = subst (λ (p : Past). c.args.time ≤ℤ p.released) (sym c.self.view_is) c.requires.to

pub returns : goal.returns
returns c =
    IfOk-weaker c.answer_at.result _ _
    (λ ds so. so c.self.inside.journal.history c.self.invariant.shows ∙ ap (λ (p : Past). answer_to c.args.query.now (values (at p.history c.args.time))) c.self.view_is)
    c.answer_at.ensures
