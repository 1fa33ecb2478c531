use Rattle.fs_query.proofs.AnswerLaws.{one_answer, some_answer, answers_fit, answered_once, others_do_not_count, pages_go_on}
use Rattle.fs_query.proofs.laws.answers_are_lawful.Goals as goal

pub returns-clause-one : goal.returns-clause-one
returns-clause-one c = one_answer

pub returns-clause-some : goal.returns-clause-some
returns-clause-some c = some_answer

pub returns-clause-fit : goal.returns-clause-fit
returns-clause-fit c = answers_fit

pub returns-clause-once : goal.returns-clause-once
returns-clause-once c = answered_once

pub returns-clause-others : goal.returns-clause-others
returns-clause-others c = others_do_not_count

pub returns-clause-pages : goal.returns-clause-pages
returns-clause-pages c = pages_go_on
