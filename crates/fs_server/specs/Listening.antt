-- Only private clauses cite this: what becomes of a request for a target, and what it is answered.
use Rattle.std.specs.Prelude.{ℕ, ℤ, List, Option, Some, None}
use Rattle.fs_query.specs.declared.target.Target.{Target}
use Rattle.fs_status.specs.declared.refusal.Refusal.{Refusal}
use Rattle.fs_machine.specs.Listen.{added_answer, adding_refusal, removed_answer, removing_refusal, token_time, unadded_answer, with_target, without_target}
use Rattle.fs_machine.specs.State.{Machine}
use Rattle.fs_machine.specs.declared.answer.Answer.{Answer}
use Rattle.fs_machine.specs.declared.answer.Answer.TheVariants.{Refused}

abbrev pub adding_unless : Option Refusal → Machine → ℕ → ℕ → Target → Option (List ℕ) → Machine
adding_unless (Some refusal) m session id t token = m
adding_unless None m session id t token = with_target m session id t (token_time token)

abbrev pub after_adding : Machine → ℕ → ℕ → Target → Option (List ℕ) → Machine
after_adding m session id t token = adding_unless (adding_refusal m session id t token) m session id t token

abbrev pub answer_unless : Option Refusal → Machine → ℕ → ℕ → Answer
answer_unless (Some refusal) m session id = unadded_answer m session id refusal
answer_unless None m session id = added_answer id

abbrev pub adding_answer : Machine → ℕ → ℕ → Target → Option (List ℕ) → Answer
adding_answer m session id t token = answer_unless (adding_refusal m session id t token) m session id

abbrev pub removing_unless : Option Refusal → Machine → ℕ → ℤ → Machine
removing_unless (Some refusal) m session id = m
removing_unless None m session id = without_target m session id

abbrev pub after_removing : Machine → ℕ → ℤ → Machine
after_removing m session id = removing_unless (removing_refusal m session id) m session id

abbrev pub removed_unless : Option Refusal → ℤ → Answer
removed_unless (Some refusal) id = Refused refusal
removed_unless None id = removed_answer id

abbrev pub removing_answer : Machine → ℕ → ℤ → Answer
removing_answer m session id = removed_unless (removing_refusal m session id) id
