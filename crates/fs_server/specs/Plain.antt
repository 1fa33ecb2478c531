-- Only private clauses cite this: what becomes of a request that is of no target and no write stream, and what it is answered.
use Rattle.std.specs.Prelude.{ℕ}
use Rattle.fs_request.specs.declared.request.Envelope.{Envelope}
use Rattle.fs_machine.specs.Request.{answered_unless, arrival_refusal, asked_unless, numbered}
use Rattle.fs_machine.specs.State.{Machine}
use Rattle.fs_machine.specs.declared.answer.Answer.{Answer}

abbrev pub after_plain : Machine → ℕ → Envelope → Machine
after_plain m session e = asked_unless (arrival_refusal m session e.request) m (numbered m session e)

abbrev pub told_plain : Machine → ℕ → Envelope → Answer
told_plain m session e = answered_unless (arrival_refusal m session e.request) m (numbered m session e)
