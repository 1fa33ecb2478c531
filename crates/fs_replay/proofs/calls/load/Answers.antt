use Rattle.std.proofs.Common.{◌≡◌, ◌≢◌, IfOk, OnOk, Option, Some, None, Result, Ok, Err, refl, ◌∙◌}
use Rattle.std.specs.Prelude.{⊤}
use Rattle.fs_machine.specs.Load.{load_refusal}
use Rattle.fs_server.specs.Loading.{answer_of}
use Rattle.fs_status.specs.Refusal.{refusal_of}
use Rattle.fs_status.specs.declared.reason.Reason.TheVariants.{Memory}
use Rattle.fs_status.specs.declared.refusal.Refusal.{Refusal}
use Rattle.fs_replay.proofs.calls.load.Goals as goal

abbrev Answered : Type 0
Answered = Result ⊤ Refusal

refused : (o : Option Refusal) (r : Refusal) (is : Answered) → is ≡ Err r → is ≡ answer_of o → Some r ≡ o
refused None r is is_r answered = absurd (cc)
refused (Some s) r is is_r answered = cc

same_refusal : (a b : Answered) (r s : Refusal) → a ≡ Err r → b ≡ Err s → a ≡ b → r ≡ s
same_refusal a b r s a_is b_is same = cc

-- unless it was for want of memory
told : {E : Type 0} (o : Option Refusal) (r : Refusal) (is memory : Answered) (s : Result (Option Refusal) E) → is ≡ Err r → memory ≡ Err (refusal_of Memory) → IfOk s (λ x. x ≡ Some r) → OnOk s (r ≢ refusal_of Memory)
    → (is ≢ memory → is ≡ answer_of o) → IfOk s (λ x. x ≡ o)
told o r is memory (Ok x) is_r is_memory is_some other answered = is_some ∙ refused o r is is_r (answered (λ same. other (same_refusal is memory r (refusal_of Memory) is_r is_memory same)))
told o r is memory (Err e) is_r is_memory is_some other answered = tt

pub returns-in-Err-clause-told : goal.returns-in-Err-clause-told
returns-in-Err-clause-told c =
    told (load_refusal c.args.server.now c.args.session c.args.target c.args.at) c.in-Err.refusal (Err c.in-Err.refusal) (Err (refusal_of Memory)) c.unless_memory.result refl refl c.unless_memory.ensures.told c.unless_memory.ensures.other c.in-Err.ensures.told
