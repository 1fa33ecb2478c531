use Rattle.std.proofs.Common.{◌≡◌, None, sym, ap, ◌∙◌, rules}
use Rattle.fs_stream.specs.Answers.{resume_answer}
use Rattle.fs_machine.specs.Refusing.{outbox_refusal}
use Rattle.fs_machine.specs.State.{Machine}
use Rattle.fs_server.proofs.Writing.{refused_so, state_unresumed}
use Rattle.fs_server.proofs.server.Server.resume_stream.Goals as goal

pub returns-in_ok-not_taken-in-Err-clause-state : goal.returns-in_ok-not_taken-in-Err-clause-state
returns-in_ok-not_taken-in-Err-clause-state c =
    let m = c.args.self.now in
    let room : outbox_refusal m c.args.session None ≡ None = search rules in
    let seen = refused_so (resume_answer c.args.session c.args.stream c.args.token c.self.inside.streams) c.seek.result c.in-Err.error c.in-Err.is c.seek.ensures.refused c.seek.ensures.memory c.in_ok-error-in-Err.ensures.lasts in
    let told = ap (λ (k : Machine). resume_answer c.args.session c.args.stream c.args.token k.streams) (sym c.self.view_is) ∙ seen in
    state_unresumed m c.args.session c.args.stream c.args.token c.in-Err.error room told
