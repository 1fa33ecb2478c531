use Rattle.std.proofs.Common.{◌∙◌}
use Rattle.std.proofs.lemmas.Result.{IfOk-weaker}
use Rattle.fs_server.proofs.Listens.{told_adding}
use Rattle.fs_server.proofs.Writing.{state_envelope, told_envelope}
use Rattle.fs_server.proofs.server.Server.asked.Goals as goal

pub returns-in-AddTarget-clause-told : goal.returns-in-AddTarget-clause-told
returns-in-AddTarget-clause-told c =
    let a = c.in-AddTarget in
    IfOk-weaker c.add_target.result _ _ (λ _ so. so ∙ told_adding c.args.self.now c.args.session c.args.envelope.now a.database a.id a.target a.token a.is) c.add_target.ensures.told

pub returns-in-Write-clause-told : goal.returns-in-Write-clause-told
returns-in-Write-clause-told c = told_envelope c.args.self.now c.args.session c.args.envelope.now c.in-Write.database c.in-Write.asked c.in-Write.is c.write.result c.write.ensures.told

pub returns-in-Write-clause-state : goal.returns-in-Write-clause-state
returns-in-Write-clause-state c =
    state_envelope c.args.self.now c.args.session c.args.envelope.now c.in-Write.database c.in-Write.asked c.in-Write.is c.write.result c.write.new.self c.write.ensures.state
