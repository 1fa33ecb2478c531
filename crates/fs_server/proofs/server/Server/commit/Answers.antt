use Rattle.std.proofs.Common.{[], sym, subst}
use Rattle.std.proofs.lemmas.Result.{IfOk-weaker}
use Rattle.fs_machine.specs.Commit.{committed, committed_answer, prepared}
use Rattle.fs_machine.specs.Refusing.{next_time}
use Rattle.fs_machine.specs.declared.answer.Answer.TheVariants.{Prepared}
use Rattle.fs_server.specs.Changes.{Does, asking, commit_for}
use Rattle.fs_server.proofs.server.Server.commit.Goals as goal

pub returns-in_ok-asker-in-None : goal.returns-in_ok-asker-in-None
returns-in_ok-asker-in-None c =
    let m = c.args.self.now in
    let id = c.args.id in
    let ws = c.args.writes.now in
    let r = asking c.args.session id c.args.stream c.args.envelope.now in
    IfOk-weaker c.commit_plain.result _ _
    (λ d so. subst (λ t. Does m (committed_answer m r ws t) (committed m r ws t) d) (sym c.in-None.is)
    (subst (λ a. Does m (Prepared id (next_time m.past)) (prepared m (commit_for m.past id a ws [])) d) (c.in_ok-asker-in-None.ensures id) so))
    c.commit_plain.ensures
