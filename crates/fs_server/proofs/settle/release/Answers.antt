use Rattle.std.proofs.Common.{sym, ap, ◌∙◌, subst}
use Rattle.fs_machine.specs.Release.{all_answered}
use Rattle.fs_sessions.specs.Place.{all_delivered}
use Rattle.fs_server.specs.Answering.{AreAnswerable, CanFinishAll, all_finished}
use Rattle.fs_server.proofs.Responses.{answered_apart, can_finish_all}
use Rattle.fs_server.proofs.settle.release.Goals as goal

pub answers-requires : goal.answers-requires
answers-requires c = subst (AreAnswerable c.args.streams.now) (sym c.in_ok-commits.ensures) c.requires

pub finish_all-requires : goal.finish_all-requires
finish_all-requires c =
    let may = subst (AreAnswerable c.args.streams.now) (sym c.in_ok-commits.ensures) c.requires in
    subst (CanFinishAll c.args.streams.now) (sym c.in_ok-replies.ensures.kept) (can_finish_all c.args.streams.now c.in_ok-commits.commits.items may)

pub returns-in-Ok-clause-told : goal.returns-in-Ok-clause-told
returns-in-Ok-clause-told c =
    let s = c.args.streams.now in
    let ss = c.args.sessions.now in
    let may = subst (AreAnswerable s) (sym c.in_ok-commits.ensures) c.requires in
    (λ i. (c.finish_all.ensures i, c.in-Ok.ensures.told i))
    ∙ (λ i. (all_finished (c.in_ok-replies.ensures.kept i) s, all_delivered (c.in_ok-replies.ensures.told i) ss))
    ∙ answered_apart s c.in_ok-commits.commits.items ss may
    ∙ ap (λ cs. all_answered cs (s, ss)) c.in_ok-commits.ensures
