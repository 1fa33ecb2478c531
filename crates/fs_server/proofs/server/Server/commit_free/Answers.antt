use Rattle.std.proofs.Common.{ap, ◌∙◌, subst}
use Rattle.fs_machine.specs.Commit.{prepared}
use Rattle.fs_machine.specs.Refusing.{next_time}
use Rattle.fs_machine.specs.Transact.{with_ended}
use Rattle.fs_machine.specs.declared.answer.Answer.TheVariants.{Prepared}
use Rattle.fs_server.specs.Changes.{Does, commit_for}
use Rattle.fs_server.specs.declared.changes.Change.TheVariants.{Commits}
use Rattle.fs_server.proofs.Preparing.{does_free}
use Rattle.fs_server.proofs.server.Server.commit_free.Goals as goal

pub returns : goal.returns
returns c =
    let m = c.args.self.now in
    let t = c.args.txn.now in
    let ws = c.args.writes.now in
    let asker = c.in_ok-asker.asker in
    let is = c.in_ok-commit.ensures ∙ ap (λ reads. commit_for m.past t.id asker ws reads) c.in_ok-reads.ensures in
    subst (λ a. Does m (Prepared t.id (next_time m.past)) (prepared (with_ended m t.id) (commit_for m.past t.id a ws t.reads)) (Prepared t.id c.time.result, Commits c.in_ok-commit.commit)) (c.in_ok-asker.ensures c.args.id)
    (does_free m asker ws c.in_ok-commit.commit c.time.result c.stand.ensures.allowed c.time.ensures
    t c.stand.ensures.facts c.requires.limits c.requires.there c.requires.kind c.requires.free c.requires.none is)
