use Rattle.std.proofs.Common.{ap, ◌∙◌}
use Rattle.fs_server.specs.Changes.{commit_for}
use Rattle.fs_server.proofs.Preparing.{does_plain}
use Rattle.fs_server.proofs.server.Server.commit_plain.Goals as goal

pub returns : goal.returns
returns c =
    let m = c.args.self.now in
    let is = c.in_ok-commit.ensures ∙ ap (λ reads. commit_for m.past c.args.id c.args.asker c.args.writes.now reads) c.new-reads.ensures in
    does_plain m c.args.asker c.args.writes.now c.in_ok-commit.commit c.time.result c.stand.ensures.allowed c.time.ensures
    c.args.id c.requires.limits c.requires.free c.requires.fresh is
