use Rattle.std.proofs.Common.{sym, ap, ◌∙◌}
use Rattle.std.proofs.lemmas.Result.{IfOk-weaker}
use Rattle.fs_request.specs.declared.request.Request.TheVariants as request
use Rattle.fs_machine.specs.Commit.{unless_closed}
use Rattle.fs_machine.specs.Refusing.{outbox_refusal}
use Rattle.fs_machine.specs.Request.{arrival_refusal, query_refusal}
use Rattle.fs_server.specs.Noted.{noted_reads}
use Rattle.fs_server.proofs.Noted.{limit_is}
use Rattle.fs_server.proofs.server.Server.arrival_refusal.Goals as goal

pub returns-in-RunQuery : goal.returns-in-RunQuery
returns-in-RunQuery c =
    let m = c.args.self.now in
    let w = c.in-RunQuery in
    let q = request.RunQuery w.database w.query w.when in
    IfOk-weaker c.run_refusal.result _ _
    (λ told so. so
    ∙ ap (λ o. unless_closed (query_refusal w.query) (outbox_refusal m c.args.session o)) (limit_is m w.when q c.args.reads.now (c.requires.reads ∙ ap (noted_reads m) w.is))
    ∙ ap (arrival_refusal m c.args.session) (sym w.is))
    c.run_refusal.ensures
