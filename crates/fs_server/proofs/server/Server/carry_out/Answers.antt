use Rattle.std.proofs.Common.{sym, ap, ◌∙◌, subst}
use Rattle.std.proofs.lemmas.Result.{IfOk-weaker}
use Rattle.fs_request.specs.declared.request.Request.TheVariants as request
use Rattle.fs_machine.specs.Request.{answer_by, carried_by, check_refusal}
use Rattle.fs_server.specs.Changes.{Does, asking}
use Rattle.fs_server.specs.Noted.{noted_reads}
use Rattle.fs_server.proofs.Noted.{read_does}
use Rattle.fs_server.proofs.server.Server.carry_out.Goals as goal

pub returns-in-GetDocument : goal.returns-in-GetDocument
returns-in-GetDocument c =
    let m = c.args.self.now in
    let r = asking c.args.session c.args.id c.args.stream c.args.envelope.now in
    let w = c.in-GetDocument in
    let q = request.GetDocument w.name w.mask w.when in
    IfOk-weaker c.get.result _ _
    (λ d so. subst (λ p. Does m (answer_by m r p) (carried_by m r p) d) (sym w.is)
    (read_does m w.when q c.args.reads (answer_by m r q) d (sym (ap (check_refusal m c.args.session) w.is) ∙ c.requires.clear.check) (c.requires.clear.reads ∙ ap (noted_reads m) w.is) so))
    c.get.ensures

pub returns-in-BatchGetDocuments : goal.returns-in-BatchGetDocuments
returns-in-BatchGetDocuments c =
    let m = c.args.self.now in
    let r = asking c.args.session c.args.id c.args.stream c.args.envelope.now in
    let w = c.in-BatchGetDocuments in
    let q = request.BatchGetDocuments w.database w.documents w.mask w.when in
    IfOk-weaker c.batch_get.result _ _
    (λ d so. subst (λ p. Does m (answer_by m r p) (carried_by m r p) d) (sym w.is)
    (read_does m w.when q c.args.reads (answer_by m r q) d (sym (ap (check_refusal m c.args.session) w.is) ∙ c.requires.clear.check) (c.requires.clear.reads ∙ ap (noted_reads m) w.is) so))
    c.batch_get.ensures

pub returns-in-RunQuery : goal.returns-in-RunQuery
returns-in-RunQuery c =
    let m = c.args.self.now in
    let r = asking c.args.session c.args.id c.args.stream c.args.envelope.now in
    let w = c.in-RunQuery in
    let q = request.RunQuery w.database w.query w.when in
    IfOk-weaker c.run.result _ _
    (λ d so. subst (λ p. Does m (answer_by m r p) (carried_by m r p) d) (sym w.is)
    (read_does m w.when q c.args.reads (answer_by m r q) d (sym (ap (check_refusal m c.args.session) w.is) ∙ c.requires.clear.check) (c.requires.clear.reads ∙ ap (noted_reads m) w.is) so))
    c.run.ensures
