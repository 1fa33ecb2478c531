use Rattle.std.proofs.Common.{◌≡◌, Err, ap, ◌∙◌, sym, subst}
use Rattle.fs_write.specs.Batch.{batch, docs_of}
use Rattle.fs_write.specs.WrittenName.{is_written}
use Rattle.fs_history.specs.History.{whole}
use Rattle.fs_past.proofs.Naming.{agrees}
use Rattle.fs_past.proofs.outcome.outcome_among.Goals as goal

pub returns-in-Ok : goal.returns-in-Ok
returns-in-Ok c = λ h shows.
    let ws = c.args.writes.now in
    let agree = agrees (whole h) (docs_of c.in_ok-there.there) ws (λ name is. c.in_ok-there.ensures.named h shows name (ap (is_written name) c.as_slice.ensures ∙ is)) in
    (c.batches_are_lawful.ensures.named (docs_of c.in_ok-there.there) (whole h) ws c.args.time c.in-Ok.changes c.in-Ok.results agree c.in-Ok.ensures.ok, c.in-Ok.ensures.named)

pub returns : goal.returns
returns c = λ h shows.
    let ws = c.args.writes.now in
    let told = c.in_ok-unless_memory-in-Err.ensures in
    let agree = agrees (whole h) (docs_of c.in_ok-there.there) ws (λ name is. c.in_ok-there.ensures.named h shows name (ap (is_written name) c.as_slice.ensures ∙ is)) in
    subst (λ e. batch (whole h) ws c.args.time ≡ Err e) (sym told.same)
    (c.batches_are_lawful.ensures.named_refused (docs_of c.in_ok-there.there) (whole h) ws c.args.time c.in-Err.refusal agree (c.in-Err.ensures.err told.other))
