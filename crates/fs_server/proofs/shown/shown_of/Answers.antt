use Rattle.std.proofs.Common.{[], ◌∷◌, sym, ap, ◌∙◌}
use Rattle.std.proofs.lemmas.Result.{IfOk-weaker}
use Rattle.fs_history.specs.History.{at}
use Rattle.fs_machine.specs.Read.{shown_of}
use Rattle.fs_server.proofs.shown.shown_of.Goals as goal

pub returns-in_ok-read_query-in-RunQuery : goal.returns-in_ok-read_query-in-RunQuery
returns-in_ok-read_query-in-RunQuery c =
    IfOk-weaker c.alone-in-RunQuery.result _ _
    (λ rs so. so ∙ ap (λ r. r ∷ []) c.in_ok-read_query-in-RunQuery.ensures ∙ ap (shown_of (at c.args.past.now.history c.args.time)) (sym c.in-RunQuery.is))
    c.alone-in-RunQuery.ensures
