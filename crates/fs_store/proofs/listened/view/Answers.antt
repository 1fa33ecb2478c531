use Rattle.std.proofs.Common.{◌≡◌, List, sym, ◌∙◌}
use Rattle.std.proofs.lemmas.Result.{IfOk-weaker}
use Rattle.fs_value.specs.declared.document.Document.{Document}
use Rattle.fs_write.specs.Batch.{docs_of}
use Rattle.fs_history.specs.History.{at}
use Rattle.fs_history.specs.declared.batch.Batch.{Batch}
use Rattle.fs_match.specs.Followed.{docs_fitting}
use Rattle.fs_listen.specs.View.{is_listened, view}
use Rattle.fs_versions.specs.Shows.{Shows}
use Rattle.fs_store.proofs.InScope.{whole_view}
use Rattle.fs_store.proofs.listened.view.Goals as goal

pub returns-then-is_whole-clause-shows : goal.returns-then-is_whole-clause-shows
returns-then-is_whole-clause-shows c =
    let v = c.args.versions.now.chains in
    let t = c.args.time in
    let target = c.args.target.now in
    let laws = c.answers_are_lawful.ensures in
    IfOk-weaker c.listened.result (λ (ds : List Document). (h : List Batch) → Shows h v → docs_of ds ≡ docs_fitting (is_listened target) (at h t))
    (λ (ds : List Document). (h : List Batch) → Shows h v → docs_of ds ≡ view target (at h t))
    (λ ds listened h shows.
    listened h shows ∙ whole_view laws.some laws.fit (at h t) (c.histories_are_lawful.ensures.own_names h t) target (sym c.is_whole.ensures ∙ c.if-is_whole.true))
    c.listened.ensures.shows
