use Rattle.std.proofs.Common.{◌≡◌, List, map, sym, ap, ◌∙◌, subst}
use Rattle.std.specs.Prelude.{IsTrue}
use Rattle.std.specs.Borrow.{Bor}
use Rattle.std.specs.FinMap.{is_sorted}
use Rattle.std.specs.List.{filter}
use Rattle.std.proofs.lemmas.Result.{IfOk-weaker}
use Rattle.fs_path.specs.NameOrder.{name_cmp}
use Rattle.fs_value.specs.Named.{by_name}
use Rattle.fs_value.specs.declared.document.Document.{Document}
use Rattle.fs_write.specs.Batch.{docs_of}
use Rattle.fs_query.specs.Asked.{Asked}
use Rattle.fs_query.specs.Fits.{fits}
use Rattle.fs_history.specs.History.{at}
use Rattle.fs_history.specs.declared.batch.Batch.{Batch}
use Rattle.fs_match.specs.Followed.{docs_fitting}
use Rattle.fs_versions.specs.Listed.{documents_in}
use Rattle.fs_versions.specs.Shows.{Shows}
use Rattle.fs_store.proofs.InScope.{docs_listened, rise_listened}
use Rattle.fs_store.proofs.listened.all_fitting.Goals as goal
use Rattle.fs_store.proofs.listened.all_fitting.Goals.{After-as_slice}

lent : List (Bor Document) → List Document
lent ds = map (λ d. d.now) ds

fitting_in_scope : (c : After-as_slice) → filter (fits c.args.query.now) (lent c.as_slice.result.now)
    ≡ filter (fits c.args.query.now) (documents_in c.args.query.now.scope c.args.versions.now.chains c.args.time)
unfolding lent
fitting_in_scope c =
    ap (filter (fits c.args.query.now))
    (ap lent c.as_slice.ensures.value
    ∙ c.in_ok-documents.ensures.value
    ∙ ap (λ (a : Asked). documents_in a.scope c.args.versions.now.chains c.args.time) c.query.view_is)

pub returns-clause-sorted : goal.returns-clause-sorted
unfolding lent
returns-clause-sorted c =
    let q = c.args.query.now in
    let found = fitting_in_scope (goal.at.returns-clause-sorted c).After-as_slice in
    IfOk-weaker c.fitting.result (λ (ds : List Document). ds ≡ filter (fits q) (lent c.as_slice.result.now)) (λ (ds : List Document). IsTrue (is_sorted name_cmp (by_name ds)))
    (λ ds is. subst (λ (xs : List Document). IsTrue (is_sorted name_cmp (by_name xs))) (sym (is ∙ found)) (rise_listened q c.args.versions.now.chains c.args.time c.requires.named))
    c.fitting.ensures

pub returns-clause-shows : goal.returns-clause-shows
unfolding lent
returns-clause-shows c =
    let q = c.args.query.now in
    let v = c.args.versions.now.chains in
    let found = fitting_in_scope (goal.at.returns-clause-shows c).After-as_slice in
    IfOk-weaker c.fitting.result (λ (ds : List Document). ds ≡ filter (fits q) (lent c.as_slice.result.now)) (λ (ds : List Document). (h : List Batch) → Shows h v → docs_of ds ≡ docs_fitting (fits q) (at h c.args.time))
    (λ ds is h shows.
    ap docs_of (is ∙ found)
    ∙ docs_listened q v c.args.time c.requires.named (at h c.args.time) (c.histories_are_lawful.ensures.own_names h c.args.time) (c.in_ok-documents.ensures.shows h shows))
    c.fitting.ensures
