use Rattle.std.proofs.Common.{◌≡◌, List, sym, ap, ◌∙◌, subst}
use Rattle.std.specs.Prelude.{IsTrue}
use Rattle.std.specs.FinMap.{is_sorted}
use Rattle.std.proofs.lemmas.Result.{IfOk-weaker}
use Rattle.fs_path.specs.NameOrder.{name_cmp}
use Rattle.fs_value.specs.Named.{by_name}
use Rattle.fs_value.specs.declared.document.Document.{Document}
use Rattle.fs_write.specs.Batch.{docs_of}
use Rattle.fs_history.specs.History.{at}
use Rattle.fs_history.specs.declared.batch.Batch.{Batch}
use Rattle.fs_match.specs.Event.{is_among}
use Rattle.fs_match.specs.Followed.{docs_fitting}
use Rattle.fs_versions.specs.Listed.{all_shown}
use Rattle.fs_versions.specs.Shows.{Shows}
use Rattle.fs_path.proofs.NamesOnce.{names_at}
use Rattle.fs_store.proofs.Standing.{chains_at, docs_standing, rise_standing}
use Rattle.fs_store.proofs.listened.all_named.Goals as goal

pub returns-clause-sorted : goal.returns-clause-sorted
returns-clause-sorted c =
    let v = c.args.versions.now.chains in
    let t = c.args.time in
    let names = names_at c.in_ok-sorted.sorted.keys in
    IfOk-weaker c.standing.result (λ (ds : List Document). ds ≡ all_shown t (chains_at v names)) (λ (ds : List Document). IsTrue (is_sorted name_cmp (by_name ds)))
    (λ ds is. subst (λ (xs : List Document). IsTrue (is_sorted name_cmp (by_name xs))) (sym is) (rise_standing v t c.requires.named names c.in_ok-sorted.ensures.rise))
    c.standing.ensures

pub returns-clause-shows : goal.returns-clause-shows
returns-clause-shows c =
    let v = c.args.versions.now.chains in
    let t = c.args.time in
    let names = names_at c.in_ok-sorted.sorted.keys in
    IfOk-weaker c.standing.result (λ (ds : List Document). ds ≡ all_shown t (chains_at v names))
    (λ (ds : List Document). (h : List Batch) → Shows h v → docs_of ds ≡ docs_fitting (is_among c.args.names.now) (at h t))
    (λ ds is h shows.
    ap docs_of is
    ∙ docs_standing v t (at h t) (c.histories_are_lawful.ensures.own_names h t) (λ name. shows.documents t name c.requires.from) c.args.names.now names
    c.in_ok-sorted.ensures.rise c.in_ok-sorted.ensures.same)
    c.standing.ensures
