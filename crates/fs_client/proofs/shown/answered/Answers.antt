use Rattle.std.proofs.Common.{◌≡◌, List, map, sym, ap, ◌∙◌, subst}
use Rattle.std.specs.Prelude.{IsTrue}
use Rattle.std.specs.Borrow.{Bor}
use Rattle.std.specs.FinMap.{is_sorted, values}
use Rattle.std.proofs.lemmas.Result.{IfOk-weaker}
use Rattle.fs_path.specs.NameOrder.{name_cmp}
use Rattle.fs_value.specs.Named.{by_name}
use Rattle.fs_value.specs.declared.document.Document.{Document}
use Rattle.fs_query.specs.Answer.{IsAnswer}
use Rattle.fs_query.specs.AnswerTo.{answer_to}
use Rattle.fs_cache.specs.Cached.{documents}
use Rattle.fs_queue.specs.Overlay.{IsOverlay, overlay}
use Rattle.fs_queue.specs.declared.batch.LocalBatch.{LocalBatch}
use Rattle.fs_client.proofs.OverlayNamed.{laid_over}
use Rattle.fs_client.proofs.shown.answered.Goals as goal

lent : List (Bor Document) → List Document
lent ds = map (λ d. d.now) ds

pub returns : goal.returns
unfolding lent
returns c =
    let q = c.args.query.now in
    let docs = documents c.args.cache.now in
    let left = c.args.left.now in
    let laws = c.answers_are_lawful.ensures in
    let had = lent c.as_slice.result.now in
    let shown = lent c.as_slice-2.result.now in
    let rise = subst (λ items. IsTrue (is_sorted name_cmp (by_name (lent items)))) (sym c.as_slice-2.ensures.value) c.in_ok-shown.ensures.rise in
    IfOk-weaker c.answer_among.result (λ (ds : List Document). IsAnswer q shown ds)
    (λ (ds : List Document). (bs : List LocalBatch) → IsOverlay docs bs left → ds ≡ answer_to q (values (overlay docs bs)))
    (λ ds is bs laid.
    laws.one q shown ds (answer_to q shown) is (laws.some q shown rise)
    ∙ ap (answer_to q)
    (ap lent c.as_slice-2.ensures.value
    ∙ c.in_ok-shown.ensures.value (overlay docs bs)
    (laid_over docs bs left had c.documents_are_named.ensures (ap lent c.as_slice.ensures.value ∙ c.in_ok-docs.ensures.value) laid)))
    c.answer_among.ensures
