use Rattle.std.proofs.Common.{List, Result, Ok, Err, map, sym, ap, ◌∙◌, subst}
use Rattle.std.specs.Prelude.{IsTrue, IfOk}
use Rattle.std.specs.Borrow.{Bor}
use Rattle.std.specs.FinMap.{is_sorted, values}
use Rattle.fs_path.specs.NameOrder.{name_cmp}
use Rattle.fs_value.specs.Named.{by_name}
use Rattle.fs_value.specs.declared.document.Document.{Document}
use Rattle.fs_history.specs.History.{at}
use Rattle.fs_history.specs.declared.batch.Batch.{Batch}
use Rattle.fs_query.specs.Answer.{IsAnswer}
use Rattle.fs_query.specs.Asked.{Asked}
use Rattle.fs_versions.specs.Listed.{documents_at, documents_in}
use Rattle.fs_store.specs.Room.{Housed}
use Rattle.fs_store.specs.Shows.{Shows}
use Rattle.fs_store.proofs.Listing.{rise_in_scope, answer_of_all}
use Rattle.fs_store.proofs.store.Store.run.Goals as goal

at_ok : {A E : Type 0} (r : Result A E) (P Q : A → Type 0) → ((a : A) → P a → Q a) → IfOk r P → IfOk r Q
at_ok (Ok x) P Q so p = so x p
at_ok (Err e) P Q so p = tt

lent : List (Bor Document) → List Document
lent ds = map (λ d. d.now) ds

pub answer_among-requires : goal.answer_among-requires
unfolding lent
answer_among-requires g c =
    let docs = ap lent c.as_slice.ensures.value ∙ c.in_ok-documents.ensures.value in
    subst (λ ds. IsTrue (is_sorted name_cmp (by_name ds))) (sym docs)
    (rise_in_scope c.self.inside.versions.chains c.args.time c.q.inside.scope c.self.invariant.0.named)

pub returns-clause-answer : goal.returns-clause-answer
unfolding lent
returns-clause-answer g c =
    let q = c.args.q.now in
    let v = c.self.inside.versions.chains in
    let scope = ap (λ (a : Asked). documents_in a.scope v c.args.time) c.q.view_is in
    let docs = ap lent c.as_slice.ensures.value ∙ c.in_ok-documents.ensures.value ∙ scope in
    at_ok c.answer_among.result (λ ds. IsAnswer q (lent c.as_slice.result.now) ds) (λ ds. IsAnswer q (documents_at c.args.self.now.stored.chains c.args.time) ds)
    (λ ds is. subst (λ (s : Housed). IsAnswer q (documents_at s.stored.chains c.args.time) ds) c.self.view_is
    (answer_of_all q v c.args.time ds c.self.invariant.0.named (subst (λ all. IsAnswer q all ds) docs is)))
    c.answer_among.ensures

pub returns-clause-shows : goal.returns-clause-shows
unfolding lent
returns-clause-shows g c =
    let q = c.args.q.now in
    let v = c.self.inside.versions.chains in
    let scope = ap (λ (a : Asked). documents_in a.scope v c.args.time) c.q.view_is in
    let docs = ap lent c.as_slice.ensures.value ∙ c.in_ok-documents.ensures.value ∙ scope in
    at_ok c.answer_among.result (λ ds. IsAnswer q (lent c.as_slice.result.now) ds) (λ ds. (h : List Batch) → Shows h c.args.self.now.stored → IsAnswer q (values (at h c.args.time)) ds)
    (λ ds is h shows.
    let seen = subst (λ (s : Housed). Shows h s.stored) (sym c.self.view_is) shows in
    subst (λ all. IsAnswer q all ds) (c.in_ok-documents.ensures.shows h seen.versions)
    (answer_of_all q v c.args.time ds c.self.invariant.0.named (subst (λ all. IsAnswer q all ds) docs is)))
    c.answer_among.ensures
