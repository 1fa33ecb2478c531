use Rattle.std.proofs.Common.{◌≡◌, Result, Ok, Err, List, map, sym, ap, ◌∙◌, subst}
use Rattle.std.specs.Prelude.{IfOk, IsTrue}
use Rattle.std.specs.Borrow.{Bor}
use Rattle.std.specs.FinMap.{is_sorted}
use Rattle.std.specs.List.Sorted.{IsPermutation, IsSortedByKey}
use Rattle.fs_path.specs.NameOrder.{name_cmp}
use Rattle.fs_value.specs.Named.{by_name}
use Rattle.fs_value.specs.declared.document.Document.{Document}
use Rattle.fs_write.specs.Batch.{docs_of}
use Rattle.fs_query.specs.Answer.{IsAnswer}
use Rattle.fs_query.specs.Asked.{Asked}
use Rattle.fs_query.specs.declared.target.Target.TheVariants as target
use Rattle.fs_history.specs.History.{at}
use Rattle.fs_history.specs.declared.batch.Batch.{Batch}
use Rattle.fs_listen.specs.View.{view}
use Rattle.fs_listen.proofs.Shown.{values_again}
use Rattle.fs_versions.specs.Listed.{documents_in}
use Rattle.fs_versions.specs.Shows.{Shows}
use Rattle.fs_store.proofs.Answered.{list_named, rise_answered, view_answered}
use Rattle.fs_store.proofs.Listing.{answer_of_all, rise_in_scope}
use Rattle.fs_store.proofs.listened.answered.Goals as goal
use Rattle.fs_store.proofs.listened.answered.Goals.{After-as_slice, After-in_order}

both_ok : {A E : Type 0} (r : Result A E) (P Q R : A → Type 0) → ((a : A) → P a → Q a → R a) → IfOk r P → IfOk r Q → IfOk r R
both_ok (Ok x) P Q R so p q = so x p q
both_ok (Err e) P Q R so p q = tt

lent : List (Bor Document) → List Document
lent ds = map (λ d. d.now) ds

all_lent : (c : After-as_slice) → lent c.as_slice.result.now ≡ documents_in c.args.query.now.scope c.args.versions.now.chains c.args.time
unfolding lent
all_lent c =
    ap lent c.as_slice.ensures.value
    ∙ c.in_ok-documents.ensures.value
    ∙ ap (λ (a : Asked). documents_in a.scope c.args.versions.now.chains c.args.time) c.query.view_is

pub answer_among-requires : goal.answer_among-requires
unfolding lent
answer_among-requires c =
    subst (λ ds. IsTrue (is_sorted name_cmp (by_name ds))) (sym (all_lent (goal.at.answer_among-requires c).After-as_slice))
    (rise_in_scope c.args.versions.now.chains c.args.time c.args.query.now.scope c.requires.named)

pub returns-clause-sorted : goal.returns-clause-sorted
unfolding lent
returns-clause-sorted c =
    let q = c.args.query.now in
    let found = documents_in q.scope c.args.versions.now.chains c.args.time in
    let answer = c.in_ok-answer_among.field-0 in
    let laws = c.answers_are_lawful.ensures in
    let rise = rise_in_scope c.args.versions.now.chains c.args.time q.scope c.requires.named in
    let is = subst (λ (ds : List Document). IsAnswer q ds answer) (all_lent (goal.at.returns-clause-sorted c).After-as_slice) c.in_ok-answer_among.ensures in
    both_ok c.in_order.result (IsPermutation answer) (IsSortedByKey (λ (d : Document). d.name) name_cmp) (λ (ds : List Document). IsTrue (is_sorted name_cmp (by_name ds)))
    (rise_answered laws.once laws.fit q (docs_of found) (list_named found rise) answer (subst (λ (ds : List Document). IsAnswer q ds answer) (sym (values_again found rise)) is))
    c.in_order.ensures.moved c.in_order.ensures.rise

pub returns-clause-shows : goal.returns-clause-shows
unfolding lent
returns-clause-shows c =
    let q = c.args.query.now in
    let v = c.args.versions.now.chains in
    let answer = c.in_ok-answer_among.field-0 in
    let laws = c.answers_are_lawful.ensures in
    let is = subst (λ (ds : List Document). IsAnswer q ds answer) (all_lent (goal.at.returns-clause-shows c).After-as_slice) c.in_ok-answer_among.ensures in
    both_ok c.in_order.result (IsPermutation answer) (IsSortedByKey (λ (d : Document). d.name) name_cmp)
    (λ (ds : List Document). (h : List Batch) → Shows h v → docs_of ds ≡ view (target.Query q) (at h c.args.time))
    (λ ds moved rise h shows.
    view_answered laws.once laws.fit q (at h c.args.time) (c.histories_are_lawful.ensures.own_names h c.args.time) answer
    (subst (λ (all : List Document). IsAnswer q all answer) (c.in_ok-documents.ensures.shows h shows) (answer_of_all q v c.args.time answer c.requires.named is))
    ds moved rise laws.one laws.some)
    c.in_order.ensures.moved c.in_order.ensures.rise
