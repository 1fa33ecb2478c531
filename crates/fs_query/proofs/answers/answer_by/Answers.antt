use Rattle.std.proofs.Common.{◌≡◌, map, drop, sym, ap, ◌∙◌, subst}
use Rattle.std.specs.List.{filter}
use Rattle.std.specs.List.Sorted.{IsSorted}
use Rattle.std.proofs.lemmas.Result.{IfOk-weaker}
use Rattle.fs_query.specs.Answer.{IsAnswer, count_of, limited}
use Rattle.fs_query.specs.DocumentOrder.{orders_cmp}
use Rattle.fs_query.specs.Found.{KeepsFirst, documents_of, is_asked, most_of}
use Rattle.fs_query.specs.Normal.{whole_order}
use Rattle.fs_query.proofs.AnswerLaws.{answer_of_kept}
use Rattle.fs_query.proofs.answers.answer_by.Goals as goal

pub returns : goal.returns
returns c =
    let q = c.args.q.now in
    let docs = map (λ d. d.now) c.args.docs.now in
    let kept = documents_of c.in_ok-found.found.items in
    let sorted = documents_of c.sort_found.new.found.items in
    let first : KeepsFirst (orders_cmp (whole_order q)) (most_of q) (filter (is_asked q) docs) kept =
    subst (λ os. KeepsFirst (orders_cmp os) (most_of q) (filter (is_asked q) docs) kept) c.requires.whole c.in_ok-found.ensures.kept in
    let rise : IsSorted (orders_cmp (whole_order q)) sorted = subst (λ os. IsSorted (orders_cmp os) sorted) c.requires.whole c.in_ok-sort_found.ensures.rise in
    let is : documents_of c.cut.result.now ≡ limited q.limit (drop (count_of q.offset) sorted) =
    c.cut.ensures ∙ ap (λ fs. limited q.limit (drop (count_of q.offset) (documents_of fs))) c.as_slice.ensures.value in
    IfOk-weaker c.copied.result (λ ds. ds ≡ documents_of c.cut.result.now) (IsAnswer q docs)
    (λ ds e. subst (IsAnswer q docs) (sym (e ∙ is)) (answer_of_kept q docs kept sorted c.requires.rise first c.sort_found.ensures.same rise)) c.copied.ensures
