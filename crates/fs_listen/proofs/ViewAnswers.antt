-- The view of a query has the documents of its answer, and in the query's order they are that answer.
use Rattle.std.proofs.Common.{◌≡◌, ℤ, Bool, true, cond, List, drop, Equal, Option, Some, None, sym, ap, ◌∙◌, subst}
use Rattle.std.specs.FinMap.{get, values}
use Rattle.std.specs.List.{Contains, filter, list_any}
use Rattle.std.specs.List.Sorted.{IsStrictlySortedBy}
use Rattle.fs_path.specs.NameOrder.{name_eq}
use Rattle.fs_path.specs.declared.name.DocName.{DocName}
use Rattle.fs_value.specs.declared.document.Document.{Document}
use Rattle.fs_write.specs.Batch.{AreNamed, Docs}
use Rattle.fs_query.specs.Answer.{IsAnswer, count_of, is_between, limited}
use Rattle.fs_query.specs.AnswerTo.{answer_to, in_rise}
use Rattle.fs_query.specs.Asked.{Asked}
use Rattle.fs_query.specs.Normal.{whole_order}
use Rattle.fs_query.specs.declared.target.Target.TheVariants as target
use Rattle.fs_query.proofs.AnswerLaws.{answers_fit, by_query, one_answer, some_answer}
use Rattle.fs_query.proofs.OrderLaws.{name_is_ordered, orders_total, tells_names}
use Rattle.fs_query.proofs.Rising.{from_rise, has_kept, in_rise_rises, keeps, only_one, rise_kept, rise_left, rise_taken, to_rise}
use Rattle.fs_history.proofs.NamesListed.{listed}
use Rattle.fs_history.proofs.ReadsStay.{in_got}
use Rattle.fs_match.specs.Event.{is_among}
use Rattle.fs_match.proofs.Changes.{fitting_by_name}
use Rattle.fs_listen.specs.View.{view}
use Rattle.fs_listen.proofs.Shown.{among_has, among_is, names_in, shown_where, values_fitting}

-- ---- of a query

module _ (q : Asked) (docs : Docs) (named : AreNamed docs) (answer : List Document) (is : IsAnswer q (values docs) answer) where
  abbrev answered : List Document
  answered = answer_to q (values docs)

  same : answered ≡ answer
  same = one_answer q (values docs) answered answer (some_answer q (values docs) (listed docs named).0) is

  abbrev keep : Document → Bool
  keep = is_among (names_in answered)

  held : values (view (target.Query q) docs) ≡ filter keep (values docs)
  held = values_fitting docs named keep

  in_docs : (d : Document) → Contains (values (view (target.Query q) docs)) d → Contains (values docs) d × (keep d ≡ true)
  in_docs d has = has_kept keep (values docs) d (subst (λ ds. Contains ds d) held has)

  pub from_view : (d : Document) → Contains (values (view (target.Query q) docs)) d → Contains answer d
  from_view d has =
      let kept = in_docs d has in
      let one = among_is answered d.name kept.1 in
      let there = subst (λ ds. Contains ds one.document) same one.there in
      let fit = answers_fit q (values docs) answer one.document is there in
      let both : Some one.document ≡ Some d = sym (in_got docs named one.document fit.0) ∙ ap (get docs) one.bears ∙ in_got docs named d kept.0 in
      let document : one.document ≡ d = cc in
      subst (Contains answer) document there

  pub to_view : (d : Document) → Contains answer d → Contains (values (view (target.Query q) docs)) d
  to_view d has =
      let fit = answers_fit q (values docs) answer d is has in
      let there = subst (λ ds. Contains ds d) (sym same) has in
      subst (λ ds. Contains ds d) (sym held) (keeps keep (values docs) d fit.0 (among_has answered d there.0 there.1 there.2))

  -- ---- in its order

  limited_rises : (limit : Option ℤ) (ds : List Document) → IsStrictlySortedBy (by_query q) ds → IsStrictlySortedBy (by_query q) (limited limit ds)
  limited_rises None ds rise = rise
  limited_rises (Some n) ds rise = rise_taken (by_query q) (count_of n) ds rise

  answer_rises : IsStrictlySortedBy (by_query q) answer
  answer_rises =
      subst (IsStrictlySortedBy (by_query q)) (sym is.is_cut)
      (limited_rises q.limit (drop (count_of q.offset) (filter (is_between q) is.all))
      (rise_left (by_query q) (count_of q.offset) (filter (is_between q) is.all) (rise_kept (by_query q) (is_between q) is.all is.are_fitting.rise)))

  one_of : (a b : Document) → Contains (values (view (target.Query q) docs)) a → Contains (values (view (target.Query q) docs)) b → by_query q a b ≡ Equal → a ≡ b
  one_of a b has too ties =
      let both : Some a ≡ Some b =
      sym (in_got docs named a (in_docs a has).0) ∙ ap (get docs) (tells_names (whole_order q) a b (name_is_ordered q) ties) ∙ in_got docs named b (in_docs b too).0 in
      cc

  pub ordered_view : in_rise (by_query q) (values (view (target.Query q) docs)) ≡ answer
  ordered_view =
      let total = orders_total (whole_order q) in
      let shown = values (view (target.Query q) docs) in
      only_one (by_query q) total (in_rise (by_query q) shown) answer (in_rise_rises (by_query q) total shown) answer_rises
      (λ d has. from_view d (from_rise (by_query q) total shown d has))
      (λ d has. to_rise (by_query q) total shown one_of d (to_view d has))

-- ---- of names

pub view_of_names : (names : List DocName) (docs : Docs) (name : DocName) → AreNamed docs
    → get (view (target.Documents names) docs) name ≡ cond (list_any (name_eq name) names) (get docs name) None
view_of_names names docs name named = fitting_by_name (is_among names) docs name ∙ sym (shown_where names name (get docs name) (named name))
