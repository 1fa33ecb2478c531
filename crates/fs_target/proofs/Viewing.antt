-- Documents that are put one after another: those of a list whose names rise, and those of an answer, which are the view.
use Rattle.std.proofs.Common.{◌≡◌, Bool, true, false, cond, ◌||◌, List, [], ◌∷◌, Option, Some, None, refl, sym, ap, ◌∙◌}
use Rattle.std.specs.Prelude.{IsTrue}
use Rattle.std.specs.Cmp.{first_so, second_so}
use Rattle.std.specs.FinMap.{empty, find, get, get-empty, get-from_sorted, get-insert, insert, is_sorted, same_map, values}
use Rattle.std.specs.FinMap.Entries.{below_all}
use Rattle.std.specs.List.{list_any}
use Rattle.std.specs.Option.{option_or}
use Rattle.std.specs.Ordering.{eq_by_cmp}
use Rattle.fs_path.specs.NameOrder.{name_cmp, name_cmp_total, name_eq, name_is, name_same}
use Rattle.fs_path.specs.declared.name.DocName.{DocName}
use Rattle.fs_path.proofs.Bools.{from_true}
use Rattle.fs_value.specs.Named.{by_name}
use Rattle.fs_value.specs.declared.document.Document.{Document}
use Rattle.fs_write.specs.Batch.{AreNamed, Docs, docs_of}
use Rattle.fs_query.specs.Answer.{IsAnswer}
use Rattle.fs_query.specs.AnswerTo.{answer_to}
use Rattle.fs_query.specs.Asked.{Asked}
use Rattle.fs_query.specs.Laws.{AnswersFit, OneAnswer, SomeAnswer}
use Rattle.fs_query.proofs.Rising.{all_of}
use Rattle.fs_history.proofs.Names.{none_below}
use Rattle.fs_history.proofs.NamesListed.{listed}
use Rattle.fs_history.proofs.ReadsStay.{in_got}
use Rattle.fs_match.specs.Event.{fitting, is_among}
use Rattle.fs_match.proofs.Changes.{fitting_by_name}
use Rattle.fs_listen.specs.View.{view}
use Rattle.fs_listen.proofs.Shown.{AreOf, names_in, shown_where}
use Rattle.fs_query.specs.declared.target.Target.TheVariants as target
use Rattle.fs_target.specs.Places.{all_put}

-- ---- whose names rise

find_first : (d : Document) (ds : List Document) (had : Docs) (q : DocName) (b : Bool) → name_eq q d.name ≡ b → IsTrue (below_all name_cmp d.name (by_name ds))
    → option_or (find name_cmp q (by_name ds)) (cond b (Some d) (get had q)) ≡ option_or (cond b (Some d) (find name_cmp q (by_name ds))) (get had q)
find_first d ds had q true ties below =
    ap (λ o. option_or o (Some d)) (ap (λ n. find name_cmp n (by_name ds)) (name_is q d.name ties) ∙ none_below d.name (by_name ds) below)
find_first d ds had q false ties below = refl

rising_at : (ds : List Document) (had : Docs) (q : DocName) → IsTrue (is_sorted name_cmp (by_name ds)) → get (all_put ds had) q ≡ option_or (find name_cmp q (by_name ds)) (get had q)
rising_at [] had q rise = refl
rising_at (d ∷ ds) had q rise =
    rising_at ds (insert had d.name d) q (second_so (below_all name_cmp d.name (by_name ds)) (is_sorted name_cmp (by_name ds)) rise)
    ∙ ap (option_or (find name_cmp q (by_name ds))) (get-insert name_cmp_total had d.name d q)
    ∙ find_first d ds had q (eq_by_cmp name_cmp q d.name) refl (first_so (below_all name_cmp d.name (by_name ds)) (is_sorted name_cmp (by_name ds)) rise)

or_none : (o : Option Document) → option_or o None ≡ o
or_none None = refl
or_none (Some d) = refl

pub rising_put : (ds : List Document) → IsTrue (is_sorted name_cmp (by_name ds)) → all_put ds empty ≡ docs_of ds
rising_put ds rise =
    same_map name_cmp_total name_same (all_put ds empty) (docs_of ds)
    (λ q. rising_at ds empty q rise
    ∙ ap (option_or (find name_cmp q (by_name ds))) (get-empty name_cmp q)
    ∙ or_none (find name_cmp q (by_name ds))
    ∙ sym (get-from_sorted name_cmp (by_name ds) q (from_true _ rise)))

-- ---- of an answer

put_first : (all had : Docs) (d : Document) (q : DocName) (here later : Bool) → name_eq q d.name ≡ here → get all d.name ≡ Some d
    → cond later (get all q) (cond here (Some d) (get had q)) ≡ cond (here || later) (get all q) (get had q)
put_first all had d q true true ties is = refl
put_first all had d q true false ties is = sym (ap (get all) (name_is q d.name ties) ∙ is)
put_first all had d q false true ties is = refl
put_first all had d q false false ties is = refl

put_at : (ds : List Document) (all had : Docs) (q : DocName) → AreOf all ds → get (all_put ds had) q ≡ cond (list_any (name_eq q) (names_in ds)) (get all q) (get had q)
put_at [] all had q are = refl
put_at (d ∷ ds) all had q are =
    put_at ds all (insert had d.name d) q are.1
    ∙ ap (cond (list_any (name_eq q) (names_in ds)) (get all q)) (get-insert name_cmp_total had d.name d q)
    ∙ put_first all had d q (eq_by_cmp name_cmp q d.name) (list_any (name_eq q) (names_in ds)) refl are.0

module _ (a : Asked) (all : Docs) (named : AreNamed all) where
  view_put : (ds : List Document) → ds ≡ answer_to a (values all) → AreOf all ds → all_put ds empty ≡ view (target.Query a) all
  view_put ds is are =
      same_map name_cmp_total name_same (all_put ds empty) (view (target.Query a) all)
      (λ q. put_at ds all empty q are
      ∙ ap (cond (list_any (name_eq q) (names_in ds)) (get all q)) (get-empty name_cmp q)
      ∙ shown_where (names_in ds) q (get all q) (named q)
      ∙ ap (λ (ds : List Document). fitting (is_among (names_in ds)) (get all q)) is
      ∙ sym (fitting_by_name (is_among (names_in (answer_to a (values all)))) all q))

  pub answer_put : OneAnswer → SomeAnswer → AnswersFit → (ds : List Document) → IsAnswer a (values all) ds → all_put ds empty ≡ view (target.Query a) all
  answer_put one some fit ds answer =
      view_put ds
      (one a (values all) ds (answer_to a (values all)) answer (some a (values all) (listed all named).0))
      (all_of (λ (d : Document). get all d.name ≡ Some d) ds (λ d has. in_got all named d (fit a (values all) ds d answer has).0))
