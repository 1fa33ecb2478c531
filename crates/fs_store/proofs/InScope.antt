-- The documents that fit a query: those of its scope are those of all.
use Rattle.std.proofs.Common.{◌≡◌, ℤ, Bool, true, false, cond, ◌&&◌, List, [], ◌∷◌, ◌++◌, Option, Some, None, refl, sym, ap, ◌∙◌}
use Rattle.std.specs.Prelude.{IsTrue}
use Rattle.std.specs.FinMap.{entries, is_sorted, values}
use Rattle.std.specs.List.{filter, list_all}
use Rattle.std.specs.Option.{option_to_list}
use Rattle.fs_path.specs.NameOrder.{name_cmp}
use Rattle.fs_path.specs.Scope.{covers}
use Rattle.fs_path.specs.declared.name.DocName.{DocName}
use Rattle.fs_value.specs.Named.{by_name}
use Rattle.fs_value.specs.declared.document.Document.{Document}
use Rattle.fs_write.specs.Batch.{AreNamed as StandNamed, Bears, Docs, docs_of}
use Rattle.fs_query.specs.Asked.{Asked}
use Rattle.fs_query.specs.Fits.{fits, has_field, meets}
use Rattle.fs_query.specs.Laws.{AnswersFit, SomeAnswer}
use Rattle.fs_query.specs.Normal.{whole_order}
use Rattle.fs_query.specs.declared.target.Target.{Target}
use Rattle.fs_query.specs.declared.target.Target.TheVariants as target
use Rattle.fs_history.specs.declared.version.Version.{Version}
use Rattle.fs_match.specs.Followed.{docs_fitting}
use Rattle.fs_match.proofs.Changes.{fitting_by_name}
use Rattle.fs_listen.specs.View.{is_listened, is_whole, view}
use Rattle.fs_listen.proofs.Shown.{docs_where, rise_fitting, view_whole}
use Rattle.fs_versions.specs.Chain.{shown_at}
use Rattle.fs_versions.specs.Chains.{Chains}
use Rattle.fs_versions.specs.Listed.{all_shown, documents_at, documents_in}
use Rattle.fs_store.specs.Held.{AreNamed}
use Rattle.fs_store.proofs.Listing.{ShowsNamed, Tree, entries_named, rise_in_scope}

-- ---- in the scope

module _ (q : Asked) (t : ℤ) where
  abbrev among : Tree → Tree
  among es = filter (λ e. covers q.scope e.0) es

  -- with one that is shown in front
  also : (o : Option Document) (xs ys : List Document) → filter (fits q) xs ≡ filter (fits q) ys → filter (fits q) (option_to_list o ++ xs) ≡ filter (fits q) (option_to_list o ++ ys)
  also None xs ys same = same
  also (Some d) xs ys same = ap (λ ds. cond (fits q d) (d ∷ ds) ds) same

  -- which doesn't fit where its name isn't in the scope
  outside : (o : Option Document) (name : DocName) (ys : List Document) → Bears o name → covers q.scope name ≡ false → filter (fits q) (option_to_list o ++ ys) ≡ filter (fits q) ys
  outside None name ys bears out = refl
  outside (Some d) name ys bears out =
      ap (λ b. cond (b && (list_all (has_field d) (whole_order q) && meets q.filter d)) (d ∷ filter (fits q) ys) (filter (fits q) ys)) (ap (covers q.scope) bears ∙ out)

  fitting_next : (e : DocName × List Version) (es : Tree) (b : Bool) → covers q.scope e.0 ≡ b → Bears (shown_at t e.1) e.0
      → filter (fits q) (all_shown t (among es)) ≡ filter (fits q) (all_shown t es)
      → filter (fits q) (all_shown t (cond b (e ∷ among es) (among es))) ≡ filter (fits q) (option_to_list (shown_at t e.1) ++ all_shown t es)
  fitting_next e es true is bears rest = also (shown_at t e.1) (all_shown t (among es)) (all_shown t es) rest
  fitting_next e es false is bears rest = rest ∙ sym (outside (shown_at t e.1) e.0 (all_shown t es) bears is)

  fitting_among : (es : Tree) → ShowsNamed t es → filter (fits q) (all_shown t (among es)) ≡ filter (fits q) (all_shown t es)
  fitting_among [] named = refl
  fitting_among (e ∷ es) named = fitting_next e es (covers q.scope e.0) refl named.0 (fitting_among es named.1)

-- ---- of a moment

module _ (q : Asked) (v : Chains) (t : ℤ) (named : AreNamed v) where
  pub rise_listened : IsTrue (is_sorted name_cmp (by_name (filter (fits q) (documents_in q.scope v t))))
  rise_listened = rise_fitting (fits q) (documents_in q.scope v t) (rise_in_scope v t q.scope named)

  pub docs_listened : (docs : Docs) → StandNamed docs → documents_at v t ≡ values docs → docs_of (filter (fits q) (documents_in q.scope v t)) ≡ docs_fitting (fits q) docs
  docs_listened docs own is =
      ap docs_of (fitting_among q t (entries v.by_name) (entries_named v t named) ∙ ap (filter (fits q)) is)
      ∙ docs_where docs own (fits q)

-- ---- a view that is whole

pub whole_view : SomeAnswer → AnswersFit → (docs : Docs) → StandNamed docs → (t : Target) → is_whole t ≡ true → docs_fitting (is_listened t) docs ≡ view t docs
whole_view some fit docs own (target.Documents names) whole = refl
whole_view some fit docs own (target.Query q) whole = view_whole docs own some fit fitting_by_name q whole
