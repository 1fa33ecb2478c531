-- The documents in the scope of a query: their names rise, and the query's answer over them is its answer over all.
use Rattle.std.proofs.Common.{◌≡◌, ℤ, Bool, true, false, cond, List, [], ◌∷◌, ◌++◌, Option, Some, None, inl, inr, refl, sym, ap, ◌∙◌, subst}
use Rattle.std.specs.Prelude.{IsTrue, ⊤, ◌&&◌, int_le, reverse, unwrap_or}
use Rattle.std.specs.Cmp.{first_so, second_so}
use Rattle.std.specs.FinMap.{entries, entries_sorted, find, get-entries, is_sorted}
use Rattle.std.specs.FinMap.Entries.{below_all, is_sorted-where_key}
use Rattle.std.specs.List.{All, Contains, filter, list_all}
use Rattle.std.specs.Option.{option_to_list}
use Rattle.std.specs.Ordering.{eq_by_cmp, is_lt}
use Rattle.std.proofs.lemmas.List.Elements.{All-nil, All-cons, All-contains, All-head, All-tail, Contains-append_left, Contains-append_right, Contains-append_cases}
use Rattle.std.proofs.lemmas.Bool.{and_from}
use Rattle.fs_path.specs.NameOrder.{name_cmp, name_is, name_itself}
use Rattle.fs_path.specs.Scope.{covers}
use Rattle.fs_path.specs.declared.name.DocName.{DocName}
use Rattle.fs_path.specs.declared.scope.Scope.{Scope}
use Rattle.fs_path.proofs.Bools.{to_true}
use Rattle.fs_value.specs.Named.{by_name}
use Rattle.fs_value.specs.declared.document.Document.{Document}
use Rattle.fs_write.specs.Batch.{Bears}
use Rattle.fs_query.specs.Answer.{IsAnswer}
use Rattle.fs_query.specs.Asked.{Asked}
use Rattle.fs_query.specs.Fits.{has_field, meets}
use Rattle.fs_query.specs.Normal.{whole_order}
use Rattle.fs_history.specs.Versions.{shown}
use Rattle.fs_history.specs.declared.version.Version.{Version}
use Rattle.fs_history.proofs.Names.{none_below}
use Rattle.fs_versions.specs.Chain.{shown_at}
use Rattle.fs_versions.specs.Chains.{Chains}
use Rattle.fs_versions.specs.Listed.{all_shown, documents_at, documents_in}
use Rattle.fs_versions.proofs.Cutting.{all_reverse}
use Rattle.fs_store.specs.Held.{AreNamed}

abbrev pub Tree : Type 0
Tree = List (DocName × List Version)

-- ---- the document that an entry shows bears its name

abbrev pub ShowsNamed : ℤ → Tree → Type 0
ShowsNamed t [] = ⊤
ShowsNamed t (e ∷ es) = Bears (shown_at t e.1) e.0 × ShowsNamed t es

pub bears_shown : (t : ℤ) (q : DocName) (vs : List Version) → All (λ w. Bears w.after q) vs → Bears (shown t vs) q
bears_shown t q [] named = tt
bears_shown t q (v ∷ vs) named =
    elim (int_le v.time t) as (λ b. Bears (cond b v.after (shown t vs)) q) [
      | true ↦ All-head (λ w. Bears w.after q) v vs named
      | false ↦ bears_shown t q vs (All-tail (λ w. Bears w.after q) v vs named)
    ]

-- the chain that stands at a name
abbrev chain_at : DocName → Tree → List Version
chain_at q es = unwrap_or (find name_cmp q es) []

abbrev NamedAt : Tree → Type 0
NamedAt es = (q : DocName) → All (λ w. Bears w.after q) (chain_at q es)

first_named : (e : DocName × List Version) (es : Tree) → NamedAt (e ∷ es) → All (λ w. Bears w.after e.0) e.1
first_named e es named =
    subst (All (λ w. Bears w.after e.0)) (ap (λ b. unwrap_or (cond b (Some e.1) (find name_cmp e.0 es)) []) (name_itself e.0)) (named e.0)

rest_at : (e : DocName × List Version) (es : Tree) (q : DocName) (b : Bool) → (b ≡ true → find name_cmp q es ≡ None)
    → All (λ w. Bears w.after q) (unwrap_or (cond b (Some e.1) (find name_cmp q es)) []) → All (λ w. Bears w.after q) (chain_at q es)
rest_at e es q true none named = subst (λ o. All (λ w. Bears w.after q) (unwrap_or o [])) (sym (none refl)) (All-nil (λ w. Bears w.after q))
rest_at e es q false none named = named

rest_named : (e : DocName × List Version) (es : Tree) → IsTrue (below_all name_cmp e.0 es) → NamedAt (e ∷ es) → NamedAt es
rest_named e es below named q =
    rest_at e es q (eq_by_cmp name_cmp q e.0)
    (λ ties. ap (λ n. find name_cmp n es) (name_is q e.0 ties) ∙ none_below e.0 es below) (named q)

shows_named : (t : ℤ) (es : Tree) → IsTrue (is_sorted name_cmp es) → NamedAt es → ShowsNamed t es
shows_named t [] rise named = tt
shows_named t (e ∷ es) rise named = (
  bears_shown t e.0 (reverse e.1) (all_reverse (λ w. Bears w.after e.0) e.1 (first_named e es named)),
  shows_named t es (second_so (below_all name_cmp e.0 es) _ rise) (rest_named e es (first_so _ (is_sorted name_cmp es) rise) named),
)

module _ (v : Chains) (t : ℤ) (named : AreNamed v) where
  entries_rise : IsTrue (is_sorted name_cmp (entries v.by_name))
  entries_rise = to_true _ (entries_sorted v.by_name)

  pub entries_named : ShowsNamed t (entries v.by_name)
  entries_named =
      shows_named t (entries v.by_name) entries_rise
      (λ q. subst (λ o. All (λ w. Bears w.after q) (unwrap_or o [])) (get-entries v.by_name q) (named q))

-- ---- names rise

below_with : (k name : DocName) (o : Option Document) (ds : List Document) → Bears o name → IsTrue (is_lt (name_cmp k name)) → IsTrue (below_all name_cmp k (by_name ds)) → IsTrue (below_all name_cmp k (by_name (option_to_list o ++ ds)))
below_with k name None ds bears less more = more
below_with k name (Some d) ds bears less more =
    and_from (is_lt (name_cmp k d.name)) _ (subst (λ n. IsTrue (is_lt (name_cmp k n))) (sym bears) less) more

below_shown : (t : ℤ) (k : DocName) (es : Tree) → ShowsNamed t es → IsTrue (below_all name_cmp k es) → IsTrue (below_all name_cmp k (by_name (all_shown t es)))
below_shown t k [] named below = refl
below_shown t k (e ∷ es) named below =
    below_with k e.0 (shown_at t e.1) (all_shown t es) named.0 (first_so _ (below_all name_cmp k es) below) (below_shown t k es named.1 (second_so (is_lt (name_cmp k e.0)) _ below))

rise_with : (name : DocName) (o : Option Document) (ds : List Document) → Bears o name → IsTrue (below_all name_cmp name (by_name ds)) → IsTrue (is_sorted name_cmp (by_name ds)) → IsTrue (is_sorted name_cmp (by_name (option_to_list o ++ ds)))
rise_with name None ds bears below rise = rise
rise_with name (Some d) ds bears below rise =
    and_from (below_all name_cmp d.name (by_name ds)) _ (subst (λ n. IsTrue (below_all name_cmp n (by_name ds))) (sym bears) below) rise

pub shown_rise : (t : ℤ) (es : Tree) → ShowsNamed t es → IsTrue (is_sorted name_cmp es) → IsTrue (is_sorted name_cmp (by_name (all_shown t es)))
shown_rise t [] named rise = refl
shown_rise t (e ∷ es) named rise =
    rise_with e.0 (shown_at t e.1) (all_shown t es) named.0
    (below_shown t e.0 es named.1 (first_so _ (is_sorted name_cmp es) rise))
    (shown_rise t es named.1 (second_so (below_all name_cmp e.0 es) _ rise))

named_among : (t : ℤ) (scope : Scope) (es : Tree) → ShowsNamed t es → ShowsNamed t (filter (λ e. covers scope e.0) es)
named_among t scope [] named = tt
named_among t scope (e ∷ es) named =
    elim (covers scope e.0) as (λ b. ShowsNamed t (cond b (e ∷ filter (λ e. covers scope e.0) es) (filter (λ e. covers scope e.0) es))) [
      | true ↦ (named.0, named_among t scope es named.1)
      | false ↦ named_among t scope es named.1
    ]

pub rise_in_scope : (v : Chains) (t : ℤ) (scope : Scope) → AreNamed v → IsTrue (is_sorted name_cmp (by_name (documents_in scope v t)))
rise_in_scope v t scope named =
    let es = entries v.by_name in
    shown_rise t (filter (λ e. covers scope e.0) es) (named_among t scope es (entries_named v t named))
    (to_true _ (is_sorted-where_key name_cmp (covers scope) es (entries_sorted v.by_name)))

-- ---- the answer

one_named : (o : Option Document) (name : DocName) → Bears o name → All (λ y. y.name ≡ name) (option_to_list o)
one_named None name bears = All-nil (λ y. y.name ≡ name)
one_named (Some x) name bears = All-cons (λ y. y.name ≡ name) x [] bears (All-nil (λ y. y.name ≡ name))

module _ (t : ℤ) (scope : Scope) (d : Document) where
  abbrev among : Tree → Tree
  among es = filter (λ e. covers scope e.0) es

  in_all_next : (e : DocName × List Version) (es : Tree) (b : Bool) → (Contains (all_shown t (among es)) d → Contains (all_shown t es) d)
      → Contains (all_shown t (cond b (e ∷ among es) (among es))) d → Contains (option_to_list (shown_at t e.1) ++ all_shown t es) d
  in_all_next e es true more has =
      elim (Contains-append_cases (option_to_list (shown_at t e.1)) (all_shown t (among es)) d has) [
        | inl here ↦ Contains-append_left (option_to_list (shown_at t e.1)) (all_shown t es) d here
        | inr there ↦ Contains-append_right (option_to_list (shown_at t e.1)) (all_shown t es) d (more there)
      ]
  in_all_next e es false more has = Contains-append_right (option_to_list (shown_at t e.1)) (all_shown t es) d (more has)

  in_all : (es : Tree) → Contains (all_shown t (among es)) d → Contains (all_shown t es) d
  in_all [] has = has
  in_all (e ∷ es) has = in_all_next e es (covers scope e.0) (in_all es) has

  in_scope_next : (e : DocName × List Version) (es : Tree) (b : Bool) → covers scope e.0 ≡ b → Bears (shown_at t e.1) e.0 → IsTrue (covers scope d.name)
      → (Contains (all_shown t es) d → Contains (all_shown t (among es)) d)
      → Contains (option_to_list (shown_at t e.1) ++ all_shown t es) d → Contains (all_shown t (cond b (e ∷ among es) (among es))) d
  in_scope_next e es true is bears covered more has =
      elim (Contains-append_cases (option_to_list (shown_at t e.1)) (all_shown t es) d has) [
        | inl here ↦ Contains-append_left (option_to_list (shown_at t e.1)) (all_shown t (among es)) d here
        | inr there ↦ Contains-append_right (option_to_list (shown_at t e.1)) (all_shown t (among es)) d (more there)
      ]
  in_scope_next e es false is bears covered more has =
      elim (Contains-append_cases (option_to_list (shown_at t e.1)) (all_shown t es) d has) [
        | inl here ↦
            let same : d.name ≡ e.0 = All-contains (λ y. y.name ≡ e.0) (option_to_list (shown_at t e.1)) d (one_named (shown_at t e.1) e.0 bears) here in
            let differ : true ≡ false = sym covered ∙ ap (covers scope) same ∙ is in
            absurd (cc)
        | inr there ↦ more there
      ]

  in_scope : (es : Tree) → ShowsNamed t es → IsTrue (covers scope d.name) → Contains (all_shown t es) d → Contains (all_shown t (among es)) d
  in_scope [] named covered has = has
  in_scope (e ∷ es) named covered has = in_scope_next e es (covers scope e.0) refl named.0 covered (in_scope es named.1 covered) has

pub answer_of_all : (q : Asked) (v : Chains) (t : ℤ) (ds : List Document) → AreNamed v → IsAnswer q (documents_in q.scope v t) ds → IsAnswer q (documents_at v t) ds
answer_of_all q v t ds named answer = record {
  all = answer.all;
  are_fitting = record {
    rise = answer.are_fitting.rise;
    fitting = λ d. (
      λ has. let both = (answer.are_fitting.fitting d).0 has in (in_all t q.scope d (entries v.by_name) both.0, both.1),
      λ both. (answer.are_fitting.fitting d).1
          (in_scope t q.scope d (entries v.by_name) (entries_named v t named) (first_so (covers q.scope d.name) (list_all (has_field d) (whole_order q) && meets q.filter d) both.1) both.0, both.1),
    );
  };
  is_cut = answer.is_cut;
}
