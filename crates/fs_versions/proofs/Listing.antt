-- The documents that the chains of all names show, as a list in the order of names.
use Rattle.std.proofs.Common.{◌≡◌, ℤ, Bool, true, false, cond, List, [], ◌∷◌, ◌++◌, map, Option, Some, None, refl, sym, ap, ◌∙◌}
use Rattle.std.specs.Prelude.{IsTrue, unwrap_or}
use Rattle.std.specs.List.{filter}
use Rattle.std.specs.Option.{option_to_list}
use Rattle.std.specs.Ordering.{eq_by_cmp, is_lt}
use Rattle.std.specs.Cmp.{first_so, second_so}
use Rattle.std.specs.FinMap.{FinMap, get, get-entries, entries, entries_sorted, values, find, is_sorted}
use Rattle.std.specs.FinMap.Entries.{below_all, same_entries}
use Rattle.std.proofs.lemmas.Bool.{and_from}
use Rattle.fs_path.specs.NameOrder.{name_cmp, name_cmp_total, name_same, name_is}
use Rattle.fs_path.specs.declared.name.DocName.{DocName}
use Rattle.fs_path.proofs.Bools.{from_true, to_true}
use Rattle.fs_value.specs.declared.document.Document.{Document}
use Rattle.fs_write.specs.Batch.{Docs}
use Rattle.fs_history.specs.declared.version.Version.{Version}
use Rattle.fs_history.proofs.Names.{none_below}
use Rattle.fs_versions.specs.Chain.{shown_at}
use Rattle.fs_versions.specs.Chains.{all_full, with_chain}
use Rattle.fs_versions.specs.Listed.{all_shown}
use Rattle.fs_versions.specs.Sound.{Tree, chains_of, lists_of}
use Rattle.fs_versions.proofs.Views.{entries_of}

abbrev Lists : Type 0
Lists = List (DocName × List Version)

-- each document that is shown, at its name
with_name : DocName → Option Document → List (DocName × Document) → List (DocName × Document)
with_name name None ds = ds
with_name name (Some d) ds = (name, d) ∷ ds

pairs : ℤ → Lists → List (DocName × Document)
pairs t [] = []
pairs t (e ∷ es) = with_name e.0 (shown_at t e.1) (pairs t es)

values_with : (name : DocName) (o : Option Document) (ds : List (DocName × Document)) (rest : List Document) → map (λ e. e.1) ds ≡ rest → map (λ e. e.1) (with_name name o ds) ≡ option_to_list o ++ rest
unfolding with_name
values_with name None ds rest is = is
values_with name (Some d) ds rest is = ap (λ xs. d ∷ xs) is

values_pairs : (t : ℤ) (es : Lists) → map (λ e. e.1) (pairs t es) ≡ all_shown t es
unfolding pairs
values_pairs t [] = refl
values_pairs t (e ∷ es) = values_with e.0 (shown_at t e.1) (pairs t es) (all_shown t es) (values_pairs t es)

-- ---- they are in order

below_with : (k name : DocName) (o : Option Document) (ds : List (DocName × Document)) → IsTrue (is_lt (name_cmp k name)) → IsTrue (below_all name_cmp k ds) → IsTrue (below_all name_cmp k (with_name name o ds))
unfolding with_name
below_with k name None ds less more = more
below_with k name (Some d) ds less more = and_from (is_lt (name_cmp k name)) (below_all name_cmp k ds) less more

below_pairs : (t : ℤ) (k : DocName) (es : Lists) → IsTrue (below_all name_cmp k es) → IsTrue (below_all name_cmp k (pairs t es))
unfolding pairs
below_pairs t k [] below = refl
below_pairs t k (e ∷ es) below =
    below_with k e.0 (shown_at t e.1) (pairs t es) (first_so _ (below_all name_cmp k es) below) (below_pairs t k es (second_so (is_lt (name_cmp k e.0)) _ below))

sorted_with : (name : DocName) (o : Option Document) (ds : List (DocName × Document)) → IsTrue (below_all name_cmp name ds) → IsTrue (is_sorted name_cmp ds) → IsTrue (is_sorted name_cmp (with_name name o ds))
unfolding with_name
sorted_with name None ds below rise = rise
sorted_with name (Some d) ds below rise = and_from (below_all name_cmp name ds) (is_sorted name_cmp ds) below rise

sorted_pairs : (t : ℤ) (es : Lists) → IsTrue (is_sorted name_cmp es) → IsTrue (is_sorted name_cmp (pairs t es))
unfolding pairs
sorted_pairs t [] rise = refl
sorted_pairs t (e ∷ es) rise =
    sorted_with e.0 (shown_at t e.1) (pairs t es)
    (below_pairs t e.0 es (first_so _ (is_sorted name_cmp es) rise))
    (sorted_pairs t es (second_so (below_all name_cmp e.0 es) _ rise))

-- ---- and are found

abbrev Finds : ℤ → Lists → DocName → Type 0
Finds t es q = find name_cmp q (pairs t es) ≡ shown_at t (unwrap_or (find name_cmp q es) [])

find_with : (t : ℤ) (es : Lists) (q name : DocName) (vs : List Version) (o : Option Document) (b : Bool) → shown_at t vs ≡ o → eq_by_cmp name_cmp q name ≡ b → (b ≡ true → find name_cmp q es ≡ None) → Finds t es q
    → find name_cmp q (with_name name o (pairs t es)) ≡ shown_at t (unwrap_or (cond b (Some vs) (find name_cmp q es)) [])
unfolding with_name
find_with t es q name vs None true is ties gone more = more ∙ ap (λ x. shown_at t (unwrap_or x [])) (gone refl) ∙ sym is
find_with t es q name vs (Some d) true is ties gone more = ap (λ c. cond c (Some d) (find name_cmp q (pairs t es))) ties ∙ sym is
find_with t es q name vs None false is ties gone more = more
find_with t es q name vs (Some d) false is ties gone more = ap (λ c. cond c (Some d) (find name_cmp q (pairs t es))) ties ∙ more

find_pairs : (t : ℤ) (es : Lists) (q : DocName) → IsTrue (is_sorted name_cmp es) → Finds t es q
unfolding pairs
find_pairs t [] q rise = refl
find_pairs t (e ∷ es) q rise =
    find_with t es q e.0 e.1 (shown_at t e.1) (eq_by_cmp name_cmp q e.0) refl refl
    (λ ties. ap (λ n. find name_cmp n es) (name_is q e.0 ties) ∙ none_below e.0 es (first_so _ (is_sorted name_cmp es) rise))
    (find_pairs t es q (second_so (below_all name_cmp e.0 es) _ rise))

-- ---- the documents of a moment

pub shown_values : (m : FinMap name_cmp (List Version)) (docs : Docs) (t : ℤ) → ((q : DocName) → get docs q ≡ shown_at t (unwrap_or (get m q) [])) → all_shown t (entries m) ≡ values docs
shown_values m docs t shows =
    let es = entries m in
    let rise = to_true _ (entries_sorted m) in
    let found = λ (q : DocName). sym (get-entries docs q) ∙ shows q ∙ ap (λ o. shown_at t (unwrap_or o [])) (get-entries m q) ∙ sym (find_pairs t es q rise) in
    let same = same_entries name_cmp name_cmp_total name_same (entries docs) (pairs t es) (entries_sorted docs) (from_true _ (sorted_pairs t es rise)) found in
    sym (values_pairs t es) ∙ ap (map (λ e. e.1)) (sym same)

-- ---- of a tree

-- an empty chain shows nothing
shown_with : (t : ℤ) (name : DocName) (vs : List Version) (rest : Lists) → all_shown t (with_chain name vs rest) ≡ option_to_list (shown_at t vs) ++ all_shown t rest
shown_with t name [] rest = refl
shown_with t name (v ∷ vs) rest = refl

shown_full : (t : ℤ) (es : Lists) → all_shown t (all_full es) ≡ all_shown t es
shown_full t [] = refl
shown_full t (e ∷ es) = shown_with t e.0 e.1 (all_full es) ∙ ap (λ ds. option_to_list (shown_at t e.1) ++ ds) (shown_full t es)

module _ (p : DocName → Bool) where
  abbrev among : {X : Type 0} → List (DocName × X) → List (DocName × X)
  among es = filter (λ e. p e.0) es

  among_with : (name : DocName) (vs : List Version) (rest : Lists) (b : Bool) → p name ≡ b → among (with_chain name vs rest) ≡ cond b (with_chain name vs (among rest)) (among rest)
  among_with name [] rest true is = refl
  among_with name [] rest false is = refl
  among_with name (v ∷ vs) rest b is = ap (λ c. cond c ((name, v ∷ vs) ∷ among rest) (among rest)) is

  full_at : (e : DocName × List Version) (es : Lists) (b : Bool) → cond b (with_chain e.0 e.1 (all_full es)) (all_full es) ≡ all_full (cond b (e ∷ es) es)
  full_at e es true = refl
  full_at e es false = refl

  among_full : (es : Lists) → among (all_full es) ≡ all_full (among es)
  among_full [] = refl
  among_full (e ∷ es) =
      among_with e.0 e.1 (all_full es) (p e.0) refl
      ∙ ap (λ rest. cond (p e.0) (with_chain e.0 e.1 rest) rest) (among_full es)
      ∙ full_at e (among es) (p e.0)

  among_listed : (tree : Tree) → among (lists_of tree) ≡ lists_of (among tree)
  among_listed [] = refl
  among_listed (e ∷ tree) =
      ap (λ rest. cond (p e.0) ((e.0, e.1.versions) ∷ rest) rest) (among_listed tree) ∙ pushed (p e.0)
    where
      pushed : (b : Bool) → cond b ((e.0, e.1.versions) ∷ lists_of (among tree)) (lists_of (among tree)) ≡ lists_of (cond b (e ∷ among tree) (among tree))
      pushed true = refl
      pushed false = refl

-- what a tree's chains show, those that are empty too
pub shown_tree : (t : ℤ) (tree : Tree) → IsTrue (is_sorted name_cmp tree) → all_shown t (lists_of tree) ≡ all_shown t (entries (chains_of tree))
shown_tree t tree rise = sym (shown_full t (lists_of tree)) ∙ ap (all_shown t) (sym (entries_of tree rise))

-- and those of some names
pub shown_among : (p : DocName → Bool) (t : ℤ) (tree : Tree) → IsTrue (is_sorted name_cmp tree)
    → all_shown t (lists_of (filter (λ e. p e.0) tree)) ≡ all_shown t (filter (λ e. p e.0) (entries (chains_of tree)))
shown_among p t tree rise =
    ap (all_shown t) (sym (among_listed p tree))
    ∙ sym (shown_full t (among p (lists_of tree)))
    ∙ ap (all_shown t) (sym (among_full p (lists_of tree)))
    ∙ ap (λ es. all_shown t (filter (λ e. p e.0) es)) (sym (entries_of tree rise))

-- where no chains are left, the documents so far are all
pub none_left : (t : ℤ) (ds : List Document) (rest : Tree) (whole : List Document) → ds ++ all_shown t (lists_of rest) ≡ whole → rest ≡ [] → ds ≡ whole
none_left t ds rest whole is none = sym (append_nil ds) ∙ ap (λ es. ds ++ all_shown t (lists_of es)) (sym none) ∙ is
  where
    append_nil : (xs : List Document) → xs ++ [] ≡ xs
    append_nil [] = refl
    append_nil (x ∷ xs) = ap (λ ys. x ∷ ys) (append_nil xs)
