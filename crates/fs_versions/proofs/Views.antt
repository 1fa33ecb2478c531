-- What a tree holds as contracts see it.
use Rattle.std.proofs.Common.{◌≡◌, Bool, true, false, List, [], ◌∷◌, map, cond, Option, Some, None, refl, sym, ap, ◌∙◌}
use Rattle.std.specs.Prelude.{IsTrue, unwrap_or}
use Rattle.std.specs.Option.{option_map}
use Rattle.std.specs.BTreeMap.{is_at}
use Rattle.std.specs.Cmp.{first_so, second_so}
use Rattle.std.specs.FinMap.{empty, entries, entries_sorted, find, from_entries, get, get-empty, get-entries, get-from_entries, is_sorted, same_map}
use Rattle.std.specs.FinMap.Entries.{below_all}
use Rattle.std.specs.Ordering.{eq_by_cmp, is_lt}
use Rattle.std.proofs.lemmas.Bool.{and_from}
use Rattle.fs_path.proofs.Bools.{to_true}
use Rattle.fs_path.specs.NameOrder.{name_cmp, name_cmp_total, name_is, name_same}
use Rattle.fs_path.specs.declared.name.DocName.{DocName}
use Rattle.fs_value.proofs.Tree.{entries_rising}
use Rattle.fs_history.specs.declared.version.Version.{Version}
use Rattle.fs_history.proofs.Names.{none_below}
use Rattle.fs_versions.specs.Chain.{shown_at, last_document}
use Rattle.fs_versions.specs.Chained.{Chained}
use Rattle.fs_versions.specs.Chains.{Chains, all_full, chain_of, with_chain}
use Rattle.fs_versions.specs.Room.{room_of}
use Rattle.fs_versions.specs.Shows.{Shows}
use Rattle.fs_versions.specs.Sound.{Tree, found, chained, chain_in, chains_of, held, lists_of, room_in, rooms_of, SameChains}

-- ---- what stands at a name

pub found-find : (es : Tree) (q : DocName) → found q es ≡ find name_cmp q es
found-find [] q = refl
found-find (e ∷ es) q = ap (cond (is_at (name_cmp q) e.0) (Some e.1)) (found-find es q)

module _ {X Y : Type 0} (f : X → Y) where
  map_at : (b : Bool) (x : X) (o : Option X) (p : Option Y) → p ≡ option_map f o → cond b (Some (f x)) p ≡ option_map f (cond b (Some x) o)
  map_at true x o p is = refl
  map_at false x o p is = is

  pub find-map : (es : List (DocName × X)) (q : DocName) → find name_cmp q (map (λ e. (e.0, f e.1)) es) ≡ option_map f (find name_cmp q es)
  find-map [] q = refl
  find-map (e ∷ es) q = map_at (eq_by_cmp name_cmp q e.0) e.1 (find name_cmp q es) (find name_cmp q (map (λ e. (e.0, f e.1)) es)) (find-map es q)

  below_map : (k : DocName) (es : List (DocName × X)) → IsTrue (below_all name_cmp k es) → IsTrue (below_all name_cmp k (map (λ e. (e.0, f e.1)) es))
  below_map k [] below = refl
  below_map k (e ∷ es) below =
      and_from (is_lt (name_cmp k e.0)) _ (first_so _ (below_all name_cmp k es) below) (below_map k es (second_so (is_lt (name_cmp k e.0)) _ below))

  pub rise_map : (es : List (DocName × X)) → IsTrue (is_sorted name_cmp es) → IsTrue (is_sorted name_cmp (map (λ e. (e.0, f e.1)) es))
  rise_map [] rise = refl
  rise_map (e ∷ es) rise =
      and_from (below_all name_cmp e.0 (map (λ e. (e.0, f e.1)) es)) _
      (below_map e.0 es (first_so _ (is_sorted name_cmp es) rise))
      (rise_map es (second_so (below_all name_cmp e.0 es) _ rise))

chain_at : (o : Option Chained) → unwrap_or (option_map (λ (c : Chained). c.versions) o) [] ≡ (chained o).versions
chain_at None = refl
chain_at (Some c) = refl

room_at : (o : Option Chained) → unwrap_or (option_map (λ (c : Chained). c.room) o) 0 ≡ (chained o).room
room_at None = refl
room_at (Some c) = refl

chain_listed : (tree : Tree) (q : DocName) → unwrap_or (find name_cmp q (lists_of tree)) [] ≡ chain_in q tree
chain_listed tree q =
    ap (λ o. unwrap_or o []) (find-map (λ (c : Chained). c.versions) tree q)
    ∙ chain_at (find name_cmp q tree)
    ∙ ap (λ o. (chained o).versions) (sym (found-find tree q))

pub room_get : (tree : Tree) (q : DocName) → room_of (rooms_of tree) q ≡ room_in q tree
room_get tree q =
    ap (λ o. unwrap_or o 0) (get-from_entries name_cmp_total (map (λ e. (e.0, e.1.room)) tree) q ∙ find-map (λ (c : Chained). c.room) tree q)
    ∙ room_at (find name_cmp q tree)
    ∙ ap (λ o. (chained o).room) (sym (found-find tree q))

-- ---- the chains that aren't empty

full_at : (b : Bool) (name : DocName) (vs : List Version) (q : DocName) (there : Option (List Version)) (rest : List (DocName × List Version)) → eq_by_cmp name_cmp q name ≡ b
    → (b ≡ true → there ≡ None) → find name_cmp q rest ≡ held (unwrap_or there []) → find name_cmp q (with_chain name vs rest) ≡ held (unwrap_or (cond b (Some vs) there) [])
full_at true name [] q there rest ties none more = more ∙ ap (λ o. held (unwrap_or o [])) (none refl)
full_at true name (v ∷ vs) q there rest ties none more = ap (λ b. cond b (Some (v ∷ vs)) (find name_cmp q rest)) ties
full_at false name [] q there rest ties none more = more
full_at false name (v ∷ vs) q there rest ties none more = ap (λ b. cond b (Some (v ∷ vs)) (find name_cmp q rest)) ties ∙ more

pub find-full : (es : List (DocName × List Version)) (q : DocName) → IsTrue (is_sorted name_cmp es) → find name_cmp q (all_full es) ≡ held (unwrap_or (find name_cmp q es) [])
find-full [] q rise = refl
find-full (e ∷ es) q rise =
    full_at (eq_by_cmp name_cmp q e.0) e.0 e.1 q (find name_cmp q es) (all_full es) refl
    (λ ties. ap (λ n. find name_cmp n es) (name_is q e.0 ties) ∙ none_below e.0 es (first_so _ (is_sorted name_cmp es) rise))
    (find-full es q (second_so (below_all name_cmp e.0 es) _ rise))

below_with : (k name : DocName) (vs : List Version) (rest : List (DocName × List Version)) → IsTrue (is_lt (name_cmp k name)) → IsTrue (below_all name_cmp k rest) → IsTrue (below_all name_cmp k (with_chain name vs rest))
below_with k name [] rest less below = below
below_with k name (v ∷ vs) rest less below = and_from (is_lt (name_cmp k name)) (below_all name_cmp k rest) less below

below_full : (k : DocName) (es : List (DocName × List Version)) → IsTrue (below_all name_cmp k es) → IsTrue (below_all name_cmp k (all_full es))
below_full k [] below = refl
below_full k (e ∷ es) below =
    below_with k e.0 e.1 (all_full es) (first_so _ (below_all name_cmp k es) below) (below_full k es (second_so (is_lt (name_cmp k e.0)) _ below))

rise_with : (name : DocName) (vs : List Version) (rest : List (DocName × List Version)) → IsTrue (below_all name_cmp name rest) → IsTrue (is_sorted name_cmp rest) → IsTrue (is_sorted name_cmp (with_chain name vs rest))
rise_with name [] rest below rise = rise
rise_with name (v ∷ vs) rest below rise = and_from (below_all name_cmp name rest) (is_sorted name_cmp rest) below rise

rise_full : (es : List (DocName × List Version)) → IsTrue (is_sorted name_cmp es) → IsTrue (is_sorted name_cmp (all_full es))
rise_full [] rise = refl
rise_full (e ∷ es) rise =
    rise_with e.0 e.1 (all_full es)
    (below_full e.0 es (first_so _ (is_sorted name_cmp es) rise))
    (rise_full es (second_so (below_all name_cmp e.0 es) _ rise))

pub held_chain : (vs : List Version) → unwrap_or (held vs) [] ≡ vs
held_chain [] = refl
held_chain (v ∷ vs) = refl

pub never_empty : (vs : List Version) → held vs ≡ Some [] → ⊥
never_empty [] is = absurd (cc)
never_empty (v ∷ vs) is = let none = ap (λ o. unwrap_or o []) is in absurd (cc)

module _ (tree : Tree) where
  pub get_chains : (q : DocName) → get (chains_of tree) q ≡ held (chain_in q tree)
  get_chains q =
      let m = from_entries {R = name_cmp} (lists_of tree) in
      get-from_entries name_cmp_total (all_full (entries m)) q
      ∙ find-full (entries m) q (to_true _ (entries_sorted m))
      ∙ ap (λ o. held (unwrap_or o [])) (sym (get-entries m q) ∙ get-from_entries name_cmp_total (lists_of tree) q)
      ∙ ap held (chain_listed tree q)

  pub chain_get : (q : DocName) → unwrap_or (get (chains_of tree) q) [] ≡ chain_in q tree
  chain_get q = ap (λ o. unwrap_or o []) (get_chains q) ∙ held_chain (chain_in q tree)

  pub entries_of : IsTrue (is_sorted name_cmp tree) → entries (chains_of tree) ≡ all_full (lists_of tree)
  entries_of rise =
      let m = from_entries {R = name_cmp} (lists_of tree) in
      entries_rising name_cmp_total (all_full (entries m)) (rise_full (entries m) (to_true _ (entries_sorted m)))
      ∙ ap all_full (entries_rising name_cmp_total (lists_of tree) (rise_map (λ (c : Chained). c.versions) tree rise))

pub same_view : (old new : Tree) → SameChains old new → chains_of new ≡ chains_of old
same_view old new same =
    same_map name_cmp_total name_same (chains_of new) (chains_of old) (λ q. get_chains new q ∙ ap held (same q) ∙ sym (get_chains old q))

-- ---- no versions

pub no_chains : chains_of [] ≡ empty
no_chains = ap (λ es. from_entries {R = name_cmp} (all_full es)) (entries_rising {X = List Version} name_cmp_total [] refl)

none_of : (v : Chains) (q : DocName) → v.by_name ≡ empty → chain_of v q ≡ []
none_of v q none = ap (λ m. unwrap_or (get m q) []) none ∙ ap (λ o. unwrap_or o []) (get-empty name_cmp q)

pub shows_none : (v : Chains) → v.by_name ≡ empty → Shows [] v
shows_none v none = record {
  rising = tt;
  last = tt;
  chains = λ q. none_of v q none;
  documents = λ t q within. get-empty name_cmp q ∙ sym (ap (shown_at t) (none_of v q none));
  newest = λ q. get-empty name_cmp q ∙ sym (ap last_document (none_of v q none));
}
