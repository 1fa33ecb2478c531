-- Who is found to hold one of several names, or a name in a scope.
use Rattle.std.proofs.Common.{◌≡◌, ℕ, ◌+◌, ◌<◌, ◌≤◌, Bool, true, false, cond, List, [], ◌∷◌, ◌++◌, length, take, get_or, Option, Some, None, refl, sym, ap, ◌∙◌, subst, arith}
use Rattle.std.specs.Prelude.{◌&&◌, ◌||◌, IsTrue, unwrap_or}
use Rattle.std.specs.BTreeMap.{is_at}
use Rattle.std.specs.Cmp.{first_so, second_so}
use Rattle.std.specs.List.{All, list_any}
use Rattle.std.proofs.lemmas.Bool.{or_left, or_right}
use Rattle.std.proofs.lemmas.List.{append-nil, take_all}
use Rattle.std.proofs.Math.Bool.{or-false}
use Rattle.std.proofs.lemmas.List.Elements.{All-tail}
use Rattle.std.proofs.lemmas.List.Folds.{list_any-append, list_any_more}
use Rattle.fs_path.specs.NameOrder.{name_cmp, name_is}
use Rattle.fs_path.specs.Scope.{covers}
use Rattle.fs_path.specs.declared.name.DocName.{DocName}
use Rattle.fs_path.specs.declared.scope.Scope.{Scope}
use Rattle.fs_locks.specs.Holds.{IsLeastOther, lesser_of}
use Rattle.fs_locks.specs.Tree.{Tree, has, found, HoldsIn}
use Rattle.fs_locks.proofs.Ids.{either, least_or}

-- ---- one of several names

pub among_more : (test : ℕ → DocName → Bool) (names : List DocName) (k : ℕ) (name : DocName) (by : ℕ) (a b : Option ℕ) → k < length names → name ≡ get_or names k name
    → IsLeastOther (λ i. IsTrue (list_any (test i) (take k names))) by a → IsLeastOther (λ i. IsTrue (test i name)) by b
    → IsLeastOther (λ i. IsTrue (list_any (test i) (take (k + 1) names))) by (lesser_of a b)
among_more test names k name by a b within is =
    least_or (λ i. list_any (test i) (take k names)) (λ i. test i name) (λ i. list_any (test i) (take (k + 1) names)) by a b
    (λ i. list_any_more (test i) names k name within ∙ ap (λ (x : DocName). list_any (test i) (take k names) || test i x) (sym is))

pub among_all : (test : ℕ → DocName → Bool) (names : List DocName) (k : ℕ) (by : ℕ) (a : Option ℕ) → length names ≤ k → IsLeastOther (λ i. IsTrue (list_any (test i) (take k names))) by a
    → IsLeastOther (λ i. IsTrue (list_any (test i) names)) by a
among_all test names k by a over h = subst (λ ns. IsLeastOther (λ i. IsTrue (list_any (test i) ns)) by a) (take_all k names over) h

-- ---- a name in a scope

-- an id holds the name of an entry that is in a scope
abbrev pub in_entries : Scope → Tree → ℕ → Bool
in_entries scope es i = list_any (λ e. covers scope e.0 && has i e.1) es

-- the entries so far, and the least other id that holds one of theirs
pub record Walked (scope : Scope) (by : ℕ) (all rest : Tree) (first : Option ℕ) : Type 0 where
  pub done : Tree
  pub parts : done ++ rest ≡ all
  pub least : IsLeastOther (λ i. IsTrue (in_entries scope done i)) by first

module _ (scope : Scope) (by : ℕ) (all : Tree) where
  pub walked_none : Walked scope by all all None
  walked_none = record { done = []; parts = refl; least = λ j h. absurd (cc) }

  moved : (done rest : Tree) (e : DocName × List ℕ) → done ++ e ∷ rest ≡ (done ++ e ∷ []) ++ rest
  moved [] rest e = refl
  moved (x ∷ done) rest e = ap (λ es. x ∷ es) (moved done rest e)

  in_more : (done : Tree) (e : DocName × List ℕ) (i : ℕ) → in_entries scope (done ++ e ∷ []) i ≡ (in_entries scope done i || (covers scope e.0 && has i e.1))
  in_more done e i =
      list_any-append (λ e. covers scope e.0 && has i e.1) done (e ∷ [])
      ∙ ap (λ c. in_entries scope done i || c) (or-false (covers scope e.0 && has i e.1))

  pub walked_in : (rest : Tree) (e : DocName × List ℕ) (a b : Option ℕ) → Walked scope by all (e ∷ rest) a → covers scope e.0 ≡ true → IsLeastOther (λ i. IsTrue (has i e.1)) by b
      → Walked scope by all rest (lesser_of a b)
  walked_in rest e a b w in_scope second = record {
    done = w.done ++ e ∷ [];
    parts = sym (moved w.done rest e) ∙ w.parts;
    least =
        least_or (in_entries scope w.done) (λ i. has i e.1) (in_entries scope (w.done ++ e ∷ [])) by a b
        (λ i. in_more w.done e i ∙ ap (λ c. in_entries scope w.done i || (c && has i e.1)) in_scope) w.least second;
  }

  pub walked_over : (rest : Tree) (e : DocName × List ℕ) (a : Option ℕ) → Walked scope by all (e ∷ rest) a → covers scope e.0 ≡ false → Walked scope by all rest a
  walked_over rest e a w out = record {
    done = w.done ++ e ∷ [];
    parts = sym (moved w.done rest e) ∙ w.parts;
    least = subst (λ (p : ℕ → Bool). IsLeastOther (λ i. IsTrue (p i)) by a)
        (λ k i. sym (in_more w.done e i ∙ ap (λ c. in_entries scope w.done i || (c && has i e.1)) out ∙ or-false (in_entries scope w.done i)) k)
        w.least;
  }

-- who holds a name in a scope is found among the entries
in_scope : (scope : Scope) (es : Tree) (i : ℕ) (n : DocName) → IsTrue (covers scope n) → IsTrue (has i (unwrap_or (found n es) [])) → IsTrue (in_entries scope es i)
in_scope scope [] i n covered h = absurd (cc)
in_scope scope (e ∷ es) i n covered h = at (in_scope scope es i n covered) (is_at (name_cmp n) e.0) refl h
  where
    at : (IsTrue (has i (unwrap_or (found n es) [])) → IsTrue (in_entries scope es i)) → (b : Bool) → is_at (name_cmp n) e.0 ≡ b
        → IsTrue (has i (unwrap_or (cond b (Some e.1) (found n es)) [])) → IsTrue (in_entries scope (e ∷ es) i)
    at more true ties h =
        or_left (covers scope e.0 && has i e.1) (in_entries scope es i)
        (ap (λ b. b && has i e.1) (ap (covers scope) (sym (name_is n e.0 ties)) ∙ covered) ∙ h)
    at more false ties h = or_right (covers scope e.0 && has i e.1) (in_entries scope es i) (more h)

-- and who is found there holds one
out_scope : (scope : Scope) (tree es : Tree) (i : ℕ) → All (λ e. found e.0 tree ≡ Some e.1) es → IsTrue (in_entries scope es i) → HoldsIn tree scope i
out_scope scope tree [] i all h = absurd (cc)
out_scope scope tree (e ∷ es) i all h =
    either (covers scope e.0 && has i e.1) (in_entries scope es i) (HoldsIn tree scope i) h
    (λ so.
    (e.0, first_so (covers scope e.0) (has i e.1) so, ap (λ o. has i (unwrap_or o [])) (all 0 e (omega arith)) ∙ second_so (covers scope e.0) (has i e.1) so))
    (out_scope scope tree es i (All-tail (λ e. found e.0 tree ≡ Some e.1) e es all))

pub same_property : (P Q : ℕ → Type 0) (by : ℕ) (a : Option ℕ) → ((i : ℕ) → P i → Q i) → ((i : ℕ) → Q i → P i) → IsLeastOther P by a → IsLeastOther Q by a
same_property P Q by None to from h = λ j q. h j (from j q)
same_property P Q by (Some x) to from h = record { other = h.other; has = to x h.has; least = λ j q apart. h.least j (from j q) apart }

pub walked_all : (scope : Scope) (by : ℕ) (tree rest : Tree) (a : Option ℕ) → All (λ e. found e.0 tree ≡ Some e.1) tree → rest ≡ [] → Walked scope by tree rest a
    → IsLeastOther (HoldsIn tree scope) by a
walked_all scope by tree rest a all over w =
    let whole : w.done ≡ tree = sym (ap (λ es. w.done ++ es) over ∙ append-nil w.done) ∙ w.parts in
    same_property (λ i. IsTrue (in_entries scope tree i)) (HoldsIn tree scope) by a
    (λ i h. out_scope scope tree tree i all h)
    (λ i h. in_scope scope tree i h.0 h.1 h.2)
    (subst (λ es. IsLeastOther (λ i. IsTrue (in_entries scope es i)) by a) whole w.least)
