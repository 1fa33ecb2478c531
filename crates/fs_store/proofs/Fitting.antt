-- A test of a release, commit by commit and change by change: what is left decides.
use Rattle.std.proofs.Common.{◌≡◌, ℕ, suc, ◌+◌, ◌<◌, ◌≤◌, ℤ, ◌≤ℤ◌, ◌<ℤ◌, ◌-◌, true, false, List, [], ◌∷◌, ◌++◌, length, take, drop, get_or, refl, sym, ap, ◌∙◌, subst, arith, add-one, drop-cons}
use Rattle.std.specs.Prelude.{IsTrue, ◌↔◌}
use Rattle.std.specs.Cmp.{first_so, second_so}
use Rattle.std.specs.FinMap.{find, is_sorted}
use Rattle.std.specs.FinMap.Entries.{below_all}
use Rattle.std.specs.Ordering.{is_lt}
use Rattle.std.specs.declared.cmp.Ordering.TheVariants.{Less}
use Rattle.std.proofs.lemmas.Int.{ints}
use Rattle.std.proofs.lemmas.List.{drop_all}
use Rattle.std.proofs.lemmas.List.Elements.{All-append, All-cons, All-nil}
use Rattle.std.proofs.lemmas.List.{take_more}
use Rattle.std.proofs.lemmas.Bool.{and_from}
use Rattle.fs_path.specs.NameOrder.{name_cmp, name_cmp_total}
use Rattle.fs_path.specs.declared.name.DocName.{DocName}
use Rattle.fs_path.proofs.Orders.{less_is}
use Rattle.fs_write.specs.Batch.{changes_by_name, changed_to}
use Rattle.fs_write.specs.declared.change.Change.{Change}
use Rattle.fs_write.specs.declared.timed_change.TimedChange.{TimedChange}
use Rattle.fs_versions.specs.Chain.{last_document}
use Rattle.fs_versions.specs.Chains.{Chains, chain_of}
use Rattle.fs_versions.proofs.TreeLaws.{Rise}
use Rattle.fs_store.specs.Stored.{all_installed}
use Rattle.fs_store.specs.Fits.{AreAllNext, AreNext, TimesRise}
use Rattle.fs_store.specs.Held.{NamesRise}
use Rattle.fs_store.proofs.Installing.{all_installed-more, chain_installed, last_extended}

-- ---- answers

pub is_no : {P : Type 0} → (P → ⊥) → IsTrue false ↔ P
is_no none = (λ e. absurd (cc), λ p. absurd (none p))

pub is_yes : {P : Type 0} → P → IsTrue true ↔ P
is_yes p = (λ e. p, λ q. refl)

pub through : {A B C : Type 0} → (A ↔ B) → (B ↔ C) → (A ↔ C)
through f g = (λ a. g.0 (f.0 a), λ c. f.1 (g.1 c))

pub rest_is : {X : Type 0} (xs : List X) (i : ℕ) (x : X) → i < length xs → x ≡ get_or xs i x → drop i xs ≡ x ∷ drop (i + 1) xs
rest_is xs i x within is =
    drop-cons xs i x within ∙ ap (λ y. y ∷ drop (suc i) xs) (sym is) ∙ ap (λ k. x ∷ drop k xs) (sym (add-one i))

-- ---- times

not_above : (a b : ℤ) → a ≤ℤ b → b <ℤ a → ⊥
not_above a b low above = omega (arith, ints)

module _ (all : List TimedChange) (i : ℕ) (c : TimedChange) (within : i < length all) (is : c ≡ get_or all i c) where
  pub times_more : (from last to : ℤ) → last <ℤ c.time → (TimesRise from to all ↔ TimesRise last to (drop i all))
      → (TimesRise from to all ↔ TimesRise c.time to (drop (i + 1) all))
  times_more from last to above so = (
    λ t. (subst (TimesRise last to) (rest_is all i c within is) (so.0 t)).1,
    λ t. so.1 (subst (TimesRise last to) (sym (rest_is all i c within is)) (above, t)),
  )

  pub times_stop : (from last to : ℤ) → c.time ≤ℤ last → (TimesRise from to all ↔ TimesRise last to (drop i all)) → IsTrue false ↔ TimesRise from to all
  times_stop from last to low so =
      is_no (λ t. not_above c.time last low (subst (TimesRise last to) (rest_is all i c within is) (so.0 t)).0)

  -- ---- commits

  pub next_more : (v : Chains) → AreAllNext (all_installed v (take i all)) c.changes → (AreNext v all ↔ AreNext (all_installed v (take i all)) (drop i all))
      → (AreNext v all ↔ AreNext (all_installed v (take (i + 1) all)) (drop (i + 1) all))
  next_more v next so =
      let w = all_installed v (take i all) in
      let rest = rest_is all i c within is in
      let more = all_installed-more v all i c within is in (
        λ t. subst (λ u. AreNext u (drop (i + 1) all)) (sym more) (subst (AreNext w) rest (so.0 t)).1,
        λ t. so.1 (subst (AreNext w) (sym rest) (next, subst (λ u. AreNext u (drop (i + 1) all)) more t)),
      )

  pub next_stop : (v : Chains) → (AreAllNext (all_installed v (take i all)) c.changes → ⊥) → (AreNext v all ↔ AreNext (all_installed v (take i all)) (drop i all))
      → IsTrue false ↔ AreNext v all
  next_stop v none so = is_no (λ t. none (subst (AreNext (all_installed v (take i all))) (rest_is all i c within is) (so.0 t)).0)

  pub names_more : NamesRise (take i all) → Rise c.changes → NamesRise (take (i + 1) all)
  names_more rise here =
      subst NamesRise (sym (take_more all i c within ∙ ap (λ (x : TimedChange). take i all ++ x ∷ []) (sym is)))
      (All-append (λ x. Rise x.changes) (take i all) (c ∷ []) rise (All-cons (λ x. Rise x.changes) c [] here (All-nil (λ x. Rise x.changes))))

  -- the newest document of a name with a commit, from its change of the name, if it has one
  pub newest_more : (v : Chains) (q : DocName) → Rise c.changes
      → last_document (chain_of (all_installed v (take (i + 1) all)) q)
      ≡ changed_to (find name_cmp q (changes_by_name c.changes)) (last_document (chain_of (all_installed v (take i all)) q))
  newest_more v q rise =
      let w = all_installed v (take i all) in
      ap (λ u. last_document (chain_of u q)) (all_installed-more v all i c within is)
      ∙ ap last_document (chain_installed w c.changes c.time q rise)
      ∙ last_extended c.time (find name_cmp q (changes_by_name c.changes)) (chain_of w q)

pub times_end : (from last to : ℤ) (all : List TimedChange) (i : ℕ) → length all ≤ i → (TimesRise from to all ↔ TimesRise last to (drop i all)) → (last ≤ℤ to) ↔ TimesRise from to all
times_end from last to all i past so =
    let none = drop_all i all past in
    (λ t. so.1 (subst (TimesRise last to) (sym none) t), λ t. subst (TimesRise last to) none (so.0 t))

pub next_end : (v w : Chains) (all : List TimedChange) (i : ℕ) → length all ≤ i → (AreNext v all ↔ AreNext w (drop i all)) → AreNext v all
next_end v w all i past so = so.1 (subst (AreNext w) (sym (drop_all i all past)) tt)

-- ---- names that rise

below_through : (x y : DocName) (cs : List Change) → name_cmp x y ≡ Less → IsTrue (below_all name_cmp y (changes_by_name cs)) → IsTrue (below_all name_cmp x (changes_by_name cs))
below_through x y [] less below = refl
below_through x y (c ∷ cs) less below =
    and_from (is_lt (name_cmp x c.name)) _
    (ap is_lt (name_cmp_total.trans x y c.name less (less_is _ (first_so _ (below_all name_cmp y (changes_by_name cs)) below))))
    (below_through x y cs less (second_so (is_lt (name_cmp y c.name)) _ below))

-- one more in front
pub rise_cons : (a b : Change) (cs : List Change) → name_cmp a.name b.name ≡ Less → Rise (b ∷ cs) ↔ Rise (a ∷ b ∷ cs)
rise_cons a b cs less = (
  λ rise. and_from (below_all name_cmp a.name (changes_by_name (b ∷ cs))) _
      (and_from (is_lt (name_cmp a.name b.name)) _ (ap is_lt less) (below_through a.name b.name cs less (first_so _ (is_sorted name_cmp (changes_by_name cs)) rise)))
      rise,
  λ rise. second_so (below_all name_cmp a.name (changes_by_name (b ∷ cs))) _ rise,
)

pub not_rise : (a b : Change) (cs : List Change) → (name_cmp a.name b.name ≡ Less → ⊥) → Rise (a ∷ b ∷ cs) → ⊥
not_rise a b cs not rise =
    not (less_is _ (first_so _ (below_all name_cmp a.name (changes_by_name cs)) (first_so _ (is_sorted name_cmp (changes_by_name (b ∷ cs))) rise)))

pub few_rise : (cs : List Change) → length cs ≤ 1 → Rise cs
few_rise [] few = refl
few_rise (a ∷ []) few = refl
few_rise (a ∷ b ∷ cs) few = absurd (omega arith)

module _ (all : List Change) (i : ℕ) (a b : Change) (some : 1 ≤ i) (within : i < length all) (first : a ≡ get_or all (i - 1) a) (second : b ≡ get_or all i b) where
  both_left : drop (i - 1) all ≡ a ∷ b ∷ drop (i + 1) all
  both_left =
      let here : i - 1 + 1 ≡ i = omega arith in
      rest_is all (i - 1) a (omega arith) first ∙ ap (λ k. a ∷ drop k all) here ∙ ap (λ cs. a ∷ cs) (rest_is all i b within second)

  pub rise_more : name_cmp a.name b.name ≡ Less → (Rise all ↔ Rise (drop (i - 1) all)) → (Rise all ↔ Rise (drop (i + 1 - 1) all))
  rise_more less so =
      let step = rise_cons a b (drop (i + 1) all) less in
      let rest : drop (i + 1 - 1) all ≡ b ∷ drop (i + 1) all =
      let here : i + 1 - 1 ≡ i = omega arith in ap (λ k. drop k all) here ∙ rest_is all i b within second in
      (λ r. subst Rise (sym rest) (step.1 (subst Rise both_left (so.0 r))), λ r. so.1 (subst Rise (sym both_left) (step.0 (subst Rise rest r))))

  pub rise_stop : (name_cmp a.name b.name ≡ Less → ⊥) → (Rise all ↔ Rise (drop (i - 1) all)) → IsTrue false ↔ Rise all
  rise_stop none so = is_no (λ r. not_rise a b (drop (i + 1) all) none (subst Rise both_left (so.0 r)))
