-- What versions are, and what they show, from a later floor on.
use Rattle.std.proofs.Common.{◌≡◌, ℤ, ◌≤ℤ◌, Bool, true, false, cond, List, [], ◌∷◌, map, Some, None, reverse, refl, sym, ap, ◌∙◌, subst, arith}
use Rattle.std.specs.Prelude.{IsTrue, unwrap_or, is_some}
use Rattle.std.specs.BTreeMap.{is_at}
use Rattle.std.specs.Option.{option_map}
use Rattle.std.specs.Cmp.{first_so, second_so}
use Rattle.std.specs.FinMap.{entries, entries_sorted, find, from_entries, get-entries, get-from_entries, is_sorted, same_map}
use Rattle.std.specs.FinMap.Entries.{below_all}
use Rattle.std.specs.List.{All}
use Rattle.std.specs.Map.Calls.{RetainsPairs}
use Rattle.std.proofs.lemmas.Int.{ints}
use Rattle.std.proofs.lemmas.List.{reverse-reverse}
use Rattle.fs_path.proofs.Bools.{to_true}
use Rattle.fs_path.specs.NameOrder.{name_cmp, name_cmp_total, name_is, name_same}
use Rattle.fs_path.specs.declared.name.DocName.{DocName}
use Rattle.fs_history.specs.Versions.{versions, kept, chain}
use Rattle.fs_history.specs.declared.batch.Batch.{Batch}
use Rattle.fs_history.specs.declared.version.Version.{Version}
use Rattle.fs_history.proofs.Names.{none_below}
use Rattle.fs_versions.specs.Chain.{shown_at, last_document, cut}
use Rattle.fs_versions.specs.Chained.{Chained}
use Rattle.fs_versions.specs.Chains.{Chains, Compacts, all_full, chain_of}
use Rattle.fs_versions.specs.Shows.{EndsAt, Shows}
use Rattle.fs_versions.specs.Sound.{Tree, found, chained, chain_in, chains_of, held, EndsBy}
use Rattle.fs_versions.proofs.ChainLaws.{kept_kept, shown_cut, last_cut}
use Rattle.fs_versions.proofs.Views.{find-full, find-map, found-find, get_chains, rise_map}
use Rattle.fs_versions.proofs.Cutting.{all_left}

-- ---- a name's chain afterwards

gone : (e : DocName × Chained) (es : Tree) (q : DocName) → is_at (name_cmp q) e.0 ≡ true → IsTrue (below_all name_cmp e.0 es) → found q es ≡ None
gone e es q ties below =
    found-find es q ∙ ap (λ n. find name_cmp n es) (name_is q e.0 ties) ∙ none_below e.0 es below

none_held : (vs : List Version) → is_some (held vs) ≡ false → vs ≡ []
none_held [] is = refl
none_held (v ∷ vs) is = absurd (cc)

module _ (f : ℤ) (q : DocName) where
  next_kept : (e : DocName × Chained) (es rest : Tree) (b c : Bool) (w : Chained) → b ≡ is_some (held w.versions) → w.versions ≡ cut f e.1.versions → is_at (name_cmp q) e.0 ≡ c
      → (c ≡ true → found q es ≡ None) → (chained (found q rest)).versions ≡ cut f ((chained (found q es)).versions) → (chained (found q (cond b ((e.0, w) ∷ rest) rest))).versions ≡ cut f ((chained (cond c (Some e.1) (found q es))).versions)
  next_kept e es rest true true w stays is ties none more = ap (λ b. (chained (cond b (Some w) (found q rest))).versions) ties ∙ is
  next_kept e es rest true false w stays is ties none more = ap (λ b. (chained (cond b (Some w) (found q rest))).versions) ties ∙ more
  next_kept e es rest false true w stays is ties none more =
      more ∙ ap (λ o. cut f (chained o).versions) (none refl) ∙ sym (none_held w.versions (sym stays)) ∙ is
  next_kept e es rest false false w stays is ties none more = more

  module _ {F : Type 0} (T : F → DocName → Chained → Bool → Chained → F → Type 0) (g : F)
      (says : (k : DocName) (v : Chained) (b : Bool) (w : Chained) (g' : F) → T g k v b w g' → (b ≡ is_some (held w.versions)) × (w.versions ≡ cut f v.versions) × (g' ≡ g)) where
    pub chain_kept : (es kept : Tree) → RetainsPairs T g es kept → IsTrue (is_sorted name_cmp es) → chain_in q kept ≡ cut f (chain_in q es)
    chain_kept [] kept r rise = ap (λ t. (chained (found q t)).versions) r
    chain_kept (e ∷ es) kept r rise =
        let said = says e.0 e.1 r.0 r.1 r.2 r.4 in
        let more = chain_kept es r.3 (subst (λ u. RetainsPairs T u es r.3) said.2 r.5) (second_so (below_all name_cmp e.0 es) _ rise) in
        ap (λ t. (chained (found q t)).versions) r.6
        ∙ next_kept e es r.3 r.0 (is_at (name_cmp q) e.0) r.1 said.0 said.1 refl (λ ties. gone e es q ties (first_so _ (is_sorted name_cmp es) rise)) more

pub ends_cut : (old new : Tree) (f last : ℤ) → EndsBy old last → ((q : DocName) → chain_in q new ≡ cut f (chain_in q old)) → EndsBy new last
ends_cut old new f last ends same q =
    subst (All (λ v. v.time ≤ℤ last)) (sym (same q)) (all_left (λ v. v.time ≤ℤ last) f (chain_in q old) (ends q))

-- ---- the chains that contracts see

held_cut : (f : ℤ) (vs : List Version) → held (cut f vs) ≡ held (unwrap_or (option_map (cut f) (held vs)) [])
held_cut f [] = refl
held_cut f (v ∷ vs) = refl

pub compacted_view : (f : ℤ) (old new : Tree) → ((q : DocName) → chain_in q new ≡ cut f (chain_in q old))
    → chains_of new ≡ from_entries (all_full (map (λ e. (e.0, cut f e.1)) (entries (chains_of old))))
compacted_view f old new same =
    let m = chains_of old in
    let es = map (λ (e : DocName × List Version). (e.0, cut f e.1)) (entries m) in
    same_map name_cmp_total name_same (chains_of new) (from_entries (all_full es))
    (λ q. get_chains new q
    ∙ ap held (same q)
    ∙ held_cut f (chain_in q old)
    ∙ ap (λ o. held (unwrap_or (option_map (cut f) o) [])) (sym (get_chains old q) ∙ get-entries m q)
    ∙ ap (λ o. held (unwrap_or o [])) (sym (find-map (cut f) (entries m) q))
    ∙ sym (find-full es q (rise_map (cut f) (entries m) (to_true _ (entries_sorted m))))
    ∙ sym (get-from_entries name_cmp_total (all_full es) q))

-- ---- and show the same

cut_chain : (h : List Batch) (f t : ℤ) (q : DocName) → f ≤ℤ t → cut t (chain h f q) ≡ chain h t q
cut_chain h f t q within =
    ap (λ vs. reverse (kept t vs)) (reverse-reverse (kept f (versions h q))) ∙ ap reverse (kept_kept f t (versions h q) within)

module _ (old new : Chains) (floor : ℤ) (done : Compacts old new floor) (within : old.floor ≤ℤ floor) (h : List Batch) (shows : Shows h old) where
  pub shows_cut : Shows h new
  shows_cut = record {
    rising = shows.rising;
    last = subst (EndsAt h) (sym done.last) shows.last;
    chains = λ q. done.chains q ∙ ap (cut floor) (shows.chains q) ∙ cut_chain h old.floor floor q within ∙ ap (λ f. chain h f q) (sym done.to);
    documents = λ t q high.
        let reached : floor ≤ℤ t = subst (λ f. f ≤ℤ t) done.to high in
        let from : old.floor ≤ℤ t = omega (arith, ints) in
        shows.documents t q from ∙ sym (shown_cut floor t (chain_of old q) reached) ∙ ap (shown_at t) (sym (done.chains q));
    newest = λ q. shows.newest q ∙ sym (last_cut floor (chain_of old q)) ∙ ap last_document (sym (done.chains q));
  }
