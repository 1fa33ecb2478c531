-- What versions are, and what they show, after the changes of a batch.
use Rattle.std.proofs.Common.{◌≡◌, ℕ, ℤ, ◌≤ℤ◌, ◌<ℤ◌, cond, List, [], ◌∷◌, Option, Some, None, reverse, get_or, refl, sym, ap, ◌∙◌, subst, arith}
use Rattle.std.specs.FinMap.{find, same_map}
use Rattle.std.specs.List.{All}
use Rattle.std.proofs.lemmas.Int.{ints}
use Rattle.std.proofs.lemmas.List.{reverse-append}
use Rattle.std.proofs.lemmas.List.Elements.{All-append}
use Rattle.fs_path.specs.NameOrder.{name_cmp, name_cmp_total, name_same}
use Rattle.fs_path.specs.declared.name.DocName.{DocName}
use Rattle.fs_time.proofs.Tests.{after}
use Rattle.fs_write.specs.Batch.{AreChanges, changes_by_name}
use Rattle.fs_write.specs.declared.change.Change.{Change}
use Rattle.fs_history.specs.History.{whole, EndsBefore as HistoryEndsBefore, IsRising}
use Rattle.fs_history.specs.Laws.{ChainShows, ChainEndsWithNewest}
use Rattle.fs_history.specs.Versions.{change_in, with_change, versions, base, kept, chain}
use Rattle.fs_history.specs.declared.batch.Batch.{Batch}
use Rattle.fs_history.specs.declared.version.Version.{Version}
use Rattle.fs_versions.specs.Chain.{extended, shown_at, last_document}
use Rattle.fs_versions.specs.Chains.{Chains, chain_of, Installs, with_changes}
use Rattle.fs_versions.specs.Shows.{EndsAt, Shows}
use Rattle.fs_versions.specs.Sound.{Tree, chain_in, chains_of, held, EndsBy, EndsBefore, HasChanged, SameChains}
use Rattle.fs_versions.proofs.Extending.{extended_at, get-with_changes}
use Rattle.fs_versions.proofs.TreeLaws.{Rise}
use Rattle.fs_versions.proofs.Views.{get_chains}

-- ---- when the chains end

pub ends_same : (old new : Tree) (last : ℤ) → EndsBy old last → SameChains old new → EndsBy new last
ends_same old new last ends same q = subst (All (λ v. v.time ≤ℤ last)) (sym (same q)) (ends q)

pub ends_before : (tree : Tree) (last time : ℤ) → EndsBy tree last → last <ℤ time → EndsBefore tree time
ends_before tree last time ends later q k d within = let by = ends q k d within in omega (arith, ints)

ends_later : (vs : List Version) (last time : ℤ) → All (λ v. v.time ≤ℤ last) vs → last <ℤ time → All (λ v. v.time ≤ℤ time) vs
ends_later vs last time ends later k d within = let by = ends k d within in omega (arith, ints)

last_alone : (time : ℤ) (v : Version) → v.time ≡ time → All (λ v. v.time ≤ℤ time) (v ∷ [])
last_alone time v is k d within = let first : k ≡ 0 = omega arith in subst (λ (n : ℕ). (get_or (v ∷ []) n d).time ≤ℤ time) (sym first) (omega (arith, ints))

ends_extended : (last time : ℤ) (o : Option Change) (vs : List Version) → All (λ v. v.time ≤ℤ last) vs → last <ℤ time → All (λ v. v.time ≤ℤ time) (extended time o vs)
ends_extended last time None vs ends later = ends_later vs last time ends later
ends_extended last time (Some c) vs ends later =
    let v : Version = record { time = time; after = c.after } in
    All-append (λ v. v.time ≤ℤ time) vs (v ∷ []) (ends_later vs last time ends later) (last_alone time v refl)

pub ends_more : (old new : Tree) (cs : List Change) (last time : ℤ) → EndsBy old last → last <ℤ time → HasChanged old new cs time → EndsBy new time
ends_more old new cs last time ends later has q =
    subst (All (λ v. v.time ≤ℤ time)) (sym (has q)) (ends_extended last time (find name_cmp q (changes_by_name cs)) (chain_in q old) (ends q) later)

-- ---- the chains that contracts see

held_extended : (time : ℤ) (o : Option Change) (vs : List Version) → held (extended time o vs) ≡ extended_at time o (held vs)
held_extended time None vs = refl
held_extended time (Some c) [] = refl
held_extended time (Some c) (v ∷ vs) = refl

pub installed_view : (old new : Tree) (cs : List Change) (time : ℤ) → Rise cs → HasChanged old new cs time → chains_of new ≡ with_changes (chains_of old) cs time
installed_view old new cs time rise has =
    same_map name_cmp_total name_same (chains_of new) (with_changes (chains_of old) cs time)
    (λ q. get_chains new q
    ∙ ap held (has q)
    ∙ held_extended time (find name_cmp q (changes_by_name cs)) (chain_in q old)
    ∙ ap (extended_at time (find name_cmp q (changes_by_name cs))) (sym (get_chains old q))
    ∙ sym (get-with_changes time (chains_of old) cs q rise))

-- ---- and what they show

chain_more : (f t : ℤ) (o : Option Change) (vs : List Version) → f <ℤ t → extended t o (reverse (kept f vs)) ≡ reverse (kept f (with_change t o vs))
chain_more f t None vs above = refl
chain_more f t (Some c) vs above =
    let v : Version = record { time = t; after = c.after } in
    sym (reverse-append (v ∷ []) (kept f vs)) ∙ ap (λ b. reverse (cond b (base v) (v ∷ kept f vs))) (sym (after t f above))

ends_at : (h : List Batch) (last time : ℤ) → EndsAt h last → last <ℤ time → HistoryEndsBefore h time
ends_at [] last time ends later = tt
ends_at (b ∷ h) last time ends later = let same : b.time ≡ last = ends in omega (arith, ints)

module _ (old new : Chains) (cs : List Change) (time : ℤ) (done : Installs old new cs time) (above : old.floor <ℤ time) (later : old.last <ℤ time)
    (h : List Batch) (b : Batch) (shows : Shows h old) (same : b.time ≡ time) (changes : AreChanges (whole h) (whole (b ∷ h)) cs) where
  rising_more : IsRising (b ∷ h)
  rising_more = (subst (HistoryEndsBefore h) (sym same) (ends_at h old.last time shows.last later), shows.rising)

  chains_more : (q : DocName) → chain_of new q ≡ chain (b ∷ h) new.floor q
  chains_more q =
      done.chains q
      ∙ ap (λ o. extended time o (chain_of old q)) (changes.told q)
      ∙ ap (extended time (change_in b h q)) (shows.chains q)
      ∙ chain_more old.floor time (change_in b h q) (versions h q) above
      ∙ ap (λ t. reverse (kept old.floor (with_change t (change_in b h q) (versions h q)))) (sym same)
      ∙ ap (λ f. chain (b ∷ h) f q) (sym done.floor)

  pub shows_more : ChainShows → ChainEndsWithNewest → Shows (b ∷ h) new
  shows_more law law_newest = record {
    rising = rising_more;
    last = same ∙ sym done.last;
    chains = chains_more;
    documents = λ t q within. law (b ∷ h) new.floor t q rising_more within ∙ ap (shown_at t) (sym (chains_more q));
    newest = λ q. law_newest (b ∷ h) new.floor q ∙ ap last_document (sym (chains_more q));
  }
