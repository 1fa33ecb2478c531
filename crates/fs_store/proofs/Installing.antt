-- What versions are after the changes of a commit, and after several.
use Rattle.std.proofs.Common.{◌≡◌, ℕ, ◌+◌, ◌<◌, ℤ, List, [], ◌∷◌, ◌++◌, Option, Some, None, length, take, get_or, refl, sym, ap, ◌∙◌}
use Rattle.std.specs.FinMap.{find}
use Rattle.std.specs.List.{All}
use Rattle.std.proofs.lemmas.List.{reverse-append, take_more}
use Rattle.std.proofs.lemmas.List.Elements.{All-append, All-cons, All-nil}
use Rattle.fs_path.specs.NameOrder.{name_cmp}
use Rattle.fs_path.specs.declared.name.DocName.{DocName}
use Rattle.fs_write.specs.Batch.{changes_by_name, changed_to}
use Rattle.fs_write.specs.declared.change.Change.{Change}
use Rattle.fs_write.specs.declared.timed_change.TimedChange.{TimedChange}
use Rattle.fs_history.specs.Versions.{newest}
use Rattle.fs_history.specs.declared.version.Version.{Version}
use Rattle.fs_versions.specs.Chain.{extended, last_document}
use Rattle.fs_versions.specs.Chains.{Chains, chain_of, installed}
use Rattle.fs_versions.proofs.Extending.{installs}
use Rattle.fs_versions.proofs.TreeLaws.{Rise}
use Rattle.fs_store.specs.Stored.{all_installed}

-- ---- one commit

pub chain_installed : (v : Chains) (cs : List Change) (t : ℤ) (q : DocName) → Rise cs
    → chain_of (installed v cs t) q ≡ extended t (find name_cmp q (changes_by_name cs)) (chain_of v q)
chain_installed v cs t q rise = (installs t v cs rise).chains q

-- what holds of each version so far and of the one that a change leaves
module _ (P : Version → Type 0) where
  pub all_extended : (t : ℤ) (o : Option Change) (chain : List Version) → All P chain → ((c : Change) → o ≡ Some c → P (record { time = t; after = c.after })) → All P (extended t o chain)
  all_extended t None chain ps p = ps
  all_extended t (Some c) chain ps p =
      let v : Version = record { time = t; after = c.after } in
      All-append P chain (v ∷ []) ps (All-cons P v [] (p c refl) (All-nil P))

pub last_extended : (t : ℤ) (o : Option Change) (chain : List Version) → last_document (extended t o chain) ≡ changed_to o (last_document chain)
last_extended t None chain = refl
last_extended t (Some c) chain = ap newest (reverse-append chain (record { time = t; after = c.after } ∷ []))

-- ---- several

pub all_installed-append : (v : Chains) (cs ds : List TimedChange) → all_installed v (cs ++ ds) ≡ all_installed (all_installed v cs) ds
all_installed-append v [] ds = refl
all_installed-append v (c ∷ cs) ds = all_installed-append (installed v c.changes c.time) cs ds

pub all_installed-more : (v : Chains) (cs : List TimedChange) (i : ℕ) (c : TimedChange) → i < length cs → c ≡ get_or cs i c
    → all_installed v (take (i + 1) cs) ≡ installed (all_installed v (take i cs)) c.changes c.time
all_installed-more v cs i c within is =
    ap (all_installed v) (take_more cs i c within ∙ ap (λ (x : TimedChange). take i cs ++ x ∷ []) (sym is))
    ∙ all_installed-append v (take i cs) (c ∷ [])
