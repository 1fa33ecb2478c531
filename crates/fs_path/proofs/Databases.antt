-- What holds of the names of databases.
use Rattle.std.proofs.Common.{Err, ◌≡◌, ◌↔◌, ℕ, not, List, [], ◌∷◌, ◌++◌, Some, Ok, codes, refl, ap, sym, ◌∙◌, subst}
use Rattle.std.proofs.lemmas.List.{append-nil}
use Rattle.fs_path.specs.declared.name.Root.{Root}
use Rattle.fs_path.specs.declared.name.DocName.{DocName}
use Rattle.fs_path.specs.declared.error.PathError.TheVariants.{BadPrefix, WrongDatabase}
use Rattle.fs_path.specs.Spelling.{database_text, nothing, is_of, IsLabel}
use Rattle.fs_path.specs.Document.{under}
use Rattle.fs_path.specs.Database.{database_of, IsDatabase}
use Rattle.fs_path.proofs.Spellings.{Reads, of_database, text_of, judged_found, judged_only, judged_prefix}
use Rattle.fs_path.proofs.Accepted.{is_root}
use Rattle.fs_path.proofs.Documents.{of_root}

abbrev root_of : DocName → Root
root_of n = record { project = n.project; database = n.database }

no_ids : (ids : List (List ℕ)) → nothing ids ≡ Some ids → ids ≡ []
no_ids [] h = refl
no_ids (id ∷ ids) h = cc

text_without_ids : (n : DocName) → n.ids ≡ [] → text_of of_database n ≡ database_text (root_of n)
text_without_ids n h = ap (λ ids. text_of of_database (record { project = n.project; database = n.database; ids = ids })) h ∙ ap (λ d. codes "projects/" ++ (n.project ++ (codes "/databases/" ++ d))) (append-nil n.database)

reads_of : (text : List ℕ) (r : Root) → IsDatabase r → text ≡ database_text r → Reads of_database text (under r [])
reads_of text r d e = record { text_is = e ∙ sym (text_without_ids (under r []) refl); project = d.project; database = d.database; below = tt; ids = refl }

pub database_taken : (root : Root) (text : List ℕ) → (database_of root text ≡ Ok tt) ↔ (IsDatabase root × (text ≡ database_text root))
database_taken root text = (
  λ h.
      let f = judged_found of_database (λ n. (not (is_of root n), WrongDatabase) ∷ []) (λ n. tt) text tt h in
      let own = of_root root f.name f.none.0 in (
        record { project = subst IsLabel own.0 f.reads.project; database = subst IsLabel own.1 f.reads.database },
        f.reads.text_is ∙ (text_without_ids f.name (no_ids f.name.ids f.reads.ids) ∙ ap database_text (λ i. record { project = own.0 i; database = own.1 i })),
      ),
  λ d. judged_only of_database (λ n. (not (is_of root n), WrongDatabase) ∷ []) (λ n. tt) text (under root []) (reads_of text root d.0 d.1) (is_root root (under root []) refl refl, tt),
)

pub bad_database : (root : Root) (text : List ℕ) → (database_of root text ≡ Err BadPrefix) ↔ ((r : Root) → IsDatabase r → text ≡ database_text r → ⊥)
bad_database root text =
    let p = judged_prefix of_database (λ n. (not (is_of root n), WrongDatabase) ∷ []) (λ n. tt) text (λ n. ((λ p. cc), tt)) in (
      λ h r d e. p.0 h (under r []) (reads_of text r d e),
      λ never. p.1 (λ n r. never (root_of n) (record { project = r.project; database = r.database }) (r.text_is ∙ text_without_ids n (no_ids n.ids r.ids))),
    )
