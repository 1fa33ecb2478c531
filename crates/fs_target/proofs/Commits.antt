-- What commits bring a history is told by it alone, and what they change is what is there before and after them.
use Rattle.std.proofs.Common.{◌≡◌, ℕ, suc, Bool, true, false, cond, List, [], ◌∷◌, ◌++◌, map, length, get_or, Some, None, refl, sym, ap, ◌∙◌, subst, arith, length-append}
use Rattle.std.specs.Prelude.{pos}
use Rattle.std.specs.FinMap.{find, get}
use Rattle.std.specs.FinMap.Entries.{same_entries}
use Rattle.std.specs.List.{AllByRecursion}
use Rattle.std.proofs.lemmas.Int.{ints}
use Rattle.std.proofs.lemmas.List.{append_assoc, get_or_at}
use Rattle.fs_path.proofs.Bools.{from_true}
use Rattle.fs_path.specs.NameOrder.{name_cmp, name_cmp_total, name_same}
use Rattle.fs_path.specs.declared.name.DocName.{DocName}
use Rattle.fs_write.specs.Batch.{AreChanges, AreNamed, Docs, change_of, changes_by_name, is_unchanged}
use Rattle.fs_write.specs.declared.change.Change.{Change}
use Rattle.fs_write.specs.declared.timed_change.TimedChange.{TimedChange}
use Rattle.fs_history.specs.Brings.{Brings, IsCommit}
use Rattle.fs_history.specs.History.{IsRising, at, whole}
use Rattle.fs_history.specs.Laws.{AtIsWhole, AtOwnNames}
use Rattle.fs_history.specs.declared.batch.Batch.{Batch}
use Rattle.fs_target.proofs.Found.{all_found}

-- ---- one commit

without_names : (cs : List Change) → map (λ (e : DocName × Change). e.1) (changes_by_name cs) ≡ cs
without_names [] = refl
without_names (c ∷ cs) = ap (λ ds. c ∷ ds) (without_names cs)

pub same_changes : (before after : Docs) (cs ds : List Change) → AreChanges before after cs → AreChanges before after ds → cs ≡ ds
same_changes before after cs ds first second =
    let one = same_entries name_cmp name_cmp_total name_same (changes_by_name cs) (changes_by_name ds) (from_true _ first.rise) (from_true _ second.rise) (λ name. first.told name ∙ sym (second.told name)) in
    sym (without_names cs) ∙ ap (map (λ (e : DocName × Change). e.1)) one ∙ without_names ds

-- a change has what is there before and after
abbrev pub IsBetween : Docs → Docs → Change → Type 0
IsBetween before after c = (c.before ≡ get before c.name) × (c.after ≡ get after c.name)

module _ (before after : Docs) where
  is_between : (name : DocName) (c : Change) (same : Bool) → is_unchanged (get before name) (get after name) ≡ same
      → cond same None (Some (record { name = name; before = get before name; after = get after name })) ≡ Some c → name ≡ c.name → IsBetween before after c
  is_between name c true is found at = absurd (cc)
  is_between name c false is found at =
      let one : ◌≡◌ {A = Change} (record { name = name; before = get before name; after = get after name }) c = cc in
      subst (IsBetween before after) one (refl, refl)

  all_between : (all : List Change) → ((name : DocName) → find name_cmp name (changes_by_name all) ≡ change_of name (get before name) (get after name))
      → (cs : List Change) → AllByRecursion (λ (e : DocName × Change). find name_cmp e.0 (changes_by_name all) ≡ Some e.1) (changes_by_name cs) → AllByRecursion (IsBetween before after) cs
  all_between all told [] found = tt
  all_between all told (c ∷ cs) found =
      (is_between c.name c (is_unchanged (get before c.name) (get after c.name)) refl (sym (told c.name) ∙ found.0) refl, all_between all told cs found.1)

  pub changes_between : (cs : List Change) → AreChanges before after cs → AllByRecursion (IsBetween before after) cs
  changes_between cs are = all_between cs are.told cs (all_found name_cmp_total (changes_by_name cs) are.rise)

-- ---- the same commits

record Behind (g : List Batch) (n : ℕ) (k : List Batch) : Type 0 where
  batches : List Batch
  is : k ≡ batches ++ g
  count : length batches ≡ n

brings_batches : (g : List Batch) (cs : List TimedChange) (k : List Batch) → Brings g cs k → Behind g (length cs) k
brings_batches g [] k brings = record { batches = []; is = brings; count = refl }
brings_batches g (c ∷ cs) k brings =
    let rest = brings_batches (brings.0 ∷ g) cs k brings.2 in
    record {
      batches = rest.batches ++ brings.0 ∷ [];
      is = rest.is ∙ sym (append_assoc rest.batches (brings.0 ∷ []) g);
      count = length-append rest.batches (brings.0 ∷ []) ∙ omega (arith, rest.count);
    }

same_next : (b d : Batch) (g k : List Batch) (n : ℕ) → Behind (b ∷ g) n k → Behind (d ∷ g) n k → b ≡ d
same_next b d g k n first second =
    sym (get_or_at first.batches b g b n first.count)
    ∙ ap (λ h. get_or h n b) (sym first.is ∙ second.is)
    ∙ get_or_at second.batches d g b n second.count

same_length : (g k : List Batch) (m n : ℕ) → Behind g m k → Behind g n k → m ≡ n
same_length g k m n first second =
    let one = ap length first.is ∙ length-append first.batches g in
    let other = ap length second.is ∙ length-append second.batches g in
    omega (arith, first.count, second.count)

-- the lists have one length, and then each commit is the same
pub same_commits : (g : List Batch) (cs ds : List TimedChange) (k : List Batch) → Brings g cs k → Brings g ds k → cs ≡ ds
same_commits g [] [] k first second = refl
same_commits g [] (d ∷ ds) k first second =
    let counts = same_length g k 0 (suc (length ds)) (brings_batches g [] k first) (brings_batches g (d ∷ ds) k second) in absurd (omega arith)
same_commits g (c ∷ cs) [] k first second =
    let counts = same_length g k (suc (length cs)) 0 (brings_batches g (c ∷ cs) k first) (brings_batches g [] k second) in absurd (omega arith)
same_commits g (c ∷ cs) (d ∷ ds) k first second =
    let counts = same_length g k (suc (length cs)) (suc (length ds)) (brings_batches g (c ∷ cs) k first) (brings_batches g (d ∷ ds) k second) in
    let long : length ds ≡ length cs = omega arith in
    let one = same_next first.0 second.0 g k (length cs) (brings_batches (first.0 ∷ g) cs k first.2) (subst (λ n. Behind (second.0 ∷ g) n k) long (brings_batches (second.0 ∷ g) ds k second.2)) in
    let other = subst (λ b. IsCommit g b d) (sym one) second.1 in
    let rest = same_commits (first.0 ∷ g) cs ds k first.2 (subst (λ b. Brings (b ∷ g) ds k) (sym one) second.2) in
    let time : c.time ≡ d.time = sym first.1.time ∙ other.time in
    let id : c.id ≡ d.id = sym first.1.id ∙ other.id in
    let changes = same_changes (whole g) (whole (first.0 ∷ g)) c.changes d.changes first.1.changes other.changes in
    let same : c ≡ d = λ i. record { time = time i; id = id i; changes = changes i } in
    λ i. same i ∷ rest i

-- ---- each document at its own name

module _ (own_names : AtOwnNames) (at_whole : AtIsWhole) where
  pub whole_named : (g : List Batch) → IsRising g → AreNamed (whole g)
  whole_named [] rise = own_names [] (pos 0)
  whole_named (b ∷ g) rise = subst AreNamed (at_whole (b ∷ g) b.time rise (omega (arith, ints))) (own_names (b ∷ g) b.time)
