-- When the document of a name was last updated, at each time of a history: at a later time never earlier.
use Rattle.std.proofs.Common.{◌≡◌, ℕ, ℤ, ◌≤ℤ◌, ◌<ℤ◌, Bool, true, false, cond, ◌⊎◌, inl, inr, List, [], ◌∷◌, Option, Some, None, Result, Ok, Err, refl, sym, ap, ◌∙◌, subst, arith}
use Rattle.std.specs.Prelude.{IfOk, IfSome, int_le}
use Rattle.std.specs.BTreeMap.{is_at}
use Rattle.std.specs.FinMap.{get, get-empty}
use Rattle.std.proofs.lemmas.Int.{ints}
use Rattle.fs_time.proofs.Tests.{above, at_most}
use Rattle.fs_path.specs.NameOrder.{name_cmp, name_is}
use Rattle.fs_path.specs.declared.name.DocName.{DocName}
use Rattle.fs_value.specs.Data.{Data}
use Rattle.fs_value.specs.Same.{same_fields}
use Rattle.fs_value.specs.declared.document.Document.{Document}
use Rattle.fs_write.specs.After.{after_batch, left_after}
use Rattle.fs_write.specs.Batch.{Docs, after_write, all_writes, batch, is_unchanged, next_write}
use Rattle.fs_write.specs.OneWrite.{Fault, document_left, one_write}
use Rattle.fs_write.specs.Transforms.{transformed}
use Rattle.fs_write.specs.WrittenName.{written_name}
use Rattle.fs_write.specs.declared.write.Write.{Write}
use Rattle.fs_write.specs.declared.write_result.WriteResult.{WriteResult}
use Rattle.fs_write.proofs.AfterLaws.{get-after_batch}
use Rattle.fs_write.proofs.Fields.{left_other, left_same}
use Rattle.fs_write.proofs.Stages.{get-with_document}
use Rattle.fs_write.proofs.WriteLaws.{left_by}
use Rattle.fs_history.specs.History.{at, IsRising}
use Rattle.fs_history.specs.declared.batch.Batch.{Batch}
use Rattle.fs_history.proofs.HistoryLaws.{at_whole, ends_by}

-- ---- of one commit

-- what was there, none, or what was updated then
abbrev pub IsLeftAt : ℤ → Option Document → Option Document → Type 0
IsLeftAt t before after = (after ≡ before) ⊎ IfSome after (λ d. d.updated ≡ t)

left_again : (t : ℤ) (a b c : Option Document) → IsLeftAt t a b → IsLeftAt t b c → IsLeftAt t a c
left_again t a b c first (inl same) = subst (IsLeftAt t a) (sym same) first
left_again t a b c first (inr then) = inr then

made_at : (before : Option Document) (name : DocName) (fields : List (List ℕ × Data)) (t : ℤ) (d : Document) → d ≡ document_left before name fields t → IsLeftAt t before (Some d)
made_at None name fields t d is = inr (ap (λ (x : Document). x.updated) is)
made_at (Some b) name fields t d is = by_test (same_fields b.fields fields) refl where
  by_test : (same : Bool) → same_fields b.fields fields ≡ same → IsLeftAt t (Some b) (Some d)
  by_test true same = inl (ap Some (is ∙ left_same b name fields t same))
  by_test false same = inr (ap (λ (x : Document). x.updated) (is ∙ left_other b name fields t same))

one_left : (before after : Option Document) (w : Write) (t : ℤ) (r : WriteResult) → one_write before w t ≡ Ok (after, r) → IsLeftAt t before after
one_left before None w t r is = inr tt
one_left before (Some d) w t r is =
    let left = left_by before w t d r is in
    made_at before (written_name w) (transformed w.transforms t left.fields) t d left.is

abbrev AllLeftAt : {E : Type 0} → ℤ → DocName → Option Document → Result (Docs × List WriteResult) E → Type 0
AllLeftAt t q before p = IfOk p (λ (s : Docs × List WriteResult). IsLeftAt t before (get s.0 q))

write_left : (t : ℤ) (q : DocName) (before : Option Document) (docs : Docs) (results : List WriteResult) (w : Write) (r : Result (Option Document × WriteResult) Fault)
    → one_write (get docs (written_name w)) w t ≡ r → IsLeftAt t before (get docs q) → AllLeftAt t q before (after_write docs results (written_name w) r)
write_left t q before docs results w (Err fault) is was = tt
write_left t q before docs results w (Ok done) is was =
    subst (IsLeftAt t before) (sym (get-with_document docs (written_name w) done.0 q)) (by_test (is_at (name_cmp (written_name w)) q) refl)
  where
    by_test : (here : Bool) → is_at (name_cmp (written_name w)) q ≡ here → IsLeftAt t before (cond here done.0 (get docs q))
    by_test true at_name =
        let name = name_is (written_name w) q at_name in
        left_again t before (get docs q) done.0 was (subst (λ n. IsLeftAt t (get docs n) done.0) name (one_left (get docs (written_name w)) done.0 w t done.1 is))
    by_test false at_name = was

next_left : (t : ℤ) (q : DocName) (before : Option Document) (p : Result (Docs × List WriteResult) _) (w : Write) → AllLeftAt t q before p → AllLeftAt t q before (next_write p w t)
next_left t q before (Err refusal) w was = tt
next_left t q before (Ok so_far) w was = write_left t q before so_far.0 so_far.1 w (one_write (get so_far.0 (written_name w)) w t) refl was

writes_left : (t : ℤ) (q : DocName) (before : Option Document) (ws : List Write) (p : Result (Docs × List WriteResult) _) → AllLeftAt t q before p → AllLeftAt t q before (all_writes p ws t)
writes_left t q before [] p was = was
writes_left t q before (w ∷ ws) p was = writes_left t q before ws (next_write p w t) (next_left t q before p w was)

module _ (docs : Docs) (ws : List Write) (t : ℤ) (q : DocName) where
  left_either : (after : Option Document) (same : Bool) → IsLeftAt t (get docs q) after → IsLeftAt t (get docs q) (cond same (get docs q) after)
  left_either after true left = inl refl
  left_either after false left = left

  by_outcome : (r : Result (Docs × List WriteResult) _) → batch docs ws t ≡ r → IsLeftAt t (get docs q) (get (left_after docs ws r) q)
  by_outcome (Err refusal) is = inl refl
  by_outcome (Ok done) is =
      let left : IsLeftAt t (get docs q) (get done.0 q) = subst (AllLeftAt t q (get docs q)) is (writes_left t q (get docs q) ws (Ok (docs, [])) (inl refl)) in
      subst (IsLeftAt t (get docs q)) (sym (ap (λ p. get (left_after docs ws p) q) (sym is) ∙ get-after_batch docs ws t done is q))
      (left_either (get done.0 q) (is_unchanged (get docs q) (get done.0 q)) left)

  pub left_by_batch : IsLeftAt t (get docs q) (get (after_batch docs ws t) q)
  left_by_batch = by_outcome (batch docs ws t) refl

-- ---- at each time

-- the time of a name's version: of its document's update, or where there is none the time that is looked at
abbrev pub version_at : ℤ → Option Document → ℤ
version_at t None = t
version_at t (Some d) = d.updated

within : (t : ℤ) (o : Option Document) → IfSome o (λ d. d.updated ≤ℤ t) → version_at t o ≤ℤ t
within t None by = omega (arith, ints)
within t (Some d) by = by

left_within : (u t : ℤ) (before after : Option Document) → u ≤ℤ t → IsLeftAt u before after → IfSome before (λ d. d.updated ≤ℤ t) → IfSome after (λ d. d.updated ≤ℤ t)
left_within u t before after by (inl same) was = subst (λ o. IfSome o (λ (d : Document). d.updated ≤ℤ t)) (sym same) was
left_within u t before None by (inr then) was = tt
left_within u t before (Some d) by (inr then) was = subst (λ x. x ≤ℤ t) (sym then) by

updated_within : (h : List Batch) (t : ℤ) (q : DocName) → IfSome (get (at h t) q) (λ d. d.updated ≤ℤ t)
updated_within [] t q = subst (λ o. IfSome o (λ (d : Document). d.updated ≤ℤ t)) (sym (get-empty name_cmp q)) tt
updated_within (b ∷ h) t q = by_test (updated_within h t q) (int_le b.time t) refl where
  by_test : IfSome (get (at h t) q) (λ d. d.updated ≤ℤ t) → (counts : Bool) → int_le b.time t ≡ counts
      → IfSome (get (cond counts (after_batch (at h t) b.writes b.time) (at h t)) q) (λ d. d.updated ≤ℤ t)
  by_test was true is =
      left_within b.time t (get (at h t) q) (get (after_batch (at h t) b.writes b.time) q) (at_most b.time t is) (left_by_batch (at h t) b.writes b.time q) was
  by_test was false is = was

same_later : (s t : ℤ) (o : Option Document) → s ≤ℤ t → version_at s o ≤ℤ version_at t o
same_later s t None later = later
same_later s t (Some d) later = omega (arith, ints)

left_later : (s u t : ℤ) (old before after : Option Document) → s ≤ℤ u → u ≤ℤ t → version_at s old ≤ℤ s → version_at s old ≤ℤ version_at t before → IsLeftAt u before after
    → version_at s old ≤ℤ version_at t after
left_later s u t old before after low high by was (inl same) = subst (λ o. version_at s old ≤ℤ version_at t o) (sym same) was
left_later s u t old before None low high by was (inr then) = omega (arith, ints)
left_later s u t old before (Some d) low high by was (inr then) =
    let up : version_at s old ≤ℤ u = omega (arith, ints) in
    subst (λ x. version_at s old ≤ℤ x) (sym then) up

-- what is there at a later time is no earlier version
pub versions_rise : (h : List Batch) (s t : ℤ) (q : DocName) → IsRising h → s ≤ℤ t → version_at s (get (at h s) q) ≤ℤ version_at t (get (at h t) q)
versions_rise [] s t q rise later = same_later s t (get (at [] t) q) later
versions_rise (b ∷ h) s t q rise later = by_tests (versions_rise h s t q rise.1 later) (int_le b.time s) (int_le b.time t) refl refl where
  alike : b.time ≤ℤ s → at h s ≡ at h t
  alike counts =
      at_whole h s rise.1 (ends_by h b.time s rise.0 counts)
      ∙ sym (at_whole h t rise.1 (ends_by h b.time t rise.0 (omega (arith, ints))))

  by_tests : version_at s (get (at h s) q) ≤ℤ version_at t (get (at h t) q) → (first last : Bool) → int_le b.time s ≡ first → int_le b.time t ≡ last
      → version_at s (get (cond first (after_batch (at h s) b.writes b.time) (at h s)) q) ≤ℤ version_at t (get (cond last (after_batch (at h t) b.writes b.time) (at h t)) q)
  by_tests was true true is then =
      subst (λ (docs : Docs). version_at s (get (after_batch (at h s) b.writes b.time) q) ≤ℤ version_at t (get (after_batch docs b.writes b.time) q)) (alike (at_most b.time s is))
      (same_later s t (get (after_batch (at h s) b.writes b.time) q) later)
  by_tests was true false is then = let low = at_most b.time s is in let high = above b.time t then in absurd (omega (arith, ints))
  by_tests was false true is then =
      let high : s <ℤ b.time = above b.time s is in
      let low : s ≤ℤ b.time = omega (arith, ints) in
      left_later s b.time t (get (at h s) q) (get (at h t) q) (get (after_batch (at h t) b.writes b.time) q) low (at_most b.time t then)
      (within s (get (at h s) q) (updated_within h s q)) was (left_by_batch (at h t) b.writes b.time q)
  by_tests was false false is then = was
