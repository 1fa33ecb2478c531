-- The events of what commits bring lead from what fits at one time to what fits at a later one.
use Rattle.std.proofs.Common.{◌≡◌, ℕ, ℤ, Bool, true, false, cond, List, [], ◌∷◌, Some, None, refl, sym, ap, ◌∙◌}
use Rattle.std.specs.FinMap.{get, find, same_map}
use Rattle.std.specs.List.{filter}
use Rattle.fs_path.specs.NameOrder.{name_cmp, name_eq, name_cmp_total, name_same, name_is}
use Rattle.fs_path.specs.declared.name.DocName.{DocName}
use Rattle.fs_value.specs.declared.document.Document.{Document}
use Rattle.fs_write.specs.After.{after_batch}
use Rattle.fs_write.specs.Batch.{Docs, is_unchanged, changes_by_name}
use Rattle.fs_write.specs.declared.change.Change.{Change}
use Rattle.fs_write.specs.declared.timed_change.TimedChange.{TimedChange}
use Rattle.fs_write.specs.declared.write.Write.{Write}
use Rattle.fs_history.specs.Brings.{Brings, until, if_some, of_names}
use Rattle.fs_history.specs.History.{at, whole}
use Rattle.fs_history.specs.declared.batch.Batch.{Batch}
use Rattle.fs_history.proofs.Brought.{at_until}
use Rattle.fs_match.specs.Event.{fitting}
use Rattle.fs_match.specs.Followed.{docs_fitting, with_change, changes_of, followed}
use Rattle.fs_match.specs.Laws.{Follows}
use Rattle.fs_match.proofs.Changes.{one_change_tells, fitting_by_name}

-- ---- one more commit

module _ (unchanged : (docs : Docs) (ws : List Write) (t : ℤ) (name : DocName) → is_unchanged (get docs name) (get (after_batch docs ws t) name) ≡ true → get (after_batch docs ws t) name ≡ get docs name) (fits : Document → Bool) where
  one_more : (b : Batch) (h : List Batch) (name : DocName) (changes : List Change) (same : Bool)
      → is_unchanged (get (whole h) name) (get (whole (b ∷ h)) name) ≡ same
      → followed fits (with_change (cond same None (Some (record { name = name; before = get (whole h) name; after = get (whole (b ∷ h)) name }))) changes) (fitting fits (get (whole h) name))
      ≡ followed fits changes (fitting fits (get (whole (b ∷ h)) name))
  one_more b h name changes true is = ap (λ o. followed fits changes (fitting fits o)) (sym (unchanged (whole h) b.writes b.time name is))
  one_more b h name changes false is = ap (followed fits changes) (one_change_tells fits (get (whole h) name) (get (whole (b ∷ h)) name))

  followed_through : (h : List Batch) (commits : List TimedChange) (k : List Batch) (name : DocName) → Brings h commits k
      → followed fits (changes_of name commits) (fitting fits (get (whole h) name)) ≡ fitting fits (get (whole k) name)
  followed_through h [] k name same = ap (λ l. fitting fits (get (whole l) name)) (sym same)
  followed_through h (c ∷ commits) k name brought =
      let b = brought.0 in
      ap (λ o. followed fits (with_change o (changes_of name commits)) (fitting fits (get (whole h) name))) (brought.1.changes.told name)
      ∙ one_more b h name (changes_of name commits) (is_unchanged (get (whole h) name) (get (whole (b ∷ h)) name)) refl
      ∙ followed_through (b ∷ h) commits k name brought.2

  pub follows : Follows fits
  follows h s t commits name brought =
      ap (followed fits (changes_of name commits)) (fitting_by_name fits (at h s) name ∙ ap (λ docs. fitting fits (get docs name)) (at_until h s))
      ∙ followed_through (until h s) commits (until h t) name brought
      ∙ ap (λ docs. fitting fits (get docs name)) (sym (at_until h t))
      ∙ sym (fitting_by_name fits (at h t) name)

  pub maps_follow : (h : List Batch) (s t : ℤ) (commits : List TimedChange) (docs : Docs) → Brings (until h s) commits (until h t)
      → ((name : DocName) → get docs name ≡ followed fits (changes_of name commits) (get (docs_fitting fits (at h s)) name))
      → docs ≡ docs_fitting fits (at h t)
  maps_follow h s t commits docs brought told =
      same_map name_cmp_total name_same docs (docs_fitting fits (at h t)) (λ name. told name ∙ follows h s t commits name brought)

-- ---- changes of other names

module _ (p : DocName → Bool) (name : DocName) (is_one : p name ≡ true) where
  another : (d : Change) → p d.name ≡ false → name_eq name d.name ≡ false
  another d none = other (name_eq name d.name) refl where
    other : (same : Bool) → name_eq name d.name ≡ same → same ≡ false
    other false is = refl
    other true is = absurd (let both : true ≡ false = sym is_one ∙ ap p (name_is name d.name is) ∙ none in cc)

  with_or_without : (d : Change) (ds : List Change) (keeps : Bool) → p d.name ≡ keeps
      → find name_cmp name (changes_by_name (filter (λ (e : Change). p e.name) ds)) ≡ find name_cmp name (changes_by_name ds)
      → find name_cmp name (changes_by_name (cond keeps (d ∷ filter (λ (e : Change). p e.name) ds) (filter (λ (e : Change). p e.name) ds)))
      ≡ find name_cmp name (changes_by_name (d ∷ ds))
  with_or_without d ds true is rest = ap (λ o. cond (name_eq name d.name) (Some d) o) rest
  with_or_without d ds false is rest = rest ∙ sym (ap (λ same. cond same (Some d) (find name_cmp name (changes_by_name ds))) (another d is))

  found_among : (ds : List Change) → find name_cmp name (changes_by_name (filter (λ (d : Change). p d.name) ds)) ≡ find name_cmp name (changes_by_name ds)
  found_among [] = refl
  found_among (d ∷ ds) = with_or_without d ds (p d.name) refl (found_among ds)

  one_commit : (time : ℤ) (id : ℕ) (ds : List Change) (commits : List TimedChange)
      → changes_of name (if_some time id ds commits) ≡ with_change (find name_cmp name (changes_by_name ds)) (changes_of name commits)
  one_commit time id [] commits = refl
  one_commit time id (d ∷ ds) commits = refl

  others_do_not_count : (commits : List TimedChange) → changes_of name (of_names p commits) ≡ changes_of name commits
  others_do_not_count [] = refl
  others_do_not_count (c ∷ commits) =
      one_commit c.time c.id (filter (λ (d : Change). p d.name) c.changes) (of_names p commits)
      ∙ ap (λ o. with_change o (changes_of name (of_names p commits))) (found_among c.changes)
      ∙ ap (with_change (find name_cmp name (changes_by_name c.changes))) (others_do_not_count commits)

pub others : (p : DocName → Bool) (commits : List TimedChange) (name : DocName) → p name ≡ true → changes_of name (of_names p commits) ≡ changes_of name commits
others p commits name is = others_do_not_count p name is commits
