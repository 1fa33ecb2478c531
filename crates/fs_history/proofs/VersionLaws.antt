-- What the versions and the chains of a history show.
use Rattle.std.proofs.Common.{◌≡◌, ℤ, ◌≤ℤ◌, Bool, true, false, cond, List, [], ◌∷◌, Some, None, reverse, refl, sym, ap, ◌∙◌, arith}
use Rattle.std.specs.Prelude.{int_le}
use Rattle.std.specs.FinMap.{get, get-empty, same_map}
use Rattle.std.proofs.lemmas.Int.{ints}
use Rattle.std.proofs.lemmas.List.{reverse-reverse}
use Rattle.fs_path.specs.NameOrder.{name_cmp, name_cmp_total, name_same}
use Rattle.fs_path.specs.declared.name.DocName.{DocName}
use Rattle.fs_write.specs.After.{after_batch}
use Rattle.fs_write.specs.Batch.{Docs, is_unchanged}
use Rattle.fs_write.specs.declared.write.Write.{Write}
use Rattle.fs_history.specs.History.{at, whole, IsRising}
use Rattle.fs_history.specs.Versions.{with_change, versions, newest, shown, kept, chain}
use Rattle.fs_history.specs.declared.batch.Batch.{Batch}
use Rattle.fs_history.proofs.KeptVersions.{shown_kept, newest_kept}
use Rattle.fs_history.proofs.HistoryLaws.{ends_by, at_whole}

-- ---- what the versions show

module _ (unchanged : (docs : Docs) (ws : List Write) (t : ℤ) (name : DocName) → is_unchanged (get docs name) (get (after_batch docs ws t) name) ≡ true → get (after_batch docs ws t) name ≡ get docs name) where
  -- a batch that is at or before the time
  shown_with : (b : Batch) (h : List Batch) (t : ℤ) (name : DocName) (same : Bool) → is_unchanged (get (whole h) name) (get (whole (b ∷ h)) name) ≡ same
      → int_le b.time t ≡ true → get (whole h) name ≡ shown t (versions h name)
      → get (whole (b ∷ h)) name ≡ shown t (with_change b.time (cond same None (Some (record { name = name; before = get (whole h) name; after = get (whole (b ∷ h)) name }))) (versions h name))
  shown_with b h t name true is within there = unchanged (whole h) b.writes b.time name is ∙ there
  shown_with b h t name false is within there = sym (ap (λ c. cond c (get (whole (b ∷ h)) name) (shown t (versions h name))) within)

  -- one that is behind it
  shown_without : (b : Batch) (h : List Batch) (t : ℤ) (name : DocName) (same : Bool) → int_le b.time t ≡ false
      → shown t (versions h name)
      ≡ shown t (with_change b.time (cond same None (Some (record { name = name; before = get (whole h) name; after = get (whole (b ∷ h)) name }))) (versions h name))
  shown_without b h t name true behind = refl
  shown_without b h t name false behind = sym (ap (λ c. cond c (get (whole (b ∷ h)) name) (shown t (versions h name))) behind)

  shown_at : (b : Batch) (h : List Batch) (t : ℤ) (name : DocName) (c : Bool) → int_le b.time t ≡ c → IsRising (b ∷ h) → get (at h t) name ≡ shown t (versions h name)
      → get (at (b ∷ h) t) name ≡ shown t (versions (b ∷ h) name)
  shown_at b h t name true is rise there =
      let within : b.time ≤ℤ t = grind (arith, ints) in
      ap (λ docs. get docs name) (at_whole (b ∷ h) t rise within)
      ∙ shown_with b h t name (is_unchanged (get (whole h) name) (get (whole (b ∷ h)) name)) refl is
      (sym (ap (λ docs. get docs name) (at_whole h t rise.1 (ends_by h b.time t rise.0 within))) ∙ there)
  shown_at b h t name false is rise there =
      ap (λ c. get (cond c (after_batch (at h t) b.writes b.time) (at h t)) name) is
      ∙ there
      ∙ shown_without b h t name (is_unchanged (get (whole h) name) (get (whole (b ∷ h)) name)) is

  pub versions_show : (h : List Batch) (t : ℤ) (name : DocName) → IsRising h → get (at h t) name ≡ shown t (versions h name)
  versions_show [] t name rise = get-empty name_cmp name
  versions_show (b ∷ h) t name rise = shown_at b h t name (int_le b.time t) refl rise (versions_show h t name rise.1)

  pub chain_shows : (h : List Batch) (floor t : ℤ) (name : DocName) → IsRising h → floor ≤ℤ t → get (at h t) name ≡ shown t (reverse (chain h floor name))
  chain_shows h floor t name rise within =
      versions_show h t name rise
      ∙ sym (shown_kept floor t (versions h name) within)
      ∙ ap (shown t) (sym (reverse-reverse (kept floor (versions h name))))

  newest_with : (b : Batch) (h : List Batch) (name : DocName) (same : Bool) → is_unchanged (get (whole h) name) (get (whole (b ∷ h)) name) ≡ same
      → get (whole h) name ≡ newest (versions h name)
      → get (whole (b ∷ h)) name ≡ newest (with_change b.time (cond same None (Some (record { name = name; before = get (whole h) name; after = get (whole (b ∷ h)) name }))) (versions h name))
  newest_with b h name true is there = unchanged (whole h) b.writes b.time name is ∙ there
  newest_with b h name false is there = refl

  newest_version : (h : List Batch) (name : DocName) → get (whole h) name ≡ newest (versions h name)
  newest_version [] name = get-empty name_cmp name
  newest_version (b ∷ h) name = newest_with b h name (is_unchanged (get (whole h) name) (get (whole (b ∷ h)) name)) refl (newest_version h name)

  pub chain_ends : (h : List Batch) (floor : ℤ) (name : DocName) → get (whole h) name ≡ newest (reverse (chain h floor name))
  chain_ends h floor name =
      newest_version h name
      ∙ sym (newest_kept floor (versions h name))
      ∙ ap newest (sym (reverse-reverse (kept floor (versions h name))))

  pub chains_tell : (h k : List Batch) (floor t : ℤ) → IsRising h → IsRising k → floor ≤ℤ t → ((name : DocName) → chain h floor name ≡ chain k floor name) → at h t ≡ at k t
  chains_tell h k floor t rise rise_k within same =
      same_map name_cmp_total name_same (at h t) (at k t)
      (λ q. chain_shows h floor t q rise within ∙ ap (λ vs. shown t (reverse vs)) (same q) ∙ sym (chain_shows k floor t q rise_k within))
