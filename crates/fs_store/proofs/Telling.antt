-- The changes that were noted tell the commits: the versions have what each name was just before a commit, and what it was at it.
use Rattle.std.proofs.Common.{◌≡◌, ℕ, ◌<◌, ℤ, ◌-ℤ◌, ◌≤ℤ◌, ◌<ℤ◌, pos, Bool, true, false, cond, List, [], ◌∷◌, ◌++◌, Option, Some, None, length, get_or, refl, sym, ap, ◌∙◌, subst, arith}
use Rattle.std.specs.Prelude.{unwrap_or, ⊤, int_le, int_lt, ◌&&◌}
use Rattle.std.specs.FinMap.{get}
use Rattle.std.specs.List.{All, filter}
use Rattle.std.specs.Ordering.{is_eq, int_cmp}
use Rattle.std.proofs.lemmas.Int.{ints}
use Rattle.std.proofs.lemmas.List.{append-nil, append_assoc}
use Rattle.std.proofs.lemmas.Cmp.{int_cmp_total, tied_itself}
use Rattle.std.proofs.lemmas.List.Elements.{All-append, All-nil, All-cons, All-head, All-tail, All-filter, All-weaker}
use Rattle.std.specs.Cmp.{Equal-is, first_so, int_cmp_is}
use Rattle.std.specs.declared.cmp.Ordering.TheVariants.{Less}
use Rattle.fs_path.specs.declared.name.DocName.{DocName}
use Rattle.fs_value.specs.declared.document.Document.{Document}
use Rattle.fs_write.specs.Batch.{AreChanges, Docs, is_unchanged}
use Rattle.fs_write.specs.declared.change.Change.{Change}
use Rattle.fs_write.specs.declared.timed_change.TimedChange.{TimedChange}
use Rattle.fs_history.specs.Brings.{Brings, IsCommit, between, if_some, of_names}
use Rattle.fs_history.specs.History.{at, whole, EndsBefore, EndsBy, IsRising}
use Rattle.fs_history.specs.declared.batch.Batch.{Batch}
use Rattle.fs_history.proofs.Brought.{at_until, rising_front, until_all, until_behind, until_less}
use Rattle.fs_versions.specs.Chains.{Chains}
use Rattle.fs_versions.specs.Shows.{Shows as VersionsShow}
use Rattle.fs_versions.proofs.TreeLaws.{found_itself}
use Rattle.fs_store.specs.Noted.{all_noted, names_of, noted_names}
use Rattle.fs_store.specs.Told.{begun, change_told, told, told_behind, with_change}
use Rattle.fs_store.specs.declared.noted.Noted.{Noted}

-- ---- one change

changed_by : (name : DocName) (before after : Option Document) (d : Change) (b : Bool) → cond b None (Some (record { name = name; before = before; after = after })) ≡ Some d
    → d ≡ record { name = name; before = before; after = after }
changed_by name before after d true is = absurd (cc)
changed_by name before after d false is = ap (λ o. unwrap_or o d) (sym is)

-- each change of a commit is from what was before it to what is after it
change_is : (before after : Docs) (cs : List Change) (k : ℕ) (e : Change) → AreChanges before after cs → k < length cs
    → get_or cs k e ≡ record { name = (get_or cs k e).name; before = get before (get_or cs k e).name; after = get after (get_or cs k e).name }
change_is before after cs k e are within =
    let d = get_or cs k e in
    changed_by d.name (get before d.name) (get after d.name) d (is_unchanged (get before d.name) (get after d.name)) (sym (are.told d.name) ∙ found_itself cs k e are.rise within)

-- versions tell a commit behind their floor
abbrev pub Tells : Chains → TimedChange → Type 0
Tells v c = v.floor <ℤ c.time → All (λ d. change_told v (record { time = c.time; id = c.id; name = d.name }) ≡ d) c.changes

module _ (v : Chains) (k : List Batch) (shows : VersionsShow k v) where
  low : (a b : ℤ) → a <ℤ b → a ≤ℤ (b -ℤ pos 1)
  low a b h = omega (arith, ints)

  under : (a b : ℤ) → a <ℤ b → a ≤ℤ b
  under a b h = omega (arith, ints)

  just : (b : ℤ) → (b -ℤ pos 1) <ℤ b
  just b = omega (arith, ints)

  refl_le : (b : ℤ) → b ≤ℤ b
  refl_le b = omega (arith, ints)

  ends_just : (g : List Batch) (b : ℤ) → EndsBefore g b → EndsBy g (b -ℤ pos 1)
  ends_just [] b ends = tt
  ends_just (a ∷ g) b ends = omega (arith, ints)

  commit_told : (g : List Batch) (b : Batch) (c : TimedChange) (cs : List TimedChange) → IsCommit g b c → Brings (b ∷ g) cs k → Tells v c
  commit_told g b c cs is brings above = λ j e within.
      let d = get_or c.changes j e in
      let rise = rising_front (b ∷ g) cs k brings shows.rising in
      let before : at k (c.time -ℤ pos 1) ≡ whole g =
      at_until k (c.time -ℤ pos 1)
      ∙ ap whole (until_behind b g cs k (c.time -ℤ pos 1) brings shows.rising (subst (λ t. (c.time -ℤ pos 1) ≤ℤ t) (sym is.time) (under (c.time -ℤ pos 1) c.time (just c.time)))
      ∙ until_less b g (c.time -ℤ pos 1) (subst (λ t. (c.time -ℤ pos 1) <ℤ t) (sym is.time) (just c.time))
      ∙ until_all g (c.time -ℤ pos 1) rise.1 (subst (λ t. EndsBy g (t -ℤ pos 1)) is.time (ends_just g b.time rise.0))) in
      let then : at k c.time ≡ whole (b ∷ g) =
      at_until k c.time
      ∙ ap whole (until_behind b g cs k c.time brings shows.rising (subst (λ t. c.time ≤ℤ t) (sym is.time) (refl_le c.time))
      ∙ until_all (b ∷ g) c.time rise (subst (λ t. b.time ≤ℤ t) is.time (refl_le b.time))) in
      let was = sym (shows.documents (c.time -ℤ pos 1) d.name (low v.floor c.time above)) ∙ ap (λ docs. get docs d.name) before in
      let becomes = sym (shows.documents c.time d.name (under v.floor c.time above)) ∙ ap (λ docs. get docs d.name) then in
      (λ i. record { name = d.name; before = was i; after = becomes i }) ∙ sym (change_is (whole g) (whole (b ∷ g)) c.changes j e is.changes within)

  pub all_told : (g : List Batch) (cs : List TimedChange) → Brings g cs k → All (Tells v) cs
  all_told g [] brings = All-nil (Tells v)
  all_told g (c ∷ cs) brings = All-cons (Tells v) c cs (commit_told g brings.0 c cs brings.1 brings.2) (all_told (brings.0 ∷ g) cs brings.2)

-- ---- the changes of a commit come together

with_last : (cs : List TimedChange) (c : TimedChange) (n : Noted) (ch : Change) → with_change (cs ++ c ∷ []) n ch ≡ cs ++ with_change (c ∷ []) n ch
with_last [] c n ch = refl
with_last (b ∷ []) c n ch = refl
with_last (b ∷ d ∷ cs) c n ch = ap (λ xs. b ∷ xs) (with_last (d ∷ cs) c n ch)

same_time : (a b : ℤ) → a ≡ b → is_eq (int_cmp a b) ≡ true
same_time a b is = ap (λ t. is_eq (int_cmp a t)) (sym is) ∙ (Equal-is _).1 (tied_itself int_cmp_total a)

other_time : (a b : ℤ) → a <ℤ b → is_eq (int_cmp a b) ≡ false
other_time a b earlier = ap is_eq (sym (int_cmp_is a b Less earlier))

-- by what a test of their times says
pub behind_its_own : (cs : List TimedChange) (c : TimedChange) (n : Noted) (ch : Change) → is_eq (int_cmp c.time n.time) ≡ true → with_change (cs ++ c ∷ []) n ch ≡ cs ++ record c { changes = c.changes ++ ch ∷ [] } ∷ []
behind_its_own cs c n ch told =
    with_last cs c n ch ∙ ap (λ b. cs ++ cond b (record c { changes = c.changes ++ ch ∷ [] } ∷ []) (c ∷ begun n ch ∷ [])) told

pub behind_another : (cs : List TimedChange) (c : TimedChange) (n : Noted) (ch : Change) → is_eq (int_cmp c.time n.time) ≡ false → with_change (cs ++ c ∷ []) n ch ≡ (cs ++ c ∷ []) ++ begun n ch ∷ []
behind_another cs c n ch told =
    with_last cs c n ch ∙ ap (λ b. cs ++ cond b (record c { changes = c.changes ++ ch ∷ [] } ∷ []) (c ∷ begun n ch ∷ [])) told
    ∙ sym (append_assoc cs (c ∷ []) (begun n ch ∷ []))

-- behind a commit of the same time
joined : (cs : List TimedChange) (c : TimedChange) (n : Noted) (ch : Change) → c.time ≡ n.time → with_change (cs ++ c ∷ []) n ch ≡ cs ++ record c { changes = c.changes ++ ch ∷ [] } ∷ []
joined cs c n ch same = behind_its_own cs c n ch (same_time c.time n.time same)

-- behind earlier ones
fresh : (cs : List TimedChange) (n : Noted) (ch : Change) → All (λ c. c.time <ℤ n.time) cs → with_change cs n ch ≡ cs ++ begun n ch ∷ []
fresh [] n ch earlier = refl
fresh (c ∷ []) n ch earlier =
    ap (λ b. cond b (record c { changes = c.changes ++ ch ∷ [] } ∷ []) (c ∷ begun n ch ∷ [])) (other_time c.time n.time (All-head (λ (x : TimedChange). x.time <ℤ n.time) c [] earlier))
fresh (c ∷ d ∷ cs) n ch earlier = ap (λ xs. c ∷ xs) (fresh (d ∷ cs) n ch (All-tail (λ (x : TimedChange). x.time <ℤ n.time) c (d ∷ cs) earlier))

-- versions tell a change of a commit
abbrev pub IsTold : Chains → ℤ → ℕ → Change → Type 0
IsTold v t id d = change_told v (record { time = t; id = id; name = d.name }) ≡ d

module _ (v : Chains) where
  -- the other changes of a commit that has begun
  others : (cs : List TimedChange) (c : TimedChange) (t : ℤ) (id : ℕ) (ds : List Change) (ns : List Noted) → c.time ≡ t → All (IsTold v t id) ds
      → told_behind v (cs ++ c ∷ []) (noted_names t id (names_of ds) ++ ns) ≡ told_behind v (cs ++ record c { changes = c.changes ++ ds } ∷ []) ns
  others cs c t id [] ns same told_all = ap (λ ds. told_behind v (cs ++ record c { changes = ds } ∷ []) ns) (sym (append-nil c.changes))
  others cs c t id (d ∷ ds) ns same told_all =
      let n : Noted = record { time = t; id = id; name = d.name } in
      let next : TimedChange = record c { changes = c.changes ++ d ∷ [] } in
      ap (λ xs. told_behind v xs (noted_names t id (names_of ds) ++ ns))
      (joined cs c n (change_told v n) same ∙ ap (λ ch. cs ++ record c { changes = c.changes ++ ch ∷ [] } ∷ []) (All-head (IsTold v t id) d ds told_all))
      ∙ others cs next t id ds ns same (All-tail (IsTold v t id) d ds told_all)
      ∙ ap (λ es. told_behind v (cs ++ record c { changes = es } ∷ []) ns) (append_assoc c.changes (d ∷ []) ds)

  -- a commit that has changes
  commit : (cs : List TimedChange) (t : ℤ) (id : ℕ) (d : Change) (ds : List Change) (ns : List Noted) → All (λ c. c.time <ℤ t) cs → All (IsTold v t id) (d ∷ ds)
      → told_behind v cs (noted_names t id (names_of (d ∷ ds)) ++ ns) ≡ told_behind v (cs ++ record { time = t; id = id; changes = d ∷ ds } ∷ []) ns
  commit cs t id d ds ns earlier told_all =
      let n : Noted = record { time = t; id = id; name = d.name } in
      ap (λ xs. told_behind v xs (noted_names t id (names_of ds) ++ ns))
      (fresh cs n (change_told v n) earlier ∙ ap (λ ch. cs ++ begun n ch ∷ []) (All-head (IsTold v t id) d ds told_all))
      ∙ others cs (begun n d) t id ds ns refl (All-tail (IsTold v t id) d ds told_all)

-- ---- commits one after another

-- their times rise, above a time
abbrev pub RiseAbove : ℤ → List TimedChange → Type 0
RiseAbove t [] = ⊤
RiseAbove t (c ∷ cs) = (t <ℤ c.time) × RiseAbove c.time cs

rise_weaker : (s t : ℤ) (cs : List TimedChange) → s <ℤ t → RiseAbove t cs → RiseAbove s cs
rise_weaker s t [] below rise = tt
rise_weaker s t (c ∷ cs) below rise = let up = rise.0 in (omega (arith, ints), rise.1)

rise_behind : (b : Batch) (g : List Batch) (cs : List TimedChange) (k : List Batch) → Brings (b ∷ g) cs k → IsRising k → RiseAbove b.time cs
rise_behind b g [] k brings rise = tt
rise_behind b g (c ∷ cs) k brings rise =
    let next = rising_front (brings.0 ∷ b ∷ g) cs k brings.2 rise in
    let is : IsCommit (b ∷ g) brings.0 c = brings.1 in
    (subst (λ t. b.time <ℤ t) is.time next.0, subst (λ t. RiseAbove t cs) is.time (rise_behind brings.0 (b ∷ g) cs k brings.2 rise))

rise_first : (cs : List TimedChange) (k : List Batch) → Brings [] cs k → IsRising k → (t : ℤ) × RiseAbove t cs
rise_first [] k brings rise = (pos 0, tt)
rise_first (c ∷ cs) k brings rise =
    let is : IsCommit [] brings.0 c = brings.1 in
    (c.time -ℤ pos 1, (just_below c.time, subst (λ t. RiseAbove t cs) is.time (rise_behind brings.0 [] cs k brings.2 rise)))
  where
    just_below : (t : ℤ) → (t -ℤ pos 1) <ℤ t
    just_below t = omega (arith, ints)

-- ---- of some names

module _ (v : Chains) (p : DocName → Bool) (q : ℤ → Bool) (above : (t : ℤ) → q t ≡ true → v.floor <ℤ t) where
  low_all : (cs : List TimedChange) (t u : ℤ) → t <ℤ u → All (λ c. c.time ≤ℤ t) cs → All (λ c. c.time <ℤ u) cs
  low_all cs t u below all = All-weaker (λ (c : TimedChange). c.time ≤ℤ t) (λ (c : TimedChange). c.time <ℤ u) (λ c by. omega (arith, ints)) cs all

  low_more : (cs : List TimedChange) (c : TimedChange) (t : ℤ) → t <ℤ c.time → All (λ d. d.time ≤ℤ t) cs → All (λ d. d.time ≤ℤ c.time) (cs ++ c ∷ [])
  low_more cs c t below all =
      All-append (λ (d : TimedChange). d.time ≤ℤ c.time) cs (c ∷ [])
      (All-weaker (λ (d : TimedChange). d.time ≤ℤ t) (λ (d : TimedChange). d.time ≤ℤ c.time) (λ d by. omega (arith, ints)) cs all)
      (All-cons (λ (d : TimedChange). d.time ≤ℤ c.time) c [] (itself c.time) (All-nil (λ (d : TimedChange). d.time ≤ℤ c.time)))
    where
      itself : (u : ℤ) → u ≤ℤ u
      itself u = omega (arith, ints)

  low_later : (cs : List TimedChange) (t u : ℤ) → t <ℤ u → All (λ d. d.time ≤ℤ t) cs → All (λ d. d.time ≤ℤ u) cs
  low_later cs t u below all = All-weaker (λ (d : TimedChange). d.time ≤ℤ t) (λ (d : TimedChange). d.time ≤ℤ u) (λ d by. omega (arith, ints)) cs all

  of_time : List TimedChange → List TimedChange
  of_time cs = filter (λ (c : TimedChange). q c.time) cs

  told_next : (t : ℤ) (so_far : List TimedChange) (c : TimedChange) (cs : List TimedChange) (ds : List Change) → t <ℤ c.time → All (λ d. d.time ≤ℤ t) so_far
      → All (λ d. change_told v (record { time = c.time; id = c.id; name = d.name }) ≡ d) ds
      → ((behind : List TimedChange) → All (λ d. d.time ≤ℤ c.time) behind → told_behind v behind (all_noted (of_names p (of_time cs))) ≡ behind ++ of_names p (of_time cs))
      → told_behind v so_far (all_noted (if_some c.time c.id ds (of_names p (of_time cs)))) ≡ so_far ++ if_some c.time c.id ds (of_names p (of_time cs))
  told_next t so_far c cs [] later low told_all rest = rest so_far (low_later so_far t c.time later low)
  told_next t so_far c cs (d ∷ ds) later low told_all rest =
      let one : TimedChange = record { time = c.time; id = c.id; changes = d ∷ ds } in
      commit v so_far c.time c.id d ds (all_noted (of_names p (of_time cs))) (low_all so_far t c.time later low) told_all
      ∙ rest (so_far ++ one ∷ []) (low_more so_far one t later low)
      ∙ append_assoc so_far (one ∷ []) (of_names p (of_time cs))

  pub told_of : (t : ℤ) (so_far cs : List TimedChange) → All (λ d. d.time ≤ℤ t) so_far → RiseAbove t cs → All (Tells v) cs
      → told_behind v so_far (all_noted (of_names p (filter (λ c. q c.time) cs))) ≡ so_far ++ of_names p (filter (λ c. q c.time) cs)
  unfolding of_time
  told_of t so_far [] low rise holds = sym (append-nil so_far)
  told_of t so_far (c ∷ cs) low rise holds =
      decide (q c.time) refl (λ u behind by up. told_of u behind cs by up (All-tail (Tells v) c cs holds))
    where
      decide : (b : Bool) → q c.time ≡ b
          → ((u : ℤ) (behind : List TimedChange) → All (λ (d : TimedChange). d.time ≤ℤ u) behind → RiseAbove u cs → told_behind v behind (all_noted (of_names p (of_time cs))) ≡ behind ++ of_names p (of_time cs))
          → told_behind v so_far (all_noted (of_names p (cond b (c ∷ of_time cs) (of_time cs)))) ≡ so_far ++ of_names p (cond b (c ∷ of_time cs) (of_time cs))
      decide true is more =
          let here = All-head (Tells v) c cs holds (above c.time is) in
          told_next t so_far c cs (filter (λ (d : Change). p d.name) c.changes) rise.0 low
          (All-filter (λ (d : Change). p d.name) (λ (d : Change). change_told v (record { time = c.time; id = c.id; name = d.name }) ≡ d) c.changes here)
          (λ behind by. more c.time behind by rise.1)
      decide false is more = more t so_far low (rise_weaker t c.time cs rise.0 rise.1)

-- what is told of the changes of some names between two times is what the commits brought them
pub between_told : (v : Chains) (k : List Batch) (commits : List TimedChange) (p : DocName → Bool) (s t : ℤ) → VersionsShow k v → Brings [] commits k → v.floor ≤ℤ s
    → told v (all_noted (of_names p (between s t commits))) ≡ of_names p (between s t commits)
between_told v k commits p s t shows brings low =
    let rise = rise_first commits k brings shows.rising in
    told_of v p (λ u. int_lt s u && int_le u t) behind rise.0 [] commits (All-nil (λ (d : TimedChange). d.time ≤ℤ rise.0)) rise.1 (all_told v k shows [] commits brings)
  where
    behind : (u : ℤ) → (int_lt s u && int_le u t) ≡ true → v.floor <ℤ u
    behind u is = let late = first_so (int_lt s u) (int_le u t) is in grind (arith, ints)
