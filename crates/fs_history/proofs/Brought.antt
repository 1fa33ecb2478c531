-- What commits bring, up to a time and behind one.
use Rattle.std.proofs.Common.{◌≡◌, ℤ, ◌≤ℤ◌, ◌<ℤ◌, Bool, true, false, cond, List, [], ◌∷◌, ◌++◌, refl, sym, ap, ◌∙◌, subst, arith}
use Rattle.std.specs.Prelude.{◌&&◌, int_le, int_lt}
use Rattle.std.proofs.lemmas.Int.{ints}
use Rattle.fs_time.proofs.Tests.{not_after, after as is_after}
use Rattle.fs_write.specs.After.{after_batch}
use Rattle.fs_write.specs.declared.timed_change.TimedChange.{TimedChange}
use Rattle.fs_history.specs.Brings.{Brings, IsCommit, between, until}
use Rattle.fs_history.specs.History.{at, whole, EndsBy, IsRising}
use Rattle.fs_history.specs.declared.batch.Batch.{Batch}
use Rattle.fs_history.proofs.HistoryLaws.{ends_by}

-- the documents at a time are those that the batches up to it leave
next_until : (b : Batch) (h : List Batch) (t : ℤ) (le : Bool) → at h t ≡ whole (until h t)
    → cond le (after_batch (at h t) b.writes b.time) (at h t) ≡ whole (cond le (b ∷ until h t) (until h t))
next_until b h t true same = ap (λ docs. after_batch docs b.writes b.time) same
next_until b h t false same = same

pub at_until : (h : List Batch) (t : ℤ) → at h t ≡ whole (until h t)
at_until [] t = refl
at_until (b ∷ h) t = next_until b h t (int_le b.time t) (at_until h t)

-- ---- up to a time

pub until_more : (b : Batch) (h : List Batch) (t : ℤ) → b.time ≤ℤ t → until (b ∷ h) t ≡ b ∷ until h t
until_more b h t by = ap (λ le. cond le (b ∷ until h t) (until h t)) (not_after b.time t by)

pub until_less : (b : Batch) (h : List Batch) (t : ℤ) → t <ℤ b.time → until (b ∷ h) t ≡ until h t
until_less b h t later = ap (λ le. cond le (b ∷ until h t) (until h t)) (is_after b.time t later)

pub until_all : (h : List Batch) (t : ℤ) → IsRising h → EndsBy h t → until h t ≡ h
until_all [] t rise ends = refl
until_all (b ∷ h) t rise ends = until_more b h t ends ∙ ap (λ k. b ∷ k) (until_all h t rise.1 (ends_by h b.time t rise.0 ends))

-- a history that ends by a time ends by a later one
pub ends_later : (h : List Batch) (s t : ℤ) → EndsBy h s → s ≤ℤ t → EndsBy h t
ends_later [] s t ends within = tt
ends_later (b ∷ h) s t ends within = omega (arith, ints)

-- ---- what commits bring rises, and so do the parts of it

pub brings-append : (g : List Batch) (cs : List TimedChange) (k : List Batch) (ds : List TimedChange) (l : List Batch) → Brings g cs k → Brings k ds l → Brings g (cs ++ ds) l
brings-append g [] k ds l first second = subst (λ h. Brings h ds l) first second
brings-append g (c ∷ cs) k ds l first second = (first.0, first.1, brings-append (first.0 ∷ g) cs k ds l first.2 second)

pub rising_front : (g : List Batch) (cs : List TimedChange) (k : List Batch) → Brings g cs k → IsRising k → IsRising g
rising_front g [] k brings rise = subst IsRising brings rise
rising_front g (c ∷ cs) k brings rise = (rising_front (brings.0 ∷ g) cs k brings.2 rise).1

-- what comes behind a batch isn't up to its time
pub until_behind : (b : Batch) (g : List Batch) (cs : List TimedChange) (k : List Batch) (t : ℤ) → Brings (b ∷ g) cs k → IsRising k → t ≤ℤ b.time → until k t ≡ until (b ∷ g) t
until_behind b g [] k t brings rise low = ap (λ h. until h t) brings
until_behind b g (c ∷ cs) k t brings rise low =
    let d = brings.0 in
    let next = rising_front (d ∷ b ∷ g) cs k brings.2 rise in
    let up : b.time <ℤ d.time = next.0 in
    until_behind d (b ∷ g) cs k t brings.2 rise (omega (arith, ints)) ∙ until_less d (b ∷ g) t (omega (arith, ints))

-- ---- a stretch of it

in_between : (s t : ℤ) (c : TimedChange) (cs : List TimedChange) (b : Bool) → (int_lt s c.time && int_le c.time t) ≡ b → between s t (c ∷ cs) ≡ cond b (c ∷ between s t cs) (between s t cs)
in_between s t c cs b is = ap (λ x. cond x (c ∷ between s t cs) (between s t cs)) is

within : (s t u : ℤ) → s <ℤ u → u ≤ℤ t → (int_lt s u && int_le u t) ≡ true
within s t u above by = grind (arith, ints)

too_early : (s t u : ℤ) → u ≤ℤ s → (int_lt s u && int_le u t) ≡ false
too_early s t u low = grind (arith, ints)

too_late : (s t u : ℤ) → t <ℤ u → (int_lt s u && int_le u t) ≡ false
too_late s t u high = grind (arith, ints)

-- nothing more behind a batch that is too late
none_between : (b : Batch) (g : List Batch) (cs : List TimedChange) (k : List Batch) (s t : ℤ) → Brings (b ∷ g) cs k → IsRising k → t <ℤ b.time → between s t cs ≡ []
none_between b g [] k s t brings rise late = refl
none_between b g (c ∷ cs) k s t brings rise late =
    let d = brings.0 in
    let is : IsCommit (b ∷ g) d c = brings.1 in
    let next = rising_front (d ∷ b ∷ g) cs k brings.2 rise in
    let up : b.time <ℤ d.time = next.0 in
    let same : d.time ≡ c.time = is.time in
    let high : t <ℤ d.time = omega (arith, ints) in
    in_between s t c cs false (too_late s t c.time (subst (λ u. t <ℤ u) same high)) ∙ none_between d (b ∷ g) cs k s t brings.2 rise high

above_both : (a b c : ℤ) → a <ℤ b → b <ℤ c → a <ℤ c
above_both a b c first second = omega (arith, ints)

low_enough : (a b : ℤ) → a <ℤ b → a ≤ℤ b
low_enough a b h = omega (arith, ints)

-- behind a batch that is in it
stretch_goes_on : (b : Batch) (g : List Batch) (cs : List TimedChange) (k : List Batch) (s t : ℤ) → Brings (b ∷ g) cs k → IsRising k → s <ℤ b.time → b.time ≤ℤ t
    → Brings (b ∷ g) (between s t cs) (until k t)
stretch_goes_on b g [] k s t brings rise above by =
    let front = rising_front (b ∷ g) [] k brings rise in
    ap (λ h. until h t) brings ∙ until_all (b ∷ g) t front by
stretch_goes_on b g (c ∷ cs) k s t brings rise above by =
    decide (int_le brings.0.time t) refl (λ there low. stretch_goes_on brings.0 (b ∷ g) cs k s t brings.2 rise there low)
  where
    d : Batch
    d = brings.0

    is : IsCommit (b ∷ g) d c
    is = brings.1

    next : IsRising (d ∷ b ∷ g)
    next = rising_front (d ∷ b ∷ g) cs k brings.2 rise

    up : b.time <ℤ d.time
    up = next.0

    decide : (le : Bool) → int_le d.time t ≡ le → (s <ℤ d.time → d.time ≤ℤ t → Brings (d ∷ b ∷ g) (between s t cs) (until k t))
        → Brings (b ∷ g) (between s t (c ∷ cs)) (until k t)
    decide true le more =
        let low : d.time ≤ℤ t = grind (arith, ints) in
        let there = above_both s b.time d.time above up in
        subst (λ xs. Brings (b ∷ g) xs (until k t)) (sym (in_between s t c cs true (subst (λ u. (int_lt s u && int_le u t) ≡ true) is.time (within s t d.time there low))))
        (d, is, more there low)
    decide false le more =
        let high : t <ℤ d.time = grind (arith, ints) in
        subst (λ xs. Brings (b ∷ g) xs (until k t))
        (sym (in_between s t c cs false (subst (λ u. (int_lt s u && int_le u t) ≡ false) is.time (too_late s t d.time high)) ∙ none_between d (b ∷ g) cs k s t brings.2 rise high))
        (until_behind d (b ∷ g) cs k t brings.2 rise (low_enough t d.time high) ∙ until_less d (b ∷ g) t high ∙ until_all (b ∷ g) t next.1 by)

pub brings_between : (g : List Batch) (cs : List TimedChange) (k : List Batch) (s t : ℤ) → Brings g cs k → IsRising k → EndsBy g s → s ≤ℤ t → Brings (until k s) (between s t cs) (until k t)
brings_between g [] k s t brings rise ends order =
    let front = rising_front g [] k brings rise in
    ap (λ h. until h t) brings ∙ until_all g t front (ends_later g s t ends order) ∙ sym (ap (λ h. until h s) brings ∙ until_all g s front ends)
brings_between g (c ∷ cs) k s t brings rise ends order =
    decide (int_le brings.0.time s) (int_le brings.0.time t) refl refl (λ low. brings_between (brings.0 ∷ g) cs k s t brings.2 rise low order)
  where
    d : Batch
    d = brings.0

    is : IsCommit g d c
    is = brings.1

    next : IsRising (d ∷ g)
    next = rising_front (d ∷ g) cs k brings.2 rise

    before_it : s <ℤ d.time → until k s ≡ g
    before_it high = until_behind d g cs k s brings.2 rise (low_enough s d.time high) ∙ until_less d g s high ∙ until_all g s next.1 ends

    decide : (first second : Bool) → int_le d.time s ≡ first → int_le d.time t ≡ second → (d.time ≤ℤ s → Brings (until k s) (between s t cs) (until k t))
        → Brings (until k s) (between s t (c ∷ cs)) (until k t)
    decide true second early le more =
        let low : d.time ≤ℤ s = grind (arith, ints) in
        subst (λ xs. Brings (until k s) xs (until k t)) (sym (in_between s t c cs false (subst (λ u. (int_lt s u && int_le u t) ≡ false) is.time (too_early s t d.time low))))
        (more low)
    decide false true above le more =
        let high : s <ℤ d.time = grind (arith, ints) in
        let low : d.time ≤ℤ t = grind (arith, ints) in
        subst (λ h. Brings h (between s t (c ∷ cs)) (until k t)) (sym (before_it high))
        (subst (λ xs. Brings g xs (until k t)) (sym (in_between s t c cs true (subst (λ u. (int_lt s u && int_le u t) ≡ true) is.time (within s t d.time high low))))
        (d, is, stretch_goes_on d g cs k s t brings.2 rise high low))
    decide false false above le more =
        let high : s <ℤ d.time = grind (arith, ints) in
        let late : t <ℤ d.time = grind (arith, ints) in
        subst (λ h. Brings h (between s t (c ∷ cs)) (until k t)) (sym (before_it high))
        (subst (λ xs. Brings g xs (until k t))
        (sym (in_between s t c cs false (subst (λ u. (int_lt s u && int_le u t) ≡ false) is.time (too_late s t d.time late)) ∙ none_between d g cs k s t brings.2 rise late))
        (until_behind d g cs k t brings.2 rise (low_enough t d.time late) ∙ until_less d g t late ∙ until_all g t next.1 (ends_later g s t ends order)))
