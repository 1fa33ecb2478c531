-- The documents of a history at each time.
use Rattle.std.proofs.Common.{◌≡◌, ℤ, ◌≤ℤ◌, ◌<ℤ◌, true, false, cond, List, [], ◌∷◌, ◌++◌, refl, sym, ap, ◌∙◌, subst, arith}
use Rattle.std.specs.Prelude.{int_lt}
use Rattle.std.proofs.lemmas.Int.{ints}
use Rattle.fs_time.proofs.Tests.{not_after, after}
use Rattle.fs_write.specs.After.{after_batch}
use Rattle.fs_write.specs.Batch.{Docs, AreChanges, IsOutcome}
use Rattle.fs_write.specs.declared.change.Change.{Change}
use Rattle.fs_write.specs.declared.write.Write.{Write}
use Rattle.fs_write.specs.declared.write_result.WriteResult.{WriteResult}
use Rattle.fs_history.specs.History.{at, before, whole, EndsBefore, EndsBy, IsRising}
use Rattle.fs_history.specs.declared.batch.Batch.{Batch}

-- ---- tests of times

earlier : (a b : ℤ) → a <ℤ b → int_lt a b ≡ true
earlier a b h = grind (arith, ints)

not_earlier : (a b : ℤ) → b ≤ℤ a → int_lt a b ≡ false
not_earlier a b h = grind (arith, ints)

-- ---- where a history ends

pub ends_by : (h : List Batch) (s t : ℤ) → EndsBefore h s → s ≤ℤ t → EndsBy h t
ends_by [] s t ends within = tt
ends_by (b ∷ h) s t ends within = omega (arith, ints)

pub ends_earlier : (h : List Batch) (s t : ℤ) → EndsBefore h s → s <ℤ t → EndsBefore h t
ends_earlier [] s t ends within = tt
ends_earlier (b ∷ h) s t ends within = omega (arith, ints)

-- any of its batches is before what its last is before
inside : (later : List Batch) (b : Batch) (h : List Batch) (t : ℤ) → IsRising (later ++ b ∷ h) → EndsBefore (later ++ b ∷ h) t → b.time <ℤ t
inside [] b h t rise ends = ends
inside (c ∷ later) b h t rise ends = let first : b.time <ℤ c.time = inside later b h c.time rise.1 rise.0 in omega (arith, ints)

-- ---- times

pub at_whole : (h : List Batch) (t : ℤ) → IsRising h → EndsBy h t → at h t ≡ whole h
at_whole [] t rise ends = refl
at_whole (b ∷ h) t rise ends =
    ap (λ c. cond c (after_batch (at h t) b.writes b.time) (at h t)) (not_after b.time t ends)
    ∙ ap (λ docs. after_batch docs b.writes b.time) (at_whole h t rise.1 (ends_by h b.time t rise.0 ends))

before_all : (h : List Batch) (t : ℤ) → IsRising h → EndsBefore h t → before h t ≡ whole h
before_all [] t rise ends = refl
before_all (b ∷ h) t rise ends =
    ap (λ c. cond c (after_batch (before h t) b.writes b.time) (before h t)) (earlier b.time t ends)
    ∙ ap (λ docs. after_batch docs b.writes b.time) (before_all h t rise.1 (ends_earlier h b.time t rise.0 ends))

pub before_skips : (b : Batch) (h : List Batch) (t : ℤ) → t ≤ℤ b.time → before (b ∷ h) t ≡ before h t
before_skips b h t within = ap (λ c. cond c (after_batch (before h t) b.writes b.time) (before h t)) (not_earlier b.time t within)

pub before_whole : (b : Batch) (h : List Batch) → IsRising (b ∷ h) → before (b ∷ h) b.time ≡ whole h
before_whole b h rise = before_skips b h b.time (omega (arith, ints)) ∙ before_all h b.time rise.1 rise.0

pub later_unseen : (b : Batch) (h : List Batch) (t : ℤ) → t <ℤ b.time → at (b ∷ h) t ≡ at h t
later_unseen b h t later = ap (λ c. cond c (after_batch (at h t) b.writes b.time) (at h t)) (after b.time t later)

-- ---- batches

pub batch_by_batch : (later : List Batch) (b : Batch) (h : List Batch) → IsRising (later ++ b ∷ h)
    → at (later ++ b ∷ h) b.time ≡ after_batch (before (later ++ b ∷ h) b.time) b.writes b.time
batch_by_batch [] b h rise =
    at_whole (b ∷ h) b.time rise (omega (arith, ints)) ∙ ap (λ docs. after_batch docs b.writes b.time) (sym (before_whole b h rise))
batch_by_batch (c ∷ later) b h rise =
    let first : b.time <ℤ c.time = inside later b h c.time rise.1 rise.0 in
    later_unseen c (later ++ b ∷ h) b.time first
    ∙ batch_by_batch later b h rise.1
    ∙ ap (λ docs. after_batch docs b.writes b.time) (sym (before_skips c (later ++ b ∷ h) b.time (omega (arith, ints))))

pub changes_differ : ((docs : Docs) (ws : List Write) (t : ℤ) (cs : List Change) (rs : List WriteResult) → IsOutcome docs ws t cs rs → AreChanges docs (after_batch docs ws t) cs)
    → (later : List Batch) (b : Batch) (h : List Batch) (cs : List Change) (rs : List WriteResult) → IsRising (later ++ b ∷ h)
    → IsOutcome (before (later ++ b ∷ h) b.time) b.writes b.time cs rs
    → AreChanges (before (later ++ b ∷ h) b.time) (at (later ++ b ∷ h) b.time) cs
changes_differ changed later b h cs rs rise had =
    subst (λ docs. AreChanges (before (later ++ b ∷ h) b.time) docs cs) (sym (batch_by_batch later b h rise)) (changed (before (later ++ b ∷ h) b.time) b.writes b.time cs rs had)
