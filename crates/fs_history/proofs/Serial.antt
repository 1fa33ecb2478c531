-- A history in which each batch read what the batches before it leave is serial.
use Rattle.std.proofs.Common.{◌≡◌, ℤ, ◌<ℤ◌, List, [], ◌∷◌, ◌⊎◌, inl, inr, sym, subst, arith}
use Rattle.std.specs.List.{Contains}
use Rattle.std.proofs.lemmas.Int.{ints}
use Rattle.std.proofs.lemmas.List.Elements.{All-contains, All-from_recursion}
use Rattle.fs_query.proofs.Rising.{has_cases, has_none}
use Rattle.fs_history.specs.History.{EndsBefore, IsRising, before, whole}
use Rattle.fs_history.specs.Serial.{AreSerial, AreShown, IsSerial, IsShown}
use Rattle.fs_history.specs.declared.batch.Batch.{Batch}
use Rattle.fs_history.specs.declared.read.Read.{Read}
use Rattle.fs_history.proofs.HistoryLaws.{before_skips, before_whole, ends_earlier}

-- a batch that is there is before a time that all are before
is_earlier : (h : List Batch) (t : ℤ) (b : Batch) → IsRising h → EndsBefore h t → Contains h b → b.time <ℤ t
is_earlier [] t b rise ends has = absurd (has_none b has)
is_earlier (c ∷ h) t b rise ends has = at (λ later. is_earlier h t b rise.1 (ends_earlier h c.time t rise.0 ends) later) (has_cases c h b has)
  where
    at : (Contains h b → b.time <ℤ t) → (c ≡ b) ⊎ Contains h b → b.time <ℤ t
    at more (inl same) = subst (λ (x : Batch). x.time <ℤ t) same ends
    at more (inr later) = more later

module _ (c : Batch) (h : List Batch) (rise : IsRising (c ∷ h)) where
  of_last : AreShown (whole h) c.reads → (r : Read) → Contains c.reads r → IsShown (before (c ∷ h) c.time) r
  of_last shown r read =
      subst (λ docs. IsShown docs r) (sym (before_whole c h rise)) (All-contains (IsShown (whole h)) c.reads r (All-from_recursion (IsShown (whole h)) c.reads shown) read)

  of_other : (b : Batch) → Contains h b → (r : Read) → IsShown (before h b.time) r → IsShown (before (c ∷ h) b.time) r
  of_other b later r shown =
      let first = is_earlier h c.time b rise.1 rise.0 later in
      subst (λ docs. IsShown docs r) (sym (before_skips c h b.time (omega (arith, ints)))) shown

pub serial_is : (h : List Batch) → IsRising h → AreSerial h → IsSerial h
serial_is [] rise serial b has r read = absurd (has_none b has)
serial_is (c ∷ h) rise serial b has r read = at (λ later. serial_is h rise.1 serial.1 b later r read) (has_cases c h b has)
  where
    at : (Contains h b → IsShown (before h b.time) r) → (c ≡ b) ⊎ Contains h b → IsShown (before (c ∷ h) b.time) r
    at more (inl same) = subst (λ (x : Batch). Contains x.reads r → IsShown (before (c ∷ h) x.time) r) same (of_last c h rise serial.0 r) read
    at more (inr later) = of_other c h rise b later r (more later)
