-- Commits whose changes are noted one after another.
use Rattle.std.proofs.Common.{◌≡◌, ℕ, ◌+◌, ◌≤◌, ℤ, ◌≤ℤ◌, ◌<ℤ◌, List, ◌∷◌, length, map, sym, ap, ◌∙◌, subst, arith}
use Rattle.std.proofs.lemmas.Int.{ints}
use Rattle.std.proofs.lemmas.List.{length-map}
use Rattle.std.proofs.lemmas.List.Elements.{All-weaker}
use Rattle.fs_write.specs.declared.change.Change.{Change}
use Rattle.fs_write.specs.declared.timed_change.TimedChange.{TimedChange}
use Rattle.fs_store.specs.Logged.{AreBy}
use Rattle.fs_store.specs.Logs.{AllBy, HavePlaces, Noticed, with_all_noted}
use Rattle.fs_store.specs.Noted.{all_noted, names_of, noted_names}
use Rattle.fs_store.specs.Room.{change_count}
use Rattle.fs_store.specs.declared.noted.Noted.{Noted}
use Rattle.fs_store.proofs.Logging.{with_all-append}

pub by_later : (logs : Noticed) (s t : ℤ) → s ≤ℤ t → AllBy logs s → AllBy logs t
by_later logs s t low by =
    All-weaker (λ (ns : List Noted). AreBy ns s) (λ (ns : List Noted). AreBy ns t)
    (λ ns all. All-weaker (λ (n : Noted). n.time ≤ℤ s) (λ (n : Noted). n.time ≤ℤ t) (λ n at. omega (arith, ints)) ns all) logs by

pub fewer_places : (shards : ℕ) (rooms : List ℕ) (m n : ℕ) → n ≤ m → HavePlaces shards rooms m → HavePlaces shards rooms n
fewer_places shards rooms m n few have k within = let h = have k within in omega arith

-- as many changes as names
pub same_count : (ds es : List Change) → map (λ d. d.name) ds ≡ map (λ d. d.name) es → length ds ≡ length es
same_count ds es same = sym (length-map ds (λ (d : Change). d.name)) ∙ ap length same ∙ length-map es (λ (d : Change). d.name)

-- some commits are noted, and the others are still to be
pub record StillToNote (shards : ℕ) (first now : Noticed) (rooms : List ℕ) (last : ℤ) (all rest : List TimedChange) : Type 0 where
  pub by : AllBy now last
  pub places : HavePlaces shards rooms (change_count rest)
  pub noted : with_all_noted shards now (all_noted rest) ≡ with_all_noted shards first (all_noted all)

module _ (shards : ℕ) (first now : Noticed) (rooms : List ℕ) (last : ℤ) (all : List TimedChange) (c : TimedChange) (rest : List TimedChange)
    (still : StillToNote shards first now rooms last all (c ∷ rest)) (above : last <ℤ c.time) (spent : List Change) (same : map (λ d. d.name) spent ≡ map (λ d. d.name) c.changes) where
  pub by_then : AllBy now c.time
  by_then = by_later now last c.time (omega (arith, ints)) still.by

  pub places_now : HavePlaces shards rooms (length spent)
  places_now = let count = same_count spent c.changes same in fewer_places shards rooms (length c.changes + change_count rest) (length spent) (omega arith) still.places

  pub noted_next : (new : Noticed) (left : List ℕ) → new ≡ with_all_noted shards now (noted_names c.time c.id (names_of spent)) → AllBy new c.time
      → ((n : ℕ) → HavePlaces shards rooms (length spent + n) → HavePlaces shards left n) → StillToNote shards first new left c.time all rest
  noted_next new left is by takes =
      let count = same_count spent c.changes same in
      let enough : HavePlaces shards rooms (length spent + change_count rest) = subst (λ n. HavePlaces shards rooms (n + change_count rest)) (sym count) still.places in
      record {
        by = by;
        places = takes (change_count rest) enough;
        noted = ap (λ logs. with_all_noted shards logs (all_noted rest)) (is ∙ ap (λ names. with_all_noted shards now (noted_names c.time c.id names)) same)
            ∙ sym (with_all-append shards now (noted_names c.time c.id (names_of c.changes)) (all_noted rest))
            ∙ still.noted;
      }
