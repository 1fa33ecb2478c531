-- What is asked of the targets of a session, by their entries.
use Rattle.std.proofs.Common.{◌≡◌, ℕ, ◌<◌, ◌≤◌, ℤ, true, false, cond, List, [], ◌∷◌, length, Option, Some, None, Result, Ok, Err, map, refl, sym, ap, ◌∙◌, arith}
use Rattle.std.specs.Prelude.{⊤, IfErr, IfSome, OnOk, alloc_error, is_some, nat_le}
use Rattle.std.specs.FinMap.{from_entries, get, keys, len, len-entries}
use Rattle.std.specs.Option.{option_map}
use Rattle.std.specs.Ordering.{nat_cmp}
use Rattle.std.proofs.lemmas.Bool.Decides.{nat_tests}
use Rattle.std.proofs.lemmas.List.{length-map}
use Rattle.std.proofs.lemmas.Simd.{map-map}
use Rattle.fs_listen.specs.Listening.{Listened}
use Rattle.fs_target.specs.Entries.{IsAbsentAt, IsKeptOut, IsThereAt, Rises, found, ids_of}
use Rattle.fs_target.specs.Held.{Held, refusal}
use Rattle.fs_target.specs.Seen.{Seen, held_of, listed_in, listening_of}
use Rattle.fs_target.specs.declared.error.TargetError.{TargetError}
use Rattle.fs_target.specs.declared.error.TargetError.TheVariants as error
use Rattle.fs_target.proofs.Entries.{entries_of, found_absent, found_there, get_of}

-- what a search found, as something of its own
pub found_as : {A X : Type 0} (s : A → Seen) (g : Seen → X) (o : Option A) (id : ℕ) (ss : List Seen) → option_map s o ≡ found id ss
    → option_map (λ a. g (s a)) o ≡ get (from_entries {R = nat_cmp} (map (λ (t : Seen). (t.id, g t)) ss)) id
found_as {A = A} s g o id ss is = twice o ∙ ap (option_map g) is ∙ sym (get_of g id ss) where
  twice : (p : Option A) → option_map (λ a. g (s a)) p ≡ option_map g (option_map s p)
  twice None = refl
  twice (Some a) = refl

-- ---- what is at an id

pub is_there : (raised : Option ℤ) (id : ℕ) (ss : List Seen) (i : ℕ) → Rises ss → IsThereAt id ss i → is_some (get (listening_of raised ss).targets id) ≡ true
is_there raised id ss i rise at = ap is_some (get_of (λ (s : Seen). s.listened) id ss) ∙ as_found (found id ss) ∙ there ss rise at where
  as_found : (o : Option Seen) → is_some (option_map (λ (s : Seen). s.listened) o) ≡ is_some o
  as_found None = refl
  as_found (Some s) = refl

  there : (ts : List Seen) → Rises ts → IsThereAt id ts i → is_some (found id ts) ≡ true
  there [] rises is = let within : i < 0 = is.within in absurd (omega arith)
  there (t ∷ ts) rises is = ap is_some (found_there id (t ∷ ts) i t rises is)

pub none_there : (raised : Option ℤ) (id : ℕ) (ss : List Seen) (i : ℕ) → IsAbsentAt id ss i → get (listening_of raised ss).targets id ≡ None
none_there raised id ss i at = get_of (λ (s : Seen). s.listened) id ss ∙ ap (option_map (λ (s : Seen). s.listened)) (found_absent id ss i at)

-- ---- whether one more is taken

module _ (shards limit : ℕ) (raised : Option ℤ) (id : ℕ) (ss : List Seen) where
  abbrev held : Held
  held = held_of shards limit raised ss

  pub len_is : Rises ss → len held.listening.targets ≡ length ss
  len_is rise =
      len-entries held.listening.targets ∙ ap length (entries_of (λ (s : Seen). s.listened) ss rise) ∙ length-map ss listed_in

  pub refused_many : Rises ss → limit ≤ length ss → refusal id held ≡ Some (error.TooMany limit)
  refused_many rise high =
      let many : nat_le limit (len held.listening.targets) ≡ true = let long = len_is rise in grind (arith, nat_tests) in
      ap (λ b. cond b (Some (error.TooMany limit)) (cond (is_some (get held.listening.targets id)) (Some (error.InUse id)) None)) many

  few : Rises ss → length ss < limit → refusal id held ≡ cond (is_some (get held.listening.targets id)) (Some (error.InUse id)) None
  few rise low =
      let some : nat_le limit (len held.listening.targets) ≡ false = let long = len_is rise in grind (arith, nat_tests) in
      ap (λ b. cond b (Some (error.TooMany limit)) (cond (is_some (get held.listening.targets id)) (Some (error.InUse id)) None)) some

  pub refused_in_use : Rises ss → length ss < limit → (i : ℕ) → IsThereAt id ss i → refusal id held ≡ Some (error.InUse id)
  refused_in_use rise low i at =
      few rise low ∙ ap (λ b. cond b (Some (error.InUse id)) None) (is_there raised id ss i rise at)

  pub not_refused : Rises ss → length ss < limit → (i : ℕ) → IsAbsentAt id ss i → refusal id held ≡ None
  not_refused rise low i at =
      few rise low ∙ ap (λ (o : Option Listened). cond (is_some o) (Some (error.InUse id)) None) (none_there raised id ss i at)

-- the refusal itself, by what keeps it out
pub refused_by : (o : Option TargetError) (r : Result ⊤ TargetError) → OnOk r (o ≡ None) → IfErr r (IsKeptOut o) → IfSome o (λ e. r ≡ Err e)
refused_by None r ok err = tt
refused_by (Some e) (Ok u) ok err = absurd (cc)
refused_by (Some e) (Err f) ok err = ap (λ (x : TargetError). Err x) err

pub taken_by : (o : Option TargetError) (r : Result ⊤ TargetError) → IfErr r (IsKeptOut o) → o ≡ None → IfErr r (λ e. e ≡ error.Memory alloc_error)
taken_by None r err none = err
taken_by (Some e) r err none = absurd (cc)

-- ---- of all

pub ids_are : (raised : Option ℤ) (ss : List Seen) → Rises ss → ids_of ss ≡ keys (listening_of raised ss).targets
ids_are raised ss rise =
    sym (map-map (λ (e : ℕ × Listened). e.0) listed_in ss) ∙ sym (ap (map (λ (e : ℕ × Listened). e.0)) (entries_of (λ (s : Seen). s.listened) ss rise))
