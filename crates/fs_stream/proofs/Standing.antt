-- What becomes of the streams keeps that each keeps its last response, and that sessions own streams that were opened.
use Rattle.std.proofs.Common.{◌≡◌, ℕ, zero, suc, ◌<◌, ◌≤◌, ◌-◌, Bool, true, false, cond, List, [], ◌∷◌, ◌++◌, Option, Some, None, Result, Ok, Err, length, refl, sym, ap, ◌∙◌, subst, arith, slice_index_or, slice_set}
use Rattle.std.specs.Prelude.{◌↔◌, ◌==◌, is_some, not}
use Rattle.std.specs.FinMap.{FinMap, entries, get, get-empty, get-insert, get-remove, insert, remove}
use Rattle.std.specs.Option.{option_map_or}
use Rattle.std.specs.Ordering.{eq_by_cmp, nat_cmp}
use Rattle.std.proofs.lemmas.Bool.Decides.{nat_tests}
use Rattle.std.proofs.lemmas.Cmp.{nat_cmp_total}
use Rattle.std.proofs.lemmas.List.{length-set}
use Rattle.fs_pairs.specs.Pairs.{AreDistinct, freed, key_of}
use Rattle.fs_pairs.proofs.Laws.{distinct_fewer, distinct_freed, distinct_more, freed_spares, given_again}
use Rattle.fs_stream.specs.Answers.{batch_of, by_owned, is_opened, missed, owns_other, resume_answer, resumption_told, take_answer}
use Rattle.fs_stream.specs.Stands.{Stands}
use Rattle.fs_stream.specs.Streams.{Streams, fresh, handed_to, left_by, none_opened, opened_by, stream_of, with_stream}
use Rattle.fs_stream.specs.declared.kept.Kept.{Kept}
use Rattle.fs_stream.specs.declared.error.StreamError.{StreamError}
use Rattle.fs_stream.specs.declared.error.StreamError.TheVariants as error
use Rattle.fs_stream.specs.declared.stream.Stream.{Stream}
use Rattle.fs_stream.specs.declared.take.Resumed.{Resumed}
use Rattle.fs_stream.specs.declared.take.Take.{Take}
use Rattle.fs_stream.specs.declared.take.Take.TheVariants as take

-- ---- streams by their numbers

pub stream_at : (n : ℕ) (m : Streams) → 0 < n → stream_of n m ≡ slice_index_or m.opened (n - 1) fresh
stream_at n m above = ap (λ k. stream_of k m) (let is : n ≡ suc (n - 1) = omega (arith, above) in is)

pub with_at : (n : ℕ) (s : Stream) (m : Streams) → 0 < n → with_stream n s m ≡ record m { opened = slice_set m.opened (n - 1) s }
with_at n s m above = ap (λ k. with_stream k s m) (let is : n ≡ suc (n - 1) = omega (arith, above) in is)

module _ {X : Type 0} (d : X) where
  -- the one that all others are like is added
  more : (xs : List X) (i : ℕ) → slice_index_or (xs ++ d ∷ []) i d ≡ slice_index_or xs i d
  more [] zero = refl
  more [] (suc i) = refl
  more (x ∷ xs) zero = refl
  more (x ∷ xs) (suc i) = more xs i

  -- what holds of each holds with another in a place, if it holds of that
  each_set : (P : X → Type 0) (xs : List X) (i : ℕ) (y : X) → ((k : ℕ) → P (slice_index_or xs k d)) → P y → (j : ℕ) → P (slice_index_or (slice_set xs i y) j d)
  each_set P [] i y all here j = all j
  each_set P (x ∷ xs) zero y all here zero = here
  each_set P (x ∷ xs) zero y all here (suc j) = all (suc j)
  each_set P (x ∷ xs) (suc i) y all here zero = all zero
  each_set P (x ∷ xs) (suc i) y all here (suc j) = each_set P xs i y (λ k. all (suc k)) here j

-- a stream that is busy was opened
pub busy_there : (n : ℕ) (m : Streams) → (stream_of n m).busy ≡ true → (0 < n) × (n ≤ length m.opened)
busy_there zero m busy = absurd (cc)
busy_there (suc i) m busy = let inside = within m.opened i busy in (omega arith, omega (arith, inside)) where
  within : (xs : List Stream) (i : ℕ) → (slice_index_or xs i fresh).busy ≡ true → i < length xs
  within [] i busy = absurd (let both : false ≡ true = busy in cc)
  within (x ∷ xs) zero busy = omega arith
  within (x ∷ xs) (suc i) busy = let inside = within xs i busy in omega (arith, inside)

-- ---- what stands

pub stands_none : (m : Streams) (limit : ℕ) → m ≡ none_opened limit → Stands m
stands_none m limit is = subst Stands (sym is) (record {
  kept = each;
  opened = λ session n found. absurd (let none : None ≡ Some n = sym (get-empty nat_cmp session) ∙ found in cc);
  distinct = λ one other n found found_too. absurd (let none : None ≡ Some n = sym (get-empty nat_cmp one) ∙ found in cc);
}) where
  each : (n : ℕ) → ((stream_of n (none_opened limit)).kept ≡ None) ↔ ((stream_of n (none_opened limit)).finished ≡ 0)
  each zero = ((λ _. refl), (λ _. refl))
  each (suc i) = ((λ _. refl), (λ _. refl))

-- who a stream is given to owns one that was opened
pub owned_more : (owners : FinMap nat_cmp ℕ) (session n to : ℕ) → 0 < n → n ≤ to → ((s k : ℕ) → get owners s ≡ Some k → (0 < k) × (k ≤ to))
    → (s k : ℕ) → get (insert owners session n) s ≡ Some k → (0 < k) × (k ≤ to)
owned_more owners session n to above below each s k found = by_test (eq_by_cmp nat_cmp s session) (sym (get-insert nat_cmp_total owners session n s) ∙ found) where
  by_test : (same : Bool) → cond same (Some n) (get owners s) ≡ Some k → (0 < k) × (k ≤ to)
  by_test true is = let same : n ≡ k = cc in (omega (arith, same, above), omega (arith, same, below))
  by_test false is = each s k is

pub owned_fewer : (owners : FinMap nat_cmp ℕ) (session to : ℕ) → ((s k : ℕ) → get owners s ≡ Some k → (0 < k) × (k ≤ to))
    → (s k : ℕ) → get (remove owners session) s ≡ Some k → (0 < k) × (k ≤ to)
owned_fewer owners session to each s k found = by_test (eq_by_cmp nat_cmp s session) (sym (get-remove nat_cmp_total owners session s) ∙ found) where
  by_test : (same : Bool) → cond same None (get owners s) ≡ Some k → (0 < k) × (k ≤ to)
  by_test true is = absurd (let none : None ≡ Some k = is in cc)
  by_test false is = each s k is

owned_freed : (owners : FinMap nat_cmp ℕ) (n to : ℕ) (key : Option ℕ) → ((s k : ℕ) → get owners s ≡ Some k → (0 < k) × (k ≤ to))
    → (s k : ℕ) → get (option_map_or (remove owners) key owners) s ≡ Some k → (0 < k) × (k ≤ to)
owned_freed owners n to None each = each
owned_freed owners n to (Some key) each = owned_fewer owners key to each

abbrev pub KeepsOne : Stream → Type 0
KeepsOne s = (s.kept ≡ None) ↔ (s.finished ≡ 0)

pub stands_opened : (session : ℕ) (m : Streams) → Stands m → Stands (opened_by session m)
stands_opened session m stands = record {
  kept = each;
  opened = owned;
  distinct = distinct_more m.owners session (suc (length m.opened)) stands.distinct (λ other found. let each = stands.opened other (suc (length m.opened)) found in omega (arith, each.1));
} where
  each : (n : ℕ) → KeepsOne (stream_of n (opened_by session m))
  each zero = stands.kept zero
  each (suc i) = subst KeepsOne (sym (more fresh m.opened i)) (stands.kept (suc i))

  longer : (xs : List Stream) (x : Stream) → length (xs ++ x ∷ []) ≡ suc (length xs)
  longer [] x = refl
  longer (y ∷ xs) x = ap suc (longer xs x)

  owned : (s k : ℕ) → get (opened_by session m).owners s ≡ Some k → (0 < k) × (k ≤ length (opened_by session m).opened)
  owned =
      subst (λ to. (s k : ℕ) → get (insert m.owners session (suc (length m.opened))) s ≡ Some k → (0 < k) × (k ≤ to)) (sym (longer m.opened fresh))
      (owned_more m.owners session (suc (length m.opened)) (suc (length m.opened)) (omega arith) (omega arith)
      (λ s k found. let each = stands.opened s k found in (each.0, omega (arith, each.1))))

pub stands_handed : (session n : ℕ) (m : Streams) → 0 < n → n ≤ length m.opened → Stands m → Stands (handed_to session n m)
stands_handed session n m above below stands = record {
  kept = each;
  opened = owned_more (freed m.owners n) session n (length m.opened) above below (owned_freed m.owners n (length m.opened) (key_of n (entries m.owners)) stands.opened);
  distinct = distinct_more (freed m.owners n) session n (distinct_freed m.owners n stands.distinct) (freed_spares m.owners n stands.distinct);
} where
  each : (k : ℕ) → KeepsOne (stream_of k (handed_to session n m))
  each zero = stands.kept zero
  each (suc i) = stands.kept (suc i)

pub stands_with : (n : ℕ) (s : Stream) (m : Streams) → KeepsOne s → Stands m → Stands (with_stream n s m)
stands_with zero s m one stands = stands
stands_with (suc i) s m one stands = record { kept = each; opened = owned; distinct = stands.distinct } where
  each : (k : ℕ) → KeepsOne (stream_of k (with_stream (suc i) s m))
  each zero = stands.kept zero
  each (suc j) = each_set fresh KeepsOne m.opened i s (λ k. stands.kept (suc k)) one j

  owned : (session k : ℕ) → get m.owners session ≡ Some k → (0 < k) × (k ≤ length (slice_set m.opened i s))
  owned = subst (λ to. (session k : ℕ) → get m.owners session ≡ Some k → (0 < k) × (k ≤ to)) (sym (length-set m.opened i s)) stands.opened

pub keeps_last : (n : ℕ) (kept : Kept) → KeepsOne (record { finished = suc n; kept = Some kept; busy = false })
keeps_last n kept = ((λ none. absurd (cc)), (λ zero. absurd (cc)))

pub stands_set : (n : ℕ) (s : Stream) (m : Streams) → 0 < n → KeepsOne s → Stands m → Stands (record m { opened = slice_set m.opened (n - 1) s })
stands_set n s m above one stands = subst Stands (with_at n s m above) (stands_with n s m one stands)

pub stands_left : (session : ℕ) (m : Streams) → Stands m → Stands (left_by session m)
stands_left session m stands = record { kept = each; opened = owned_fewer m.owners session (length m.opened) stands.opened; distinct = distinct_fewer m.owners session stands.distinct } where
  each : (k : ℕ) → KeepsOne (stream_of k (left_by session m))
  each zero = stands.kept zero
  each (suc i) = stands.kept (suc i)

-- ---- what is told

new_is : (n : ℕ) (s : Stream) (missed : Result (Option Kept) StreamError) (k : ℕ) → batch_of n s missed ≡ Ok (take.New k) → n ≡ k
new_is n s (Err e) k is = absurd (cc)
new_is n s (Ok (Some kept)) k is = absurd (cc)
new_is n s (Ok None) k is = by_busy s.busy is where
  told : Bool → Result Take StreamError
  told busy = Ok (cond busy (take.InProgress s.finished) (take.New n))

  by_busy : (busy : Bool) → told busy ≡ Ok (take.New k) → n ≡ k
  by_busy true is = absurd (cc)
  by_busy false is = cc

free_is : (n : ℕ) (s : Stream) (missed : Result (Option Kept) StreamError) (k : ℕ) → batch_of n s missed ≡ Ok (take.New k) → s.busy ≡ false
free_is n s (Err e) k is = absurd (cc)
free_is n s (Ok (Some kept)) k is = absurd (cc)
free_is n s (Ok None) k is = by_busy s.busy is where
  told : Bool → Result Take StreamError
  told busy = Ok (cond busy (take.InProgress s.finished) (take.New n))

  by_busy : (busy : Bool) → told busy ≡ Ok (take.New k) → busy ≡ false
  by_busy true is = absurd (cc)
  by_busy false is = refl

-- a new batch is of a stream that has none in progress
pub new_free : (session known k : ℕ) (m : Streams) → take_answer session known m ≡ Ok (take.New k) → (stream_of k m).busy ≡ false
new_free session known k m is = by_owner (get m.owners session) is where
  by_owner : (o : Option ℕ) → by_owned o known m ≡ Ok (take.New k) → (stream_of k m).busy ≡ false
  by_owner None told = absurd (cc)
  by_owner (Some n) told =
      subst (λ i. (stream_of i m).busy ≡ false) (new_is n (stream_of n m) (missed (stream_of n m) known) k told) (free_is n (stream_of n m) (missed (stream_of n m) known) k told)

-- and the session owns it
pub new_owned : (session known k : ℕ) (m : Streams) → take_answer session known m ≡ Ok (take.New k) → get m.owners session ≡ Some k
new_owned session known k m is = by_owner (get m.owners session) is where
  by_owner : (o : Option ℕ) → by_owned o known m ≡ Ok (take.New k) → o ≡ Some k
  by_owner None told = absurd (cc)
  by_owner (Some n) told = ap Some (new_is n (stream_of n m) (missed (stream_of n m) known) k told)

-- a stream that is set leaves its owner
pub owners_with : (n : ℕ) (s : Stream) (m : Streams) → (with_stream n s m).owners ≡ m.owners
owners_with zero s m = refl
owners_with (suc i) s m = refl

-- and one in progress of a stream that has one
pub going_busy : (session known finished : ℕ) (m : Streams) → take_answer session known m ≡ Ok (take.InProgress finished) → (n : ℕ) × ((stream_of n m).busy ≡ true)
going_busy session known finished m is = by_owner (get m.owners session) is where
  told : ℕ → Bool → Result Take StreamError
  told n busy = Ok (cond busy (take.InProgress (stream_of n m).finished) (take.New n))

  by_busy : (n : ℕ) (busy : Bool) → told n busy ≡ Ok (take.InProgress finished) → busy ≡ true
  by_busy n true is = refl
  by_busy n false is = absurd (cc)

  by_missed : (n : ℕ) (t : Result (Option Kept) StreamError) → batch_of n (stream_of n m) t ≡ Ok (take.InProgress finished) → (stream_of n m).busy ≡ true
  by_missed n (Err e) is = absurd (cc)
  by_missed n (Ok (Some kept)) is = absurd (cc)
  by_missed n (Ok None) is = by_busy n (stream_of n m).busy is

  by_owner : (o : Option ℕ) → by_owned o known m ≡ Ok (take.InProgress finished) → (n : ℕ) × ((stream_of n m).busy ≡ true)
  by_owner None is = absurd (cc)
  by_owner (Some n) is = (n, by_missed n (missed (stream_of n m) known) is)

-- a new batch is of a stream that was opened
pub new_there : (session known k : ℕ) (m : Streams) → Stands m → take_answer session known m ≡ Ok (take.New k) → (0 < k) × (k ≤ length m.opened)
new_there session known k m stands is = by_owner (get m.owners session) refl is where
  by_owner : (o : Option ℕ) → get m.owners session ≡ o → by_owned o known m ≡ Ok (take.New k) → (0 < k) × (k ≤ length m.opened)
  by_owner None owns told = absurd (cc)
  by_owner (Some n) owns told = subst (λ i. (0 < i) × (i ≤ length m.opened)) (new_is n (stream_of n m) (missed (stream_of n m) known) k told) (stands.opened session n owns)

-- who may resume a stream
pub may_resume : (session n known : ℕ) (m : Streams) (r : Resumed) → resume_answer session n known m ≡ Ok r → (is_opened n m ≡ true) × (owns_other session n m ≡ false)
may_resume session n known m r is = by_tests (is_opened n m) (owns_other session n m) is where
  by_tests : (opened other : Bool) → cond (not opened) (Err (error.Unknown n)) (cond other (Err error.Second) (resumption_told (stream_of n m) known)) ≡ Ok r
      → (opened ≡ true) × (other ≡ false)
  by_tests true false is = (refl, refl)
  by_tests true true is = absurd (cc)
  by_tests false other is = absurd (cc)

-- between which numbers one is that was opened
pub opened_between : (n : ℕ) (m : Streams) → is_opened n m ≡ true → (0 < n) × (n ≤ length m.opened)
opened_between n m is = grind (arith, nat_tests)

-- a stream that goes to who owns it
pub handed_again : (session n : ℕ) (m : Streams) → AreDistinct m.owners → get m.owners session ≡ Some n → handed_to session n m ≡ m
handed_again session n m differ owns = ap (λ o. record m { owners = o }) (given_again m.owners session n differ owns)

-- who owns a stream, and no other than one, owns that one
pub owned_as : (session n own : ℕ) (m : Streams) → get m.owners session ≡ Some own → owns_other session n m ≡ false → own ≡ n
owned_as session n own m owns alone = its_own own n (sym (ap (λ o. option_map_or (λ k. not (k == n)) o false) owns) ∙ alone) where
  its_own : (a b : ℕ) → not (a == b) ≡ false → a ≡ b
  its_own a b same = grind (arith, nat_tests)

-- so nothing is changed where it is handed over
pub handed_there : (session n : ℕ) (m : Streams) (o : Option ℕ) → get m.owners session ≡ o → is_some o ≡ true → owns_other session n m ≡ false → AreDistinct m.owners → handed_to session n m ≡ m
handed_there session n m None owns some alone differ = absurd (cc)
handed_there session n m (Some own) owns some alone differ = handed_again session n m differ (owns ∙ ap Some (owned_as session n own m owns alone))
