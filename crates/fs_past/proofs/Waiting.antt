-- Whom a commit waits for: the commits on the board that write a name which it writes, and the least of them is told.
use Rattle.std.proofs.Common.{◌≡◌, ℕ, Bool, true, false, cond, List, [], ◌∷◌, map, Option, Some, None, refl, sym, ap, ◌∙◌, subst, arith}
use Rattle.std.specs.Prelude.{◌≢◌, ◌==◌, ◌&&◌, ◌||◌, IsTrue}
use Rattle.std.specs.List.{AllByRecursion, filter, list_any}
use Rattle.fs_locks.specs.Holds.{IsLeastOther}
use Rattle.fs_machine.proofs.Behind.{IsLeastIn, above, is_one, least_in, one_next}
use Rattle.fs_machine.specs.Behind.{least, write_same, writing_same}
use Rattle.fs_machine.specs.IdsAreDrawn.{times_in}
use Rattle.fs_machine.specs.Past.{batches}
use Rattle.fs_machine.specs.declared.unreleased.Unreleased.{Unreleased}
use Rattle.fs_path.specs.declared.name.DocName.{DocName}
use Rattle.fs_write.specs.Batch.{Docs}
use Rattle.fs_write.specs.WrittenName.{is_written, written_name}
use Rattle.fs_write.specs.declared.write.Write.{Write}
use Rattle.fs_past.specs.Kept.{Stands, all_unreleased, writes_name}
use Rattle.fs_past.proofs.Holding.{none_at_all}
use Rattle.fs_past.proofs.OnBoard.{Posted1, count_by}

-- ---- the least of some numbers, other than one that isn't among them

not_among : (ns : List ℕ) (by j : ℕ) → is_one ns by ≡ false → IsTrue (is_one ns j) → j ≢ by
not_among ns by j none is same = let here = ap (is_one ns) same in absurd (cc)

-- the least other than one of those that have a property is the least of some numbers, where these are the others that have it
module _ (P : ℕ → Type 0) (by : ℕ) (ns : List ℕ) (from : (j : ℕ) → IsTrue (is_one ns j) → P j) (other : (j : ℕ) → IsTrue (is_one ns j) → j ≢ by) (to : (j : ℕ) → P j → j ≢ by → IsTrue (is_one ns j)) where
  least_by : (told found : Option ℕ) → IsLeastOther P by told → IsLeastIn ns found → told ≡ found
  least_by None None is least = refl
  least_by None (Some m) is least = absurd (other m least.0 (is m (from m least.0)))
  least_by (Some x) None is least = let nothing : is_one ns x ≡ false = ap (λ ks. is_one ks x) least in let some = to x is.has is.other in absurd (cc)
  least_by (Some x) (Some m) is least =
      let far = is.least m (from m least.0) (other m least.0) in
      let near = above ns m x least.1 (to x is.has is.other) in
      let same : x ≡ m = omega arith in ap Some same

  pub least_other : (told : Option ℕ) → IsLeastOther P by told → told ≡ least ns
  least_other told is = least_by told (least ns) is (least_in ns)

-- ---- who writes a name that these writes write

-- in the machine's list
abbrev pub writes_in : ℕ → DocName → List Unreleased → Bool
writes_in i n us = list_any (λ u. u.batch.id == i && is_written n u.batch.writes) us

and_any : {A : Type 0} (a : Bool) (p q : A → Bool) (xs : List A) → list_any (λ x. (a && p x) || q x) xs ≡ ((a && list_any p xs) || list_any q xs)
and_any true p q [] = refl
and_any false p q [] = refl
and_any a p q (x ∷ xs) = ap (λ b. ((a && p x) || q x) || b) (and_any a p q xs) ∙ by a (p x) (q x) (list_any p xs) (list_any q xs)
  where
    by : (a x y ps qs : Bool) → (((a && x) || y) || ((a && ps) || qs)) ≡ ((a && (x || ps)) || (y || qs))
    by true true y ps qs = refl
    by true false true true qs = refl
    by true false true false qs = refl
    by true false false ps qs = refl
    by false x true ps qs = refl
    by false x false ps qs = refl

pub who_writes : (us : List Unreleased) (ws : List Write) (i : ℕ) → list_any (λ w. writes_in i (written_name w) us) ws ≡ is_one (writing_same us ws) i
who_writes [] ws i = none_at_all ws
who_writes (u ∷ us) ws i =
    and_any (u.batch.id == i) (λ w. is_written (written_name w) u.batch.writes) (λ w. writes_in i (written_name w) us) ws
    ∙ ap (λ b. (u.batch.id == i && write_same ws u.batch.writes) || b) (who_writes us ws i)
    ∙ one_next (λ v. v.batch.id) (λ v. write_same ws v.batch.writes) u us i (write_same ws u.batch.writes)

-- one that has no number of theirs isn't among them
new_next : (u : Unreleased) (us : List Unreleased) (ws : List Write) (by : ℕ) (b : Bool) → (u.batch.id == by) ≡ false → is_one (writing_same us ws) by ≡ false
    → is_one (map (λ v. v.batch.id) (cond b (u ∷ filter (λ v. write_same ws v.batch.writes) us) (filter (λ v. write_same ws v.batch.writes) us))) by ≡ false
new_next u us ws by true other more = ap (λ b. b || is_one (writing_same us ws) by) other ∙ more
new_next u us ws by false other more = more

new_number : (us : List Unreleased) (ws : List Write) (by : ℕ) → times_in by (batches us) ≡ 0 → is_one (writing_same us ws) by ≡ false
new_number [] ws by none = refl
new_number (u ∷ us) ws by none =
    let both = count_by (u.batch.id == by) (times_in by (batches us)) none in
    new_next u us ws by (write_same ws u.batch.writes) both.0 (new_number us ws by both.1)

-- ---- on the board

on_board : (docs : Docs) (cs : List Posted1) (i : ℕ) (n : DocName) → AllByRecursion (Stands docs) cs → writes_name i n cs ≡ writes_in i n (all_unreleased cs)
on_board docs [] i n stand = refl
on_board docs (c ∷ cs) i n stand =
    ap (λ (k : ℕ). (k == i && is_written n c.asked.batch.writes) || writes_name i n cs) (sym stand.0.id)
    ∙ ap (λ b. (c.asked.batch.id == i && is_written n c.asked.batch.writes) || b) (on_board docs cs i n stand.1)

module _ (docs : Docs) (cs : List Posted1) (stand : AllByRecursion (Stands docs) cs) (ws : List Write) where
  who_waits : (i : ℕ) → list_any (λ w. writes_name i (written_name w) cs) ws ≡ is_one (writing_same (all_unreleased cs) ws) i
  who_waits i = ap (λ p. list_any p ws) (λ k w. on_board docs cs i (written_name w) stand k) ∙ who_writes (all_unreleased cs) ws i

  -- the least that writes one of the names on the board is the least in the machine
  pub behind_written : (by : ℕ) (told : Option ℕ) → times_in by (batches (all_unreleased cs)) ≡ 0
      → IsLeastOther (λ i. IsTrue (list_any (λ w. writes_name i (written_name w) cs) ws)) by told → told ≡ least (writing_same (all_unreleased cs) ws)
  behind_written by told none is =
      let ns = writing_same (all_unreleased cs) ws in
      least_other (λ i. IsTrue (is_one ns i)) by ns (λ j one. one) (λ j one. not_among ns by j (new_number (all_unreleased cs) ws by none) one) (λ j one apart. one) told
      (subst (λ (p : ℕ → Bool). IsLeastOther (λ i. IsTrue (p i)) by told) (λ k i. who_waits i k) is)
