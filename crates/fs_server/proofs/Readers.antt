-- The open read-write transactions that have read what writes write.
use Rattle.std.proofs.Common.{◌≡◌, ℕ, Bool, true, false, cond, List, [], ◌∷◌, Option, map, refl, sym, ap, ◌∙◌}
use Rattle.std.specs.Prelude.{◌≢◌, ◌==◌, ◌&&◌, ◌||◌, IsTrue, not}
use Rattle.std.specs.List.{filter, list_any}
use Rattle.std.proofs.Math.Bool.{and-false}
use Rattle.std.proofs.lemmas.Bool.{eqb-false, eqb-true}
use Rattle.fs_history.specs.Touches.{touches}
use Rattle.fs_locks.specs.Holds.{IsLeastOther}
use Rattle.fs_path.specs.declared.name.DocName.{DocName}
use Rattle.fs_txn.specs.Reading.{has_read, is_reader as reads_it, reads_name}
use Rattle.fs_txn.specs.Transactions.{Transactions, is_read_write}
use Rattle.fs_txn.specs.declared.txn.Txn.{Txn}
use Rattle.fs_write.specs.WrittenName.{written_name}
use Rattle.fs_write.specs.declared.write.Write.{Write}
use Rattle.fs_machine.specs.Behind.{least}
use Rattle.fs_machine.specs.Conflict.{is_reader, others, readers_of}
use Rattle.fs_machine.proofs.Behind.{is_one, one_holds}
use Rattle.fs_past.proofs.Waiting.{least_other}

-- ---- some of several

none_any : {A : Type 0} (xs : List A) → list_any (λ x. false) xs ≡ false
none_any [] = refl
none_any (x ∷ xs) = none_any xs

any_or : {A : Type 0} (p q : A → Bool) (xs : List A) → list_any (λ x. p x || q x) xs ≡ (list_any p xs || list_any q xs)
any_or p q [] = refl
any_or p q (x ∷ xs) = ap (λ b. (p x || q x) || b) (any_or p q xs) ∙ mixed (p x) (q x) (list_any p xs) (list_any q xs)
  where
    mixed : (a b c d : Bool) → ((a || b) || (c || d)) ≡ ((a || c) || (b || d))
    mixed true b c d = refl
    mixed false true true d = refl
    mixed false true false d = refl
    mixed false false c d = refl

any_and : {A : Type 0} (a : Bool) (p : A → Bool) (xs : List A) → list_any (λ x. a && p x) xs ≡ (a && list_any p xs)
any_and true p xs = refl
any_and false p xs = none_any xs

any_map : {A B : Type 0} (f : A → B) (p : B → Bool) (xs : List A) → list_any p (map f xs) ≡ list_any (λ x. p (f x)) xs
any_map f p [] = refl
any_map f p (x ∷ xs) = ap (λ b. p (f x) || b) (any_map f p xs)

any_kept : {A : Type 0} (g p : A → Bool) (xs : List A) → list_any p (filter g xs) ≡ list_any (λ x. g x && p x) xs
any_kept g p [] = refl
any_kept g p (x ∷ xs) = at (any_kept g p xs) (g x)
  where
    at : list_any p (filter g xs) ≡ list_any (λ y. g y && p y) xs → (b : Bool) → list_any p (cond b (x ∷ filter g xs) (filter g xs)) ≡ ((b && p x) || list_any (λ y. g y && p y) xs)
    at more true = ap (λ c. p x || c) more
    at more false = more

-- whichever is gone over first
swapped : {A B : Type 0} (f : A → B → Bool) (xs : List A) (ys : List B) → list_any (λ x. list_any (f x) ys) xs ≡ list_any (λ y. list_any (λ x. f x y) xs) ys
swapped f [] ys = sym (none_any ys)
swapped f (x ∷ xs) ys = ap (λ b. list_any (f x) ys || b) (swapped f xs ys) ∙ sym (any_or (f x) (λ y. list_any (λ z. f z y) xs) ys)

-- ---- whose reads are touched

one_reads : (ws : List Write) (j : ℕ) (t : Txn) → list_any (λ w. t.id == j && has_read (written_name w) t) ws ≡ (t.id == j && is_reader ws t)
one_reads ws j t =
    any_and (t.id == j) (λ w. has_read (written_name w) t) ws
    ∙ ap (λ b. t.id == j && b) (any_and (is_read_write t.kind) (λ w. list_any (touches (written_name w)) t.reads) ws
    ∙ ap (λ b. is_read_write t.kind && b) (swapped (λ w r. touches (written_name w) r) ws t.reads))

-- by the names, or by the transactions
who_reads : (ts : List Txn) (ws : List Write) (j : ℕ) → list_any (λ n. reads_name ts n j) (map written_name ws) ≡ list_any (λ t. t.id == j && is_reader ws t) ts
who_reads ts ws j =
    any_map written_name (λ n. reads_name ts n j) ws
    ∙ swapped (λ w t. t.id == j && has_read (written_name w) t) ws ts
    ∙ ap (λ (p : Txn → Bool). list_any p ts) (λ k t. one_reads ws j t k)

-- ---- other than one

other_by : (x j but : ℕ) (r b c : Bool) → (j == but) ≡ b → (x == j) ≡ c → (not (x == but) && (c && r)) ≡ (not b && (c && r))
other_by x j but r b true is same = ap (λ (k : ℕ). not (k == but) && r) (eqb-true x j same) ∙ ap (λ a. not a && r) is
other_by x j but r b false is same = and-false (not (x == but)) ∙ sym (and-false (not b))

who_else : (ts : List Txn) (ws : List Write) (but j : ℕ) → is_one (readers_of (others but ts) ws) j ≡ (not (j == but) && list_any (λ t. t.id == j && is_reader ws t) ts)
who_else ts ws but j =
    sym (one_holds (λ t. t.id) (is_reader ws) (others but ts) j)
    ∙ any_kept (λ t. not (t.id == but)) (λ t. t.id == j && is_reader ws t) ts
    ∙ ap (λ (p : Txn → Bool). list_any p ts) (λ k t. other_by t.id j but (is_reader ws t) (j == but) (t.id == j) refl refl k)
    ∙ any_and (not (j == but)) (λ t. t.id == j && is_reader ws t) ts

second : (a b : Bool) → IsTrue (a && b) → IsTrue b
second true b is = is
second false b is = absurd (cc)

apart_by : (j but : ℕ) (b c : Bool) → (j == but) ≡ b → IsTrue (not b && c) → j ≢ but
apart_by j but true c is one = absurd (cc)
apart_by j but false c is one = eqb-false j but is

both_by : (j but : ℕ) (b c : Bool) → (j == but) ≡ b → j ≢ but → IsTrue c → IsTrue (not b && c)
both_by j but true c is apart one = absurd (apart (eqb-true j but is))
both_by j but false c is apart one = one

-- the least of those whose reads these names touch
pub least_reader : (ts : Transactions) (ws : List Write) (names : List DocName) (but : ℕ) (told : Option ℕ) → names ≡ map written_name ws
    → IsLeastOther (λ i. IsTrue (list_any (λ n. reads_it ts n i) names)) but told → told ≡ least (readers_of (others but ts.open) ws)
least_reader ts ws names but told are is =
    let touched : (j : ℕ) → list_any (λ n. reads_it ts n j) names ≡ list_any (λ t. t.id == j && is_reader ws t) ts.open =
    λ j. ap (list_any (λ n. reads_name ts.open n j)) are ∙ who_reads ts.open ws j in
    let found : (j : ℕ) → Bool = λ j. list_any (λ t. t.id == j && is_reader ws t) ts.open in
    least_other (λ i. IsTrue (list_any (λ n. reads_it ts n i) names)) but (readers_of (others but ts.open) ws)
    (λ j one. touched j ∙ second (not (j == but)) (found j) (sym (who_else ts.open ws but j) ∙ one))
    (λ j one. apart_by j but (j == but) (found j) refl (sym (who_else ts.open ws but j) ∙ one))
    (λ j one apart. who_else ts.open ws but j ∙ both_by j but (j == but) (found j) refl apart (sym (touched j) ∙ one))
    told is
