-- Who has read what, after each of what becomes of the transactions.
use Rattle.std.proofs.Common.{◌≡◌, ℕ, ℤ, ◌<◌, Bool, true, false, cond, List, [], ◌∷◌, Option, Some, None, refl, sym, ap, ◌∙◌, subst, arith}
use Rattle.std.specs.Prelude.{◌==◌, ◌&&◌, ◌||◌, nat_lt, not, unwrap_or}
use Rattle.std.specs.List.{AllByRecursion, filter, list_any}
use Rattle.std.specs.Option.{option_and_then, option_map_or}
use Rattle.std.proofs.Math.Bool.{and-false, or-false}
use Rattle.std.proofs.lemmas.Bool.{eqb-true}
use Rattle.std.proofs.lemmas.Bool.Decides.{nat_tests}
use Rattle.fs_history.specs.Touches.{touches}
use Rattle.fs_history.specs.declared.read.Read.{Read}
use Rattle.fs_locks.proofs.Ids.{apart_from, same_id}
use Rattle.fs_path.specs.declared.name.DocName.{DocName}
use Rattle.fs_txn.specs.declared.txn.Txn.{Txn}
use Rattle.fs_txn.specs.Expiry.{is_over}
use Rattle.fs_txn.specs.Kept.{is_one_over}
use Rattle.fs_txn.specs.Reading.{has_read, reads_in, reads_name, reads_of}
use Rattle.fs_txn.specs.Rising.{Rise}
use Rattle.fs_txn.specs.Transactions.{changed_at, is_read_write, put_in, txn_of}

-- ---- truth values

or_none : (a b : Bool) → a ≡ false → (a || b) ≡ b
or_none true b e = absurd (cc)
or_none false b e = refl

regrouped : (a b c : Bool) → (a || (b || c)) ≡ ((a || b) || c)
regrouped true b c = refl
regrouped false b c = refl

turned : (a b c : Bool) → ((a || b) || c) ≡ ((a || c) || b)
turned true b c = refl
turned false true true = refl
turned false true false = refl
turned false false true = refl
turned false false false = refl

-- an id that is there is behind none that is above it
none_there : (ts : List Txn) (n : DocName) (i : ℕ) → AllByRecursion (λ u. i < u.id) ts → reads_name ts n i ≡ false
none_there [] n i above = refl
none_there (t ∷ ts) n i above = ap (λ b. (b && has_read n t) || reads_name ts n i) (apart t.id i above.0) ∙ none_there ts n i above.1
  where
    apart : (a b : ℕ) → b < a → (a == b) ≡ false
    apart a b below = grind (arith, nat_tests)

above_itself : (t : Txn) (ts : List Txn) (i : ℕ) → (t.id == i) ≡ true → AllByRecursion (λ u. t.id < u.id) ts → AllByRecursion (λ u. i < u.id) ts
above_itself t ts i is above = subst (λ (k : ℕ). AllByRecursion (λ (u : Txn). k < u.id) ts) (eqb-true t.id i is) above

-- ---- one that has read nothing comes in

pub reads_put : (t : Txn) (ts : List Txn) (n : DocName) (i : ℕ) → has_read n t ≡ false → reads_name (put_in t ts) n i ≡ reads_name ts n i
reads_put t [] n i none = ap (λ b. (t.id == i && b) || false) none ∙ or-false (t.id == i && false) ∙ and-false (t.id == i)
reads_put t (u ∷ us) n i none = at (reads_put t us n i none) (nat_lt t.id u.id)
  where
    first : (t.id == i && has_read n t) ≡ false
    first = ap (λ b. t.id == i && b) none ∙ and-false (t.id == i)

    at : reads_name (put_in t us) n i ≡ reads_name us n i → (b : Bool) → reads_name (cond b (t ∷ u ∷ us) (u ∷ put_in t us)) n i ≡ reads_name (u ∷ us) n i
    at more true = or_none (t.id == i && has_read n t) (reads_name (u ∷ us) n i) first
    at more false = ap (λ b. (u.id == i && has_read n u) || b) more

-- ---- one is used

pub reads_used : (id : ℕ) (now : ℤ) (ts : List Txn) (n : DocName) (i : ℕ) → reads_name (changed_at id (λ t. record t { used = now }) ts) n i ≡ reads_name ts n i
reads_used id now [] n i = refl
reads_used id now (t ∷ ts) n i = at (reads_used id now ts n i) (t.id == id)
  where
    at : reads_name (changed_at id (λ u. record u { used = now }) ts) n i ≡ reads_name ts n i → (b : Bool)
        → reads_name (cond b (record t { used = now } ∷ ts) (t ∷ changed_at id (λ u. record u { used = now }) ts)) n i ≡ reads_name (t ∷ ts) n i
    at more true = refl
    at more false = ap (λ b. (t.id == i && has_read n t) || b) more

-- ---- one has a read more

-- what a change adds to what the one of an id has read
abbrev pub Adds : (Txn → Txn) → (DocName → Bool) → Txn → Type 0
Adds f p t = (n : DocName) → has_read n (f t) ≡ (has_read n t || p n)

with_more : (a h p r : Bool) → ((a && (h || p)) || r) ≡ (((a && h) || r) || (a && p))
with_more true true p r = refl
with_more true false true true = refl
with_more true false true false = refl
with_more true false false true = refl
with_more true false false false = refl
with_more false h p r = sym (or-false r)

pub reads_changed : (id : ℕ) (f : Txn → Txn) (p : DocName → Bool) (o : Txn) (ts : List Txn) → ((t : Txn) → (f t).id ≡ t.id) → Adds f p o → txn_of id ts ≡ Some o → (n : DocName) (i : ℕ)
    → reads_name (changed_at id f ts) n i ≡ (reads_name ts n i || (i == id && p n))
reads_changed id f p o [] same adds found n i = absurd (cc)
reads_changed id f p o (t ∷ ts) same adds found n i = at (λ there. reads_changed id f p o ts same adds there n i) (t.id == id) refl found
  where
    test : (t.id == id) ≡ true → (t.id == i) ≡ (i == id)
    test is = ap (λ (k : ℕ). k == i) (eqb-true t.id id is) ∙ same_id id i

    at : (txn_of id ts ≡ Some o → reads_name (changed_at id f ts) n i ≡ (reads_name ts n i || (i == id && p n))) → (b : Bool) → (t.id == id) ≡ b → cond b (Some t) (txn_of id ts) ≡ Some o
        → reads_name (cond b (f t ∷ ts) (t ∷ changed_at id f ts)) n i ≡ (reads_name (t ∷ ts) n i || (i == id && p n))
    at more true is found =
        let it : o ≡ t = cc in
        let added : has_read n (f t) ≡ (has_read n t || p n) = subst (Adds f p) it adds n in
        ap (λ (k : ℕ). (k == i && has_read n (f t)) || reads_name ts n i) (same t)
        ∙ ap (λ b. (t.id == i && b) || reads_name ts n i) added
        ∙ with_more (t.id == i) (has_read n t) (p n) (reads_name ts n i)
        ∙ ap (λ b. ((t.id == i && has_read n t) || reads_name ts n i) || (b && p n)) (test is)
    at more false is found = ap (λ b. (t.id == i && has_read n t) || b) (more found) ∙ regrouped (t.id == i && has_read n t) (reads_name ts n i) (i == id && p n)

-- ---- one ends

ended_next : (t : Txn) (h r : Bool) (i id : ℕ) (b : Bool) → (t.id == id) ≡ b → cond (not b) ((t.id == i && h) || (not (i == id) && r)) (not (i == id) && r) ≡ (not (i == id) && ((t.id == i && h) || r))
ended_next t h r i id true is = at (i == id) (t.id == i) (ap (λ (k : ℕ). k == i) (eqb-true t.id id is) ∙ same_id id i)
  where
    at : (a c : Bool) → c ≡ a → (not a && r) ≡ (not a && ((c && h) || r))
    at true c e = refl
    at false true e = absurd (cc)
    at false false e = refl
ended_next t h r i id false is = at (i == id) refl
  where
    at : (a : Bool) → (i == id) ≡ a → ((t.id == i && h) || (not a && r)) ≡ (not a && ((t.id == i && h) || r))
    at true e = or-false (t.id == i && h) ∙ ap (λ b. b && h) (apart_from t.id id i is e)
    at false e = refl

pub reads_ended : (id : ℕ) (ts : List Txn) (n : DocName) (i : ℕ) → reads_name (filter (λ t. not (t.id == id)) ts) n i ≡ (not (i == id) && reads_name ts n i)
reads_ended id [] n i = sym (and-false (not (i == id)))
reads_ended id (t ∷ ts) n i = at (reads_ended id ts n i) (t.id == id) refl
  where
    at : reads_name (filter (λ u. not (u.id == id)) ts) n i ≡ (not (i == id) && reads_name ts n i) → (b : Bool) → (t.id == id) ≡ b
        → reads_name (cond (not b) (t ∷ filter (λ u. not (u.id == id)) ts) (filter (λ u. not (u.id == id)) ts)) n i ≡ (not (i == id) && reads_name (t ∷ ts) n i)
    at more true is = more ∙ ended_next t (has_read n t) (reads_name ts n i) i id true is
    at more false is = ap (λ b. (t.id == i && has_read n t) || b) more ∙ ended_next t (has_read n t) (reads_name ts n i) i id false is

-- ---- some expire

kept_none : (now : ℤ) (ts : List Txn) (n : DocName) (i : ℕ) → reads_name ts n i ≡ false → reads_name (filter (λ t. not (is_over now t)) ts) n i ≡ false
kept_none now [] n i none = refl
kept_none now (t ∷ ts) n i none = at (kept_none now ts n i (behind (t.id == i && has_read n t) (reads_name ts n i) none)) (is_over now t) (first (t.id == i && has_read n t) (reads_name ts n i) none)
  where
    behind : (a b : Bool) → (a || b) ≡ false → b ≡ false
    behind true b e = absurd (cc)
    behind false b e = e

    first : (a b : Bool) → (a || b) ≡ false → a ≡ false
    first true b e = absurd (cc)
    first false b e = refl

    at : reads_name (filter (λ u. not (is_over now u)) ts) n i ≡ false → (b : Bool) → (t.id == i && has_read n t) ≡ false
        → reads_name (cond (not b) (t ∷ filter (λ u. not (is_over now u)) ts) (filter (λ u. not (is_over now u)) ts)) n i ≡ false
    at more true none = more
    at more false none = ap (λ b. b || reads_name (filter (λ u. not (is_over now u)) ts) n i) none ∙ more

one_none : (now : ℤ) (ts : List Txn) (i : ℕ) → AllByRecursion (λ u. i < u.id) ts → is_one_over now ts i ≡ false
one_none now [] i above = refl
one_none now (t ∷ ts) i above = ap (λ b. (b && is_over now t) || is_one_over now ts i) (apart t.id i above.0) ∙ one_none now ts i above.1
  where
    apart : (a b : ℕ) → b < a → (a == b) ≡ false
    apart a b below = grind (arith, nat_tests)

pub reads_kept : (now : ℤ) (ts : List Txn) → Rise ts → (n : DocName) (i : ℕ) → reads_name (filter (λ t. not (is_over now t)) ts) n i ≡ (not (is_one_over now ts i) && reads_name ts n i)
reads_kept now [] rise n i = refl
reads_kept now (t ∷ ts) rise n i = at (reads_kept now ts rise.1 n i) (t.id == i) refl (is_over now t)
  where
    at : reads_name (filter (λ u. not (is_over now u)) ts) n i ≡ (not (is_one_over now ts i) && reads_name ts n i) → (c : Bool) → (t.id == i) ≡ c → (b : Bool)
        → reads_name (cond (not b) (t ∷ filter (λ u. not (is_over now u)) ts) (filter (λ u. not (is_over now u)) ts)) n i ≡ (not ((t.id == i && b) || is_one_over now ts i) && ((t.id == i && has_read n t) || reads_name ts n i))
    at more true is true =
        kept_none now ts n i (none_there ts n i (above_itself t ts i is rise.0))
        ∙ ap (λ c. not ((c && true) || is_one_over now ts i) && ((c && has_read n t) || reads_name ts n i)) (sym is)
    at more true is false =
        let none = none_there ts n i (above_itself t ts i is rise.0) in
        ap (λ b. (t.id == i && has_read n t) || b) (kept_none now ts n i none ∙ sym none)
        ∙ ap (λ b. not b && ((t.id == i && has_read n t) || reads_name ts n i)) (sym (ap (λ b. b || is_one_over now ts i) (and-false (t.id == i)) ∙ one_none now ts i (above_itself t ts i is rise.0)))
    at more false is true = more ∙ ap (λ c. not ((c && true) || is_one_over now ts i) && ((c && has_read n t) || reads_name ts n i)) (sym is)
    at more false is false =
        ap (λ c. (c && has_read n t) || reads_name (filter (λ u. not (is_over now u)) ts) n i) is ∙ more
        ∙ ap (λ c. not ((c && false) || is_one_over now ts i) && ((c && has_read n t) || reads_name ts n i)) (sym is)

-- ---- the one of an id

there_next : (t : Txn) (rest : Bool) (n : DocName) (w : Bool) → is_read_write t.kind ≡ w → rest ≡ false → (has_read n t || rest) ≡ option_map_or (λ rs. list_any (touches n) rs) (reads_of t) false
there_next t rest n true is none = ap (λ b. has_read n t || b) none ∙ or-false (has_read n t) ∙ ap (λ b. b && list_any (touches n) t.reads) is
    ∙ ap (λ b. option_map_or (λ (rs : List Read). list_any (touches n) rs) (cond b (Some t.reads) None) false) (sym is)
there_next t rest n false is none = ap (λ b. has_read n t || b) none ∙ or-false (has_read n t) ∙ ap (λ b. b && list_any (touches n) t.reads) is
    ∙ ap (λ b. option_map_or (λ (rs : List Read). list_any (touches n) rs) (cond b (Some t.reads) None) false) (sym is)

reads_there : (ts : List Txn) (id : ℕ) (n : DocName) → Rise ts → reads_name ts n id ≡ option_map_or (λ rs. list_any (touches n) rs) (reads_in id ts) false
reads_there [] id n rise = refl
reads_there (t ∷ ts) id n rise = at (reads_there ts id n rise.1) (t.id == id) refl
  where
    at : reads_name ts n id ≡ option_map_or (λ rs. list_any (touches n) rs) (reads_in id ts) false → (b : Bool) → (t.id == id) ≡ b
        → ((b && has_read n t) || reads_name ts n id) ≡ option_map_or (λ rs. list_any (touches n) rs) (option_and_then reads_of (cond b (Some t) (txn_of id ts))) false
    at more true is = there_next t (reads_name ts n id) n (is_read_write t.kind) refl (none_there ts n id (above_itself t ts id is rise.0))
    at more false is = more

pub read_in : (ts : List Txn) (id : ℕ) (n : DocName) → Rise ts → reads_name ts n id ≡ list_any (touches n) (unwrap_or (reads_in id ts) [])
read_in ts id n rise = reads_there ts id n rise ∙ at (reads_in id ts)
  where
    at : (o : Option (List Read)) → option_map_or (λ rs. list_any (touches n) rs) o false ≡ list_any (touches n) (unwrap_or o [])
    at None = refl
    at (Some rs) = refl
