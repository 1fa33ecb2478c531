-- What becomes of the entries by ids, as the list of transactions that they are.
use Rattle.std.proofs.Common.{◌≡◌, ℕ, ◌<◌, Bool, true, false, cond, List, [], ◌∷◌, Option, Some, None, MutBor, refl, sym, ap, ◌∙◌, subst, arith}
use Rattle.std.specs.Prelude.{◌==◌, nat_lt, is_some, not}
use Rattle.std.specs.BTreeMap.{is_at, insert_entry}
use Rattle.std.specs.List.{AllByRecursion, filter}
use Rattle.std.specs.Map.{lookup, set_value, remove_entry}
use Rattle.std.specs.Option.{option_copied_mut}
use Rattle.std.specs.Ordering.{nat_cmp, match_ordering}
use Rattle.std.proofs.lemmas.Bool.{eqb-true}
use Rattle.std.proofs.lemmas.Bool.Decides.{nat_tests}
use Rattle.fs_locks.proofs.Ids.{tied}
use Rattle.fs_txn.specs.declared.txn.Txn.{Txn}
use Rattle.fs_txn.specs.Kept.{txns, AreById}
use Rattle.fs_txn.specs.Rising.{Rise}
use Rattle.fs_txn.specs.Transactions.{changed_at, put_in, txn_of}

-- each entry stands at the id of its transaction
abbrev pub Keyed : List (ℕ × Txn) → Type 0
Keyed es = AllByRecursion (λ (e : ℕ × Txn). e.0 ≡ e.1.id) es

-- a search for an id stops where the transaction has it
key_is : (e : ℕ × Txn) (id : ℕ) → e.0 ≡ e.1.id → is_at (nat_cmp id) e.0 ≡ (e.1.id == id)
key_is e id is = tied e.0 id ∙ ap (λ (k : ℕ). k == id) is

pub found : (es : List (ℕ × Txn)) (id : ℕ) → Keyed es → lookup (is_at (nat_cmp id)) es ≡ txn_of id (txns es)
found [] id keys = refl
found (e ∷ es) id keys =
    ap (λ b. cond b (Some e.1) (lookup (is_at (nat_cmp id)) es)) (key_is e id keys.0)
    ∙ ap (cond (e.1.id == id) (Some e.1)) (found es id keys.1)

-- ---- lists that hold the same of each

module _ {X : Type 0} where
  pub all_kept : (P : X → Type 0) (p : X → Bool) (xs : List X) → AllByRecursion P xs → AllByRecursion P (filter p xs)
  all_kept P p [] all = tt
  all_kept P p (x ∷ xs) all = at (all_kept P p xs all.1) (p x)
    where
      at : AllByRecursion P (filter p xs) → (b : Bool) → AllByRecursion P (cond b (x ∷ filter p xs) (filter p xs))
      at more true = (all.0, more)
      at more false = more

  pub all_other : (P Q : X → Type 0) (xs : List X) → ((x : X) → P x → Q x) → AllByRecursion P xs → AllByRecursion Q xs
  all_other P Q [] f all = tt
  all_other P Q (x ∷ xs) f all = (f x all.0, all_other P Q xs f all.1)

rise_kept : (p : Txn → Bool) (ts : List Txn) → Rise ts → Rise (filter p ts)
rise_kept p [] rise = tt
rise_kept p (t ∷ ts) rise = at (rise_kept p ts rise.1) (p t)
  where
    at : Rise (filter p ts) → (b : Bool) → Rise (cond b (t ∷ filter p ts) (filter p ts))
    at more true = (all_kept (λ u. t.id < u.id) p ts rise.0, more)
    at more false = more

pub txns_kept : (p : Txn → Bool) (es : List (ℕ × Txn)) → txns (filter (λ e. p e.1) es) ≡ filter p (txns es)
txns_kept p [] = refl
txns_kept p (e ∷ es) = at (txns_kept p es) (p e.1)
  where
    at : txns (filter (λ f. p f.1) es) ≡ filter p (txns es) → (b : Bool) → txns (cond b (e ∷ filter (λ f. p f.1) es) (filter (λ f. p f.1) es)) ≡ cond b (e.1 ∷ filter p (txns es)) (filter p (txns es))
    at more true = ap (λ us. e.1 ∷ us) more
    at more false = more

-- ---- one is gone

-- where none has the id, all stay
pub others_stay : (ts : List Txn) (id : ℕ) → AllByRecursion (λ u. id < u.id) ts → filter (λ t. not (t.id == id)) ts ≡ ts
others_stay [] id above = refl
others_stay (t ∷ ts) id above =
    ap (λ b. cond (not b) (t ∷ filter (λ u. not (u.id == id)) ts) (filter (λ u. not (u.id == id)) ts)) (apart t.id id above.0)
    ∙ ap (λ us. t ∷ us) (others_stay ts id above.1)
  where
    apart : (a b : ℕ) → b < a → (a == b) ≡ false
    apart a b below = grind (arith, nat_tests)

removed_next : (e : ℕ × Txn) (es rest : List (ℕ × Txn)) (id : ℕ) (b : Bool) → (e.1.id == id) ≡ b → AllByRecursion (λ u. e.1.id < u.id) (txns es) → txns rest ≡ filter (λ t. not (t.id == id)) (txns es)
    → txns (cond b es (e ∷ rest)) ≡ cond (not b) (e.1 ∷ filter (λ t. not (t.id == id)) (txns es)) (filter (λ t. not (t.id == id)) (txns es))
removed_next e es rest id true is above more = sym (others_stay (txns es) id (subst (λ (n : ℕ). AllByRecursion (λ (u : Txn). n < u.id) (txns es)) (eqb-true e.1.id id is) above))
removed_next e es rest id false is above more = ap (λ us. e.1 ∷ us) more

pub removed : (es : List (ℕ × Txn)) (id : ℕ) → AreById es → txns (remove_entry (is_at (nat_cmp id)) es) ≡ filter (λ t. not (t.id == id)) (txns es)
removed [] id by = refl
removed (e ∷ es) id by =
    ap (λ b. txns (cond b es (e ∷ remove_entry (is_at (nat_cmp id)) es))) (key_is e id by.keys.0)
    ∙ removed_next e es (remove_entry (is_at (nat_cmp id)) es) id (e.1.id == id) refl by.rise.0 (removed es id (record { keys = by.keys.1; rise = by.rise.1 }))

keyed_removed : (test : ℕ → Bool) (es : List (ℕ × Txn)) → Keyed es → Keyed (remove_entry test es)
keyed_removed test [] keys = tt
keyed_removed test (e ∷ es) keys = at (keyed_removed test es keys.1) (test e.0)
  where
    at : Keyed (remove_entry test es) → (b : Bool) → Keyed (cond b es (e ∷ remove_entry test es))
    at more true = keys.1
    at more false = (keys.0, more)

pub by_id_removed : (es : List (ℕ × Txn)) (id : ℕ) → AreById es → AreById (remove_entry (is_at (nat_cmp id)) es)
by_id_removed es id by = record {
  keys = keyed_removed (is_at (nat_cmp id)) es by.keys;
  rise = subst Rise (sym (removed es id by)) (rise_kept (λ t. not (t.id == id)) (txns es) by.rise);
}

pub by_id_kept : (p : Txn → Bool) (es : List (ℕ × Txn)) → AreById es → AreById (filter (λ e. p e.1) es)
by_id_kept p es by = record {
  keys = all_kept (λ (e : ℕ × Txn). e.0 ≡ e.1.id) (λ e. p e.1) es by.keys;
  rise = subst Rise (sym (txns_kept p es)) (rise_kept p (txns es) by.rise);
}

-- ---- one is changed

changed_next : (e : ℕ × Txn) (es : List (ℕ × Txn)) (id : ℕ) (o w : Txn) (f : Txn → Txn) (b : Bool) → w ≡ f o → cond b (Some e.1) (lookup (is_at (nat_cmp id)) es) ≡ Some o
    → (lookup (is_at (nat_cmp id)) es ≡ Some o → txns (set_value (is_at (nat_cmp id)) es w) ≡ changed_at id f (txns es))
    → txns (cond b ((e.0, w) ∷ es) (e ∷ set_value (is_at (nat_cmp id)) es w)) ≡ cond b (f e.1 ∷ txns es) (e.1 ∷ changed_at id f (txns es))
changed_next e es id o w f true is at more = let same : o ≡ e.1 = cc in ap (λ t. t ∷ txns es) (is ∙ ap f same)
changed_next e es id o w f false is at more = ap (λ us. e.1 ∷ us) (more at)

pub changed : (es : List (ℕ × Txn)) (id : ℕ) (o w : Txn) (f : Txn → Txn) → Keyed es → lookup (is_at (nat_cmp id)) es ≡ Some o → w ≡ f o → txns (set_value (is_at (nat_cmp id)) es w) ≡ changed_at id f (txns es)
changed [] id o w f keys at is = refl
changed (e ∷ es) id o w f keys at is =
    let test = key_is e id keys.0 in
    ap (λ b. txns (cond b ((e.0, w) ∷ es) (e ∷ set_value (is_at (nat_cmp id)) es w))) test
    ∙ changed_next e es id o w f (e.1.id == id) is (subst (λ b. cond b (Some e.1) (lookup (is_at (nat_cmp id)) es) ≡ Some o) test at) (λ there. changed es id o w f keys.1 there is)

pub unchanged : (ts : List Txn) (id : ℕ) → changed_at id (λ t. t) ts ≡ ts
unchanged [] id = refl
unchanged (t ∷ ts) id = at (unchanged ts id) (t.id == id)
  where
    at : changed_at id (λ u. u) ts ≡ ts → (b : Bool) → cond b (t ∷ ts) (t ∷ changed_at id (λ u. u) ts) ≡ t ∷ ts
    at more true = refl
    at more false = ap (λ us. t ∷ us) more

keyed_next : (e : ℕ × Txn) (es : List (ℕ × Txn)) (id : ℕ) (o w : Txn) (b : Bool) → Keyed (e ∷ es) → cond b (Some e.1) (lookup (is_at (nat_cmp id)) es) ≡ Some o → w.id ≡ o.id
    → (lookup (is_at (nat_cmp id)) es ≡ Some o → Keyed (set_value (is_at (nat_cmp id)) es w)) → Keyed (cond b ((e.0, w) ∷ es) (e ∷ set_value (is_at (nat_cmp id)) es w))
keyed_next e es id o w true keys at is more = let same : e.1 ≡ o = cc in (keys.0 ∙ ap (λ (t : Txn). t.id) same ∙ sym is, keys.1)
keyed_next e es id o w false keys at is more = (keys.0, more at)

keyed_changed : (es : List (ℕ × Txn)) (id : ℕ) (o w : Txn) → Keyed es → lookup (is_at (nat_cmp id)) es ≡ Some o → w.id ≡ o.id → Keyed (set_value (is_at (nat_cmp id)) es w)
keyed_changed [] id o w keys at is = tt
keyed_changed (e ∷ es) id o w keys at is = keyed_next e es id o w (is_at (nat_cmp id) e.0) keys at is (λ there. keyed_changed es id o w keys.1 there is)

all_changed : (P : ℕ → Type 0) (ts : List Txn) (id : ℕ) (f : Txn → Txn) → ((t : Txn) → (f t).id ≡ t.id) → AllByRecursion (λ t. P t.id) ts → AllByRecursion (λ t. P t.id) (changed_at id f ts)
all_changed P [] id f same all = tt
all_changed P (t ∷ ts) id f same all = at (all_changed P ts id f same all.1) (t.id == id)
  where
    at : AllByRecursion (λ u. P u.id) (changed_at id f ts) → (b : Bool) → AllByRecursion (λ u. P u.id) (cond b (f t ∷ ts) (t ∷ changed_at id f ts))
    at more true = (subst P (sym (same t)) all.0, all.1)
    at more false = (all.0, more)

rise_changed : (ts : List Txn) (id : ℕ) (f : Txn → Txn) → ((t : Txn) → (f t).id ≡ t.id) → Rise ts → Rise (changed_at id f ts)
rise_changed [] id f same rise = tt
rise_changed (t ∷ ts) id f same rise = at (rise_changed ts id f same rise.1) (t.id == id)
  where
    at : Rise (changed_at id f ts) → (b : Bool) → Rise (cond b (f t ∷ ts) (t ∷ changed_at id f ts))
    at more true = (subst (λ (n : ℕ). AllByRecursion (λ (u : Txn). n < u.id) ts) (sym (same t)) rise.0, rise.1)
    at more false = (all_changed (λ n. t.id < n) ts id f same rise.0, more)

pub by_id_changed : (es : List (ℕ × Txn)) (id : ℕ) (o w : Txn) (f : Txn → Txn) → ((t : Txn) → (f t).id ≡ t.id) → AreById es → lookup (is_at (nat_cmp id)) es ≡ Some o → w ≡ f o
    → AreById (set_value (is_at (nat_cmp id)) es w)
by_id_changed es id o w f same by at is = record {
  keys = keyed_changed es id o w by.keys at (ap (λ (t : Txn). t.id) is ∙ same o);
  rise = subst Rise (sym (changed es id o w f by.keys at is)) (rise_changed (txns es) id f same by.rise);
}

-- ---- one more

not_first : (b : Bool) (t : Txn) (rest : Option Txn) → cond b (Some t) rest ≡ None → b ≡ false
not_first true t rest e = absurd (cc)
not_first false t rest e = refl

not_behind : (b : Bool) (t : Txn) (rest : Option Txn) → cond b (Some t) rest ≡ None → rest ≡ None
not_behind true t rest e = absurd (cc)
not_behind false t rest e = e

pick : {X : Type 0} (a b : ℕ) (x y z : X) → (b == a) ≡ false → match_ordering (nat_cmp a b) x y z ≡ cond (nat_lt a b) x z
pick a b x y z apart = grind (arith, nat_tests)

-- an entry that goes before another
put_is : (e : ℕ × Txn) (es : List (ℕ × Txn)) (t : Txn) → e.0 ≡ e.1.id → txn_of t.id (txns (e ∷ es)) ≡ None → insert_entry nat_cmp (e ∷ es) t.id t ≡ cond (nat_lt t.id e.1.id) ((t.id, t) ∷ e ∷ es) (e ∷ insert_entry nat_cmp es t.id t)
put_is e es t is none =
    ap (λ (k : ℕ). match_ordering (nat_cmp t.id k) ((t.id, t) ∷ e ∷ es) ((e.0, t) ∷ es) (e ∷ insert_entry nat_cmp es t.id t)) is
    ∙ pick t.id e.1.id ((t.id, t) ∷ e ∷ es) ((e.0, t) ∷ es) (e ∷ insert_entry nat_cmp es t.id t) (not_first (e.1.id == t.id) e.1 (txn_of t.id (txns es)) none)

pub put : (es : List (ℕ × Txn)) (t : Txn) → Keyed es → txn_of t.id (txns es) ≡ None → txns (insert_entry nat_cmp es t.id t) ≡ put_in t (txns es)
put [] t keys none = refl
put (e ∷ es) t keys none =
    ap txns (put_is e es t keys.0 none) ∙ at (put es t keys.1 (not_behind (e.1.id == t.id) e.1 (txn_of t.id (txns es)) none)) (nat_lt t.id e.1.id)
  where
    at : txns (insert_entry nat_cmp es t.id t) ≡ put_in t (txns es) → (b : Bool) → txns (cond b ((t.id, t) ∷ e ∷ es) (e ∷ insert_entry nat_cmp es t.id t)) ≡ cond b (t ∷ e.1 ∷ txns es) (e.1 ∷ put_in t (txns es))
    at more true = refl
    at more false = ap (λ us. e.1 ∷ us) more

keyed_put : (es : List (ℕ × Txn)) (t : Txn) → Keyed es → txn_of t.id (txns es) ≡ None → Keyed (insert_entry nat_cmp es t.id t)
keyed_put [] t keys none = (refl, tt)
keyed_put (e ∷ es) t keys none =
    subst Keyed (sym (put_is e es t keys.0 none)) (at (keyed_put es t keys.1 (not_behind (e.1.id == t.id) e.1 (txn_of t.id (txns es)) none)) (nat_lt t.id e.1.id))
  where
    at : Keyed (insert_entry nat_cmp es t.id t) → (b : Bool) → Keyed (cond b ((t.id, t) ∷ e ∷ es) (e ∷ insert_entry nat_cmp es t.id t))
    at more true = (refl, keys)
    at more false = (keys.0, more)

pub all_put : (P : Txn → Type 0) (ts : List Txn) (t : Txn) → P t → AllByRecursion P ts → AllByRecursion P (put_in t ts)
all_put P [] t it all = (it, tt)
all_put P (u ∷ us) t it all = at (all_put P us t it all.1) (nat_lt t.id u.id)
  where
    at : AllByRecursion P (put_in t us) → (b : Bool) → AllByRecursion P (cond b (t ∷ u ∷ us) (u ∷ put_in t us))
    at more true = (it, all)
    at more false = (all.0, more)

rise_put : (ts : List Txn) (t : Txn) → Rise ts → txn_of t.id ts ≡ None → Rise (put_in t ts)
rise_put [] t rise none = (tt, tt)
rise_put (u ∷ us) t rise none = at (rise_put us t rise.1 (not_behind (u.id == t.id) u (txn_of t.id us) none)) (nat_lt t.id u.id) refl
  where
    before : (a b : ℕ) → nat_lt a b ≡ true → a < b
    before a b is = grind (arith, nat_tests)

    behind : (a b : ℕ) → nat_lt a b ≡ false → (b == a) ≡ false → b < a
    behind a b is apart = grind (arith, nat_tests)

    through : (a b n : ℕ) → a < b → b < n → a < n
    through a b n first second = omega arith

    at : Rise (put_in t us) → (b : Bool) → nat_lt t.id u.id ≡ b → Rise (cond b (t ∷ u ∷ us) (u ∷ put_in t us))
    at more true is =
        let lower = before t.id u.id is in
        ((lower, all_other (λ (v : Txn). u.id < v.id) (λ (v : Txn). t.id < v.id) us (λ v. through t.id u.id v.id lower) rise.0), rise)
    at more false is = (all_put (λ v. u.id < v.id) us t (behind t.id u.id is (not_first (u.id == t.id) u (txn_of t.id us) none)) rise.0, more)

pub by_id_put : (es : List (ℕ × Txn)) (t : Txn) → AreById es → txn_of t.id (txns es) ≡ None → AreById (insert_entry nat_cmp es t.id t)
by_id_put es t by none = record {
  keys = keyed_put es t by.keys none;
  rise = subst Rise (sym (put es t by.keys none)) (rise_put (txns es) t by.rise none);
}

-- ---- a reference to one

pub is_lent : {X : Type 0} (o : Option (MutBor X)) → is_some (option_copied_mut o) ≡ true → is_some o ≡ true
is_lent None e = e
is_lent (Some x) e = e
