-- Numbers by their keys, and keys by their numbers.
use Rattle.std.proofs.Common.{◌≡◌, ◌≢◌, ℕ, Bool, true, false, cond, List, [], ◌∷◌, Option, Some, None, refl, sym, ap, ◌∙◌, eq-eqb, subst}
use Rattle.std.specs.Prelude.{IsTrue, ◌==◌}
use Rattle.std.specs.Cmp.{second_so}
use Rattle.std.specs.FinMap.{FinMap, entries, entries_sorted, find, from_entries, get, get-entries, get-from_entries, get-insert, get-remove, insert, is_sorted, nat_cmp-IsAntisymmetric, remove, same_map}
use Rattle.std.specs.FinMap.Entries.{below_all}
use Rattle.std.specs.List.{AllByRecursion}
use Rattle.std.specs.Option.{option_map_or}
use Rattle.std.specs.Ordering.{eq_by_cmp, nat_cmp}
use Rattle.std.proofs.lemmas.Bool.{eqb-true}
use Rattle.std.proofs.lemmas.Cmp.{nat_cmp_total}
use Rattle.fs_path.proofs.Bools.{to_true}
use Rattle.fs_pairs.specs.Pairs.{AreDistinct, AreKeysOf, freed, key_of}
use Rattle.fs_pairs.proofs.Entries.{behind_first, first_found, number_is, number_itself}

-- one that is given and taken back
pub given_and_taken_back : (m : FinMap nat_cmp ℕ) (key number : ℕ) → get m key ≡ None → remove (insert m key number) key ≡ m
given_and_taken_back m key number none =
    same_map nat_cmp_total nat_cmp-IsAntisymmetric _ _
    (λ q. get-remove nat_cmp_total (insert m key number) key q
    ∙ ap (λ (o : Option ℕ). cond (eq_by_cmp nat_cmp q key) None o) (get-insert nat_cmp_total m key number q)
    ∙ by_test q (eq_by_cmp nat_cmp q key) refl)
  where
    by_test : (q : ℕ) (same : Bool) → eq_by_cmp nat_cmp q key ≡ same → cond same None (cond same (Some number) (get m q)) ≡ get m q
    by_test q true is = sym none ∙ ap (get m) (sym (number_is q key is))
    by_test q false is = refl

-- ---- whose a number is

-- of a number that all have who have it
owner : (number k : ℕ) (es : List (ℕ × ℕ)) → AllByRecursion (λ (e : ℕ × ℕ). e.1 ≡ number → e.0 ≡ k) es → find nat_cmp k es ≡ Some number → key_of number es ≡ Some k
owner number k [] all found = absurd (cc)
owner number k (e ∷ es) all found = by_value (owner number k es all.1) (e.1 == number) refl where
  by_key : (find nat_cmp k es ≡ Some number → key_of number es ≡ Some k) → (e.1 == number) ≡ false → (same : Bool) → cond same (Some e.1) (find nat_cmp k es) ≡ Some number → key_of number es ≡ Some k
  by_key more other true is = absurd (let value : e.1 ≡ number = cc in let both : true ≡ false = sym (eq-eqb e.1 number value) ∙ other in cc)
  by_key more other false is = more is

  by_value : (find nat_cmp k es ≡ Some number → key_of number es ≡ Some k) → (same : Bool) → (e.1 == number) ≡ same → key_of number (e ∷ es) ≡ Some k
  by_value more true is = ap (λ b. cond b (Some e.0) (key_of number es)) is ∙ ap Some (all.0 (eqb-true e.1 number is))
  by_value more false is = ap (λ b. cond b (Some e.0) (key_of number es)) is ∙ by_key more is (eq_by_cmp nat_cmp k e.0) found

nobody : (number : ℕ) (es : List (ℕ × ℕ)) → AllByRecursion (λ (e : ℕ × ℕ). e.1 ≡ number → ⊥) es → key_of number es ≡ None
nobody number [] all = refl
nobody number (e ∷ es) all = by_value (nobody number es all.1) (e.1 == number) refl where
  by_value : key_of number es ≡ None → (same : Bool) → (e.1 == number) ≡ same → key_of number (e ∷ es) ≡ None
  by_value more true is = absurd (all.0 (eqb-true e.1 number is))
  by_value more false is = ap (λ b. cond b (Some e.0) (key_of number es)) is ∙ more

-- what holds of each that is found holds of all
all_entries : (P : ℕ × ℕ → Type 0) (es : List (ℕ × ℕ)) → IsTrue (is_sorted nat_cmp es) → ((key n : ℕ) → find nat_cmp key es ≡ Some n → P (key, n)) → AllByRecursion P es
all_entries P [] rise each = tt
all_entries P (e ∷ es) rise each = (
  each e.0 e.1 (first_found e es rise),
  all_entries P es (second_so (below_all nat_cmp e.0 es) _ rise) (λ key n found. each key n (behind_first e es rise key n found)),
)

-- it is looked up
pub looked_up : (numbers keys : FinMap nat_cmp ℕ) → AreKeysOf numbers keys → (number : ℕ) → get keys number ≡ key_of number (entries numbers)
looked_up numbers keys of number = by_owner (get keys number) refl where
  each : (P : ℕ × ℕ → Type 0) → ((key n : ℕ) → get numbers key ≡ Some n → P (key, n)) → AllByRecursion P (entries numbers)
  each P all = all_entries P (entries numbers) (to_true _ (entries_sorted numbers)) (λ key n found. all key n (get-entries numbers key ∙ found))

  by_owner : (o : Option ℕ) → get keys number ≡ o → get keys number ≡ key_of number (entries numbers)
  by_owner None is =
      is ∙ sym (nobody number (entries numbers) (each (λ (e : ℕ × ℕ). e.1 ≡ number → ⊥) (λ key n found same.
      let there : Some key ≡ None = sym ((of key n).0 found) ∙ ap (get keys) same ∙ is in absurd (cc))))
  by_owner (Some k) is =
      let one = each (λ (e : ℕ × ℕ). e.1 ≡ number → e.0 ≡ k) (λ key n found same.
      let there : Some key ≡ Some k = sym ((of key n).0 found) ∙ ap (get keys) same ∙ is in cc) in
      is ∙ sym (owner number k (entries numbers) one (sym (get-entries numbers k) ∙ (of k number).1 is))

-- none has it, where none is its owner
pub no_owner : (numbers keys : FinMap nat_cmp ℕ) (number : ℕ) → AreKeysOf numbers keys → ((other : ℕ) → get numbers other ≢ Some number) → get keys number ≡ None
no_owner numbers keys number of unused = by_owner (get keys number) refl where
  by_owner : (o : Option ℕ) → get keys number ≡ o → get keys number ≡ None
  by_owner None is = is
  by_owner (Some k) is = absurd (unused k ((of k number).1 is))

-- ---- one more, and one less

nothing : (es : List (ℕ × ℕ)) (k v : ℕ) → es ≡ [] → get (from_entries {R = nat_cmp} es) k ≡ Some v → ⊥
nothing es k v none found =
    let is : None ≡ Some v = sym (get-from_entries nat_cmp_total es k ∙ ap (find nat_cmp k) none) ∙ found in
    cc

pub no_keys : (es fs : List (ℕ × ℕ)) → es ≡ [] → fs ≡ [] → AreKeysOf (from_entries es) (from_entries fs)
no_keys es fs none none_too key number = ((λ found. absurd (nothing es key number none found)), (λ found. absurd (nothing fs number key none_too found)))

pub more_keys : (numbers keys : FinMap nat_cmp ℕ) (key number : ℕ) → get numbers key ≡ None → ((other : ℕ) → get numbers other ≢ Some number) → AreKeysOf numbers keys
    → AreKeysOf (insert numbers key number) (insert keys number key)
more_keys numbers keys key number absent unused of q m = (
  (λ found. owner_of (eq_by_cmp nat_cmp q key) refl (eq_by_cmp nat_cmp m number) refl (sym (get-insert nat_cmp_total numbers key number q) ∙ found)),
  (λ found. number_of (eq_by_cmp nat_cmp q key) refl (eq_by_cmp nat_cmp m number) refl (sym (get-insert nat_cmp_total keys number key m) ∙ found)),
) where
  owner_is : (same : Bool) → eq_by_cmp nat_cmp m number ≡ same → get (insert keys number key) m ≡ cond same (Some key) (get keys m)
  owner_is same is = get-insert nat_cmp_total keys number key m ∙ ap (λ b. cond b (Some key) (get keys m)) is

  number_at : (same : Bool) → eq_by_cmp nat_cmp q key ≡ same → get (insert numbers key number) q ≡ cond same (Some number) (get numbers q)
  number_at same is = get-insert nat_cmp_total numbers key number q ∙ ap (λ b. cond b (Some number) (get numbers q)) is

  owner_of : (here : Bool) → eq_by_cmp nat_cmp q key ≡ here → (same : Bool) → eq_by_cmp nat_cmp m number ≡ same → cond (eq_by_cmp nat_cmp q key) (Some number) (get numbers q) ≡ Some m → get (insert keys number key) m ≡ Some q
  owner_of true here true same found = owner_is true same ∙ ap Some (sym (number_is q key here))
  owner_of true here false same found =
      let value : Some number ≡ Some m = sym (ap (λ b. cond b (Some number) (get numbers q)) here) ∙ found in
      let one : number ≡ m = cc in
      absurd (let both : true ≡ false = sym (number_itself m) ∙ ap (eq_by_cmp nat_cmp m) (sym one) ∙ same in cc)
  owner_of false here true same found =
      let there : get numbers q ≡ Some m = sym (ap (λ b. cond b (Some number) (get numbers q)) here) ∙ found in
      absurd (unused q (there ∙ ap Some (number_is m number same)))
  owner_of false here false same found =
      let there : get numbers q ≡ Some m = sym (ap (λ b. cond b (Some number) (get numbers q)) here) ∙ found in
      owner_is false same ∙ (of q m).0 there

  number_of : (here : Bool) → eq_by_cmp nat_cmp q key ≡ here → (same : Bool) → eq_by_cmp nat_cmp m number ≡ same → cond (eq_by_cmp nat_cmp m number) (Some key) (get keys m) ≡ Some q → get (insert numbers key number) q ≡ Some m
  number_of true here true same found = number_at true here ∙ ap Some (sym (number_is m number same))
  number_of false here true same found =
      let value : Some key ≡ Some q = sym (ap (λ b. cond b (Some key) (get keys m)) same) ∙ found in
      let one : key ≡ q = cc in
      absurd (let both : true ≡ false = sym (number_itself q) ∙ ap (eq_by_cmp nat_cmp q) (sym one) ∙ here in cc)
  number_of true here false same found =
      let there : get keys m ≡ Some q = sym (ap (λ b. cond b (Some key) (get keys m)) same) ∙ found in
      absurd (let both : None ≡ Some m = sym absent ∙ ap (get numbers) (sym (number_is q key here)) ∙ (of q m).1 there in cc)
  number_of false here false same found =
      let there : get keys m ≡ Some q = sym (ap (λ b. cond b (Some key) (get keys m)) same) ∙ found in
      number_at false here ∙ (of q m).1 there

pub fewer_keys : (numbers keys : FinMap nat_cmp ℕ) (key number : ℕ) → get numbers key ≡ Some number → AreKeysOf numbers keys → AreKeysOf (remove numbers key) (remove keys number)
fewer_keys numbers keys key number own of q m = (
  (λ found. owner_of (eq_by_cmp nat_cmp q key) refl (eq_by_cmp nat_cmp m number) refl (sym (get-remove nat_cmp_total numbers key q) ∙ found)),
  (λ found. number_of (eq_by_cmp nat_cmp q key) refl (eq_by_cmp nat_cmp m number) refl (sym (get-remove nat_cmp_total keys number m) ∙ found)),
) where
  owner_is : (same : Bool) → eq_by_cmp nat_cmp m number ≡ same → get (remove keys number) m ≡ cond same None (get keys m)
  owner_is same is = get-remove nat_cmp_total keys number m ∙ ap (λ b. cond b None (get keys m)) is

  number_at : (same : Bool) → eq_by_cmp nat_cmp q key ≡ same → get (remove numbers key) q ≡ cond same None (get numbers q)
  number_at same is = get-remove nat_cmp_total numbers key q ∙ ap (λ b. cond b None (get numbers q)) is

  owner_of : (here : Bool) → eq_by_cmp nat_cmp q key ≡ here → (same : Bool) → eq_by_cmp nat_cmp m number ≡ same → cond (eq_by_cmp nat_cmp q key) None (get numbers q) ≡ Some m → get (remove keys number) m ≡ Some q
  owner_of true here same_too same found = absurd (let both : None ≡ Some m = sym (ap (λ b. cond b None (get numbers q)) here) ∙ found in cc)
  owner_of false here true same found =
      let there : get numbers q ≡ Some m = sym (ap (λ b. cond b None (get numbers q)) here) ∙ found in
      let both : Some q ≡ Some key = sym ((of q m).0 there) ∙ ap (get keys) (number_is m number same) ∙ (of key number).0 own in
      let one : q ≡ key = cc in
      absurd (let twice : true ≡ false = sym (number_itself q) ∙ ap (eq_by_cmp nat_cmp q) one ∙ here in cc)
  owner_of false here false same found =
      let there : get numbers q ≡ Some m = sym (ap (λ b. cond b None (get numbers q)) here) ∙ found in
      owner_is false same ∙ (of q m).0 there

  number_of : (here : Bool) → eq_by_cmp nat_cmp q key ≡ here → (same : Bool) → eq_by_cmp nat_cmp m number ≡ same → cond (eq_by_cmp nat_cmp m number) None (get keys m) ≡ Some q → get (remove numbers key) q ≡ Some m
  number_of here_too here true same found = absurd (let both : None ≡ Some q = sym (ap (λ b. cond b None (get keys m)) same) ∙ found in cc)
  number_of true here false same found =
      let there : get keys m ≡ Some q = sym (ap (λ b. cond b None (get keys m)) same) ∙ found in
      let both : Some m ≡ Some number = sym ((of q m).1 there) ∙ ap (get numbers) (number_is q key here) ∙ own in
      let one : m ≡ number = cc in
      absurd (let twice : true ≡ false = sym (number_itself m) ∙ ap (eq_by_cmp nat_cmp m) one ∙ same in cc)
  number_of false here false same found =
      let there : get keys m ≡ Some q = sym (ap (λ b. cond b None (get keys m)) same) ∙ found in
      number_at false here ∙ (of q m).1 there

-- one that isn't there taken away
pub none_fewer : (numbers keys : FinMap nat_cmp ℕ) (key : ℕ) → get numbers key ≡ None → AreKeysOf numbers keys → AreKeysOf (remove numbers key) keys
none_fewer numbers keys key none of q m = (
  (λ found. (of q m).0 (sym (same_at (eq_by_cmp nat_cmp q key) refl) ∙ found)),
  (λ found. same_at (eq_by_cmp nat_cmp q key) refl ∙ (of q m).1 found),
) where
  same_at : (here : Bool) → eq_by_cmp nat_cmp q key ≡ here → get (remove numbers key) q ≡ get numbers q
  same_at true here = get-remove nat_cmp_total numbers key q ∙ ap (λ b. cond b None (get numbers q)) here ∙ sym none ∙ ap (get numbers) (sym (number_is q key here))
  same_at false here = get-remove nat_cmp_total numbers key q ∙ ap (λ b. cond b None (get numbers q)) here

-- ---- a number that goes to another key

still_none : (m : FinMap nat_cmp ℕ) (k q : ℕ) → get m k ≡ None → get (remove m q) k ≡ None
still_none m k q none = get-remove nat_cmp_total m q k ∙ by_test (eq_by_cmp nat_cmp k q) where
  by_test : (same : Bool) → cond same None (get m k) ≡ None
  by_test true = refl
  by_test false = none

-- what is taken away before it is put over
pub put_over : (m : FinMap nat_cmp ℕ) (k v : ℕ) → insert (remove m k) k v ≡ insert m k v
put_over m k v =
    same_map nat_cmp_total nat_cmp-IsAntisymmetric _ _
    (λ q. get-insert nat_cmp_total (remove m k) k v q
    ∙ ap (λ (o : Option ℕ). cond (eq_by_cmp nat_cmp q k) (Some v) o) (get-remove nat_cmp_total m k q)
    ∙ by_test q (eq_by_cmp nat_cmp q k)
    ∙ sym (get-insert nat_cmp_total m k v q))
  where
    by_test : (q : ℕ) (same : Bool) → cond same (Some v) (cond same None (get m q)) ≡ cond same (Some v) (get m q)
    by_test q true = refl
    by_test q false = refl

pub removed_late : (m : FinMap nat_cmp ℕ) (key number former : ℕ) → key ≢ former → remove (insert m key number) former ≡ insert (remove m former) key number
removed_late m key number former differ =
    same_map nat_cmp_total nat_cmp-IsAntisymmetric _ _
    (λ q. get-remove nat_cmp_total (insert m key number) former q
    ∙ ap (λ (o : Option ℕ). cond (eq_by_cmp nat_cmp q former) None o) (get-insert nat_cmp_total m key number q)
    ∙ by_test q (eq_by_cmp nat_cmp q former) refl (eq_by_cmp nat_cmp q key) refl
    ∙ sym (get-insert nat_cmp_total (remove m former) key number q ∙ ap (λ (o : Option ℕ). cond (eq_by_cmp nat_cmp q key) (Some number) o) (get-remove nat_cmp_total m former q)))
  where
    by_test : (q : ℕ) (gone : Bool) → eq_by_cmp nat_cmp q former ≡ gone → (here : Bool) → eq_by_cmp nat_cmp q key ≡ here
        → cond gone None (cond here (Some number) (get m q)) ≡ cond here (Some number) (cond gone None (get m q))
    by_test q true gone true here = absurd (differ (sym (number_is q key here) ∙ number_is q former gone))
    by_test q true gone false here = refl
    by_test q false gone here is = refl

pub taken_over : (numbers keys : FinMap nat_cmp ℕ) (key number former : ℕ) → get numbers key ≡ None → get keys number ≡ Some former → AreKeysOf numbers keys
    → AreKeysOf (insert (remove numbers former) key number) (insert keys number key)
taken_over numbers keys key number former absent owned of =
    subst (AreKeysOf (insert (remove numbers former) key number)) (put_over keys number key)
    (more_keys (remove numbers former) (remove keys number) key number (still_none numbers key former absent) unused
    (fewer_keys numbers keys former number ((of former number).1 owned) of))
  where
    unused : (other : ℕ) → get (remove numbers former) other ≢ Some number
    unused other found = by_test (eq_by_cmp nat_cmp other former) refl where
      at : (same : Bool) → eq_by_cmp nat_cmp other former ≡ same → cond same None (get numbers other) ≡ Some number
      at same is = ap (λ b. cond b None (get numbers other)) (sym is) ∙ sym (get-remove nat_cmp_total numbers former other) ∙ found

      by_test : (same : Bool) → eq_by_cmp nat_cmp other former ≡ same → ⊥
      by_test true is = let both : None ≡ Some number = at true is in cc
      by_test false is =
          let both : Some other ≡ Some former = sym ((of other number).0 (at false is)) ∙ owned in
          let one : other ≡ former = cc in
          let twice : true ≡ false = sym (number_itself former) ∙ ap (λ k. eq_by_cmp nat_cmp k former) (sym one) ∙ is in cc

-- who takes a number over isn't who has it
pub another : (numbers keys : FinMap nat_cmp ℕ) (key number former : ℕ) → get numbers key ≡ None → get keys number ≡ Some former → AreKeysOf numbers keys → key ≢ former
another numbers keys key number former absent owned of same =
    let both : None ≡ Some number = sym absent ∙ ap (get numbers) same ∙ (of former number).1 owned in
    cc

pub unused_by_all : (numbers keys : FinMap nat_cmp ℕ) (number : ℕ) → get keys number ≡ None → AreKeysOf numbers keys → (other : ℕ) → get numbers other ≢ Some number
unused_by_all numbers keys number none of other found = let both : None ≡ Some other = sym none ∙ (of other number).0 found in cc

-- a number that nobody has is freed as it is
pub freed_unused : (m : FinMap nat_cmp ℕ) (number : ℕ) → ((other : ℕ) → get m other ≢ Some number) → freed m number ≡ m
freed_unused m number unused =
    ap (λ (o : Option ℕ). option_map_or (remove m) o m)
    (nobody number (entries m) (all_entries (λ (e : ℕ × ℕ). e.1 ≡ number → ⊥) (entries m) (to_true _ (entries_sorted m))
    (λ key n found same. unused key (get-entries m key ∙ found ∙ ap Some same))))

-- the key of a number is whoever has it
pub key_is : (m : FinMap nat_cmp ℕ) (key number : ℕ) → AreDistinct m → get m key ≡ Some number → key_of number (entries m) ≡ Some key
key_is m key number differ has =
    owner number key (entries m)
    (all_entries (λ (e : ℕ × ℕ). e.1 ≡ number → e.0 ≡ key) (entries m) (to_true _ (entries_sorted m))
    (λ k n found same. differ k key number (get-entries m k ∙ found ∙ ap Some same) has))
    (sym (get-entries m key) ∙ has)

-- a number goes to who has it
pub given_again : (m : FinMap nat_cmp ℕ) (key number : ℕ) → AreDistinct m → get m key ≡ Some number → insert (freed m number) key number ≡ m
given_again m key number differ has =
    ap (λ (o : Option ℕ). insert (option_map_or (remove m) o m) key number) (key_is m key number differ has) ∙ put_over m key number
    ∙ same_map nat_cmp_total nat_cmp-IsAntisymmetric _ _ (λ q. get-insert nat_cmp_total m key number q ∙ by_test q (eq_by_cmp nat_cmp q key) refl)
  where
    by_test : (q : ℕ) (same : Bool) → eq_by_cmp nat_cmp q key ≡ same → cond same (Some number) (get m q) ≡ get m q
    by_test q true is = sym has ∙ ap (get m) (sym (number_is q key is))
    by_test q false is = refl

-- no two have one number
pub distinct : (numbers keys : FinMap nat_cmp ℕ) → AreKeysOf numbers keys → AreDistinct numbers
distinct numbers keys of one other number found found_too =
    let both : Some one ≡ Some other = sym ((of one number).0 found) ∙ (of other number).0 found_too in
    cc

-- ---- no two keys have one number, whatever becomes of them

pub distinct_more : (m : FinMap nat_cmp ℕ) (key number : ℕ) → AreDistinct m → ((other : ℕ) → get m other ≢ Some number) → AreDistinct (insert m key number)
distinct_more m key number differ unused one other n found found_too =
    by_tests (eq_by_cmp nat_cmp one key) refl (eq_by_cmp nat_cmp other key) refl (sym (get-insert nat_cmp_total m key number one) ∙ found) (sym (get-insert nat_cmp_total m key number other) ∙ found_too)
  where
    by_tests : (a : Bool) → eq_by_cmp nat_cmp one key ≡ a → (b : Bool) → eq_by_cmp nat_cmp other key ≡ b → cond a (Some number) (get m one) ≡ Some n → cond b (Some number) (get m other) ≡ Some n → one ≡ other
    by_tests true here true there has has_too = number_is one key here ∙ sym (number_is other key there)
    by_tests true here false there has has_too = absurd (unused other (has_too ∙ sym has))
    by_tests false here true there has has_too = absurd (unused one (has ∙ sym has_too))
    by_tests false here false there has has_too = differ one other n has has_too

pub distinct_fewer : (m : FinMap nat_cmp ℕ) (key : ℕ) → AreDistinct m → AreDistinct (remove m key)
distinct_fewer m key differ one other n found found_too = differ one other n (there one found) (there other found_too) where
  by_test : (k : ℕ) (same : Bool) → cond same None (get m k) ≡ Some n → get m k ≡ Some n
  by_test k true has = absurd (let none : None ≡ Some n = has in cc)
  by_test k false has = has

  there : (k : ℕ) → get (remove m key) k ≡ Some n → get m k ≡ Some n
  there k has = by_test k (eq_by_cmp nat_cmp k key) (sym (get-remove nat_cmp_total m key k) ∙ has)

pub distinct_freed : (m : FinMap nat_cmp ℕ) (number : ℕ) → AreDistinct m → AreDistinct (freed m number)
distinct_freed m number differ = by_key (key_of number (entries m)) where
  by_key : (o : Option ℕ) → AreDistinct (option_map_or (remove m) o m)
  by_key None = differ
  by_key (Some key) = distinct_fewer m key differ

-- nobody has a number that is freed
pub freed_spares : (m : FinMap nat_cmp ℕ) (number : ℕ) → AreDistinct m → (other : ℕ) → get (freed m number) other ≢ Some number
freed_spares m number differ other = by_key (key_of number (entries m)) refl where
  by_test : (key : ℕ) (same : Bool) → eq_by_cmp nat_cmp other key ≡ same → key_of number (entries m) ≡ Some key → cond same None (get m other) ≡ Some number → ⊥
  by_test key true is its has = let none : None ≡ Some number = has in cc
  by_test key false is its has =
      let both : Some other ≡ Some key = sym (key_is m other number differ has) ∙ its in
      let one : other ≡ key = cc in
      let twice : true ≡ false = sym (number_itself other) ∙ ap (eq_by_cmp nat_cmp other) one ∙ is in
      cc

  by_key : (o : Option ℕ) → key_of number (entries m) ≡ o → get (option_map_or (remove m) o m) other ≢ Some number
  by_key None its has = let both : None ≡ Some other = sym its ∙ key_is m other number differ has in cc
  by_key (Some key) its has = by_test key (eq_by_cmp nat_cmp other key) refl its (sym (get-remove nat_cmp_total m key other) ∙ has)
