-- The entries of an opened map as fields: what is found, changed and taken out by key is that of `FinMap`'s `find`, `put`
-- and the fields without the key.
use Rattle.std.specs.Prelude.{◌≡◌, ℕ, IsTrue, T, Bool, true, false, cond, not, List, [], ◌∷◌, ◌++◌, map, Option, Some, None, option_map, refl}
use Rattle.std.proofs.Common.{sym, ap, ◌∙◌, subst, append_assoc, append-nil, length, arith}
use Rattle.std.specs.Ordering.{eq_by_cmp, is_eq, is_lt, ordering_reverse}
use Rattle.std.specs.declared.cmp.Ordering.TheVariants.{Less, Greater}
use Rattle.std.specs.Cmp.{alike_right, first_so, second_so}
use Rattle.std.specs.Cmp.Derive.{both_true}
use Rattle.std.specs.BTreeMap.{is_at}
use Rattle.std.specs.List.{AllByRecursion}
use Rattle.std.specs.List.Sorted.{IsStrictlySortedBy}
use Rattle.std.specs.Map.{lookup, keys_of}
use Rattle.std.specs.FinMap.{find, put, is_sorted}
use Rattle.std.specs.FinMap.Entries.{below_all, by_order, same_entries, is_sorted-put, is_sorted-where_key, find-put, find-where_key}
use Rattle.std.proofs.lemmas.Cmp.{eq_by_cmp_equiv}
use Rattle.fs_path.proofs.Orders.{less_is}
use Rattle.fs_path.specs.TextOrder.{text_cmp, text_cmp_total, text_same}
use Rattle.fs_value.specs.Data.{Data}
use Rattle.fs_value.specs.FieldPaths.{without}
use Rattle.fs_value.specs.View.{view, field_view}
use Rattle.fs_value.specs.declared.fields.Field.{Field}
use Rattle.fs_value.specs.declared.value.Value.{Value}
use Rattle.fs_edit.specs.OpenView.{open_view, entry_view}
use Rattle.fs_edit.specs.declared.open_fields.Open.{Open}

-- ---- in order

-- the keys of entries rise
abbrev pub Rise : List (List ℕ × Open) → Type 0
Rise es = IsStrictlySortedBy text_cmp (keys_of es)

below : (k : List ℕ) (es : List (List ℕ × Open)) → AllByRecursion (λ l. text_cmp k l ≡ Less) (keys_of es) → IsTrue (below_all text_cmp k (map entry_view es))
below k [] h = refl
below k (e ∷ es) h = both_true (ap is_lt h.0) (below k es h.1)

pub rising : (es : List (List ℕ × Open)) → Rise es → IsTrue (is_sorted text_cmp (map entry_view es))
unfolding IsStrictlySortedBy
rising [] h = refl
rising (e ∷ es) h = both_true (below e.0 es h.0) (rising es h.1)

sorted : (es : List (List ℕ × Open)) → Rise es → T (is_sorted text_cmp (map entry_view es))
sorted es h = subst T (sym (rising es h)) tt

-- ---- by key

map_cond : (b : Bool) (o : Open) (rest : Option Open) → option_map open_view (cond b (Some o) rest) ≡ cond b (Some (open_view o)) (option_map open_view rest)
map_cond true o rest = refl
map_cond false o rest = refl

map_none : (b : Bool) (rest : Option Open) → option_map open_view (cond b None rest) ≡ cond b None (option_map open_view rest)
map_none true rest = refl
map_none false rest = refl

turned : (b : Bool) (rest : Option Data) → cond b None rest ≡ cond (not b) rest None
turned true rest = refl
turned false rest = refl

-- what is found
pub found : (es : List (List ℕ × Open)) (q : List ℕ) → find text_cmp q (map entry_view es) ≡ option_map open_view (lookup (is_at (text_cmp q)) es)
found [] q = refl
found (e ∷ es) q =
    ap (cond (eq_by_cmp text_cmp q e.0) (Some (open_view e.1))) (found es q) ∙ sym (map_cond (eq_by_cmp text_cmp q e.0) e.1 (lookup (is_at (text_cmp q)) es))

-- what a change leaves
pub changed : (es fs : List (List ℕ × Open)) (k : List ℕ) (o : Open) → Rise es → Rise fs
    → ((q : List ℕ) → lookup (is_at (text_cmp q)) fs ≡ cond (is_at (text_cmp k) q) (Some o) (lookup (is_at (text_cmp q)) es))
    → map entry_view fs ≡ put text_cmp k (open_view o) (map entry_view es)
changed es fs k o rise rise' is =
    same_entries text_cmp text_cmp_total text_same (map entry_view fs) (put text_cmp k (open_view o) (map entry_view es)) (sorted fs rise')
    (is_sorted-put text_cmp text_cmp_total k (open_view o) (map entry_view es) (sorted es rise))
    (λ q. found fs q
    ∙ ap (option_map open_view) (is q)
    ∙ map_cond (is_at (text_cmp k) q) o (lookup (is_at (text_cmp q)) es)
    ∙ ap (cond (is_at (text_cmp k) q) (Some (open_view o))) (sym (found es q))
    ∙ ap (λ b. cond b (Some (open_view o)) (find text_cmp q (map entry_view es))) ((eq_by_cmp_equiv text_cmp_total).symm k q)
    ∙ sym (find-put text_cmp text_cmp_total q k (open_view o) (map entry_view es)))

-- what is left once a key is taken out
pub removed : (es fs : List (List ℕ × Open)) (k : List ℕ) → Rise es → Rise fs
    → ((q : List ℕ) → lookup (is_at (text_cmp q)) fs ≡ cond (is_at (text_cmp k) q) None (lookup (is_at (text_cmp q)) es))
    → map entry_view fs ≡ without k (map entry_view es)
removed es fs k rise rise' is =
    same_entries text_cmp text_cmp_total text_same (map entry_view fs) (without k (map entry_view es)) (sorted fs rise')
    (is_sorted-where_key text_cmp (λ x. not (eq_by_cmp text_cmp k x)) (map entry_view es) (sorted es rise))
    (λ q. found fs q
    ∙ ap (option_map open_view) (is q)
    ∙ map_none (is_at (text_cmp k) q) (lookup (is_at (text_cmp q)) es)
    ∙ ap (cond (is_at (text_cmp k) q) None) (sym (found es q))
    ∙ turned (is_at (text_cmp k) q) (find text_cmp q (map entry_view es))
    ∙ sym (find-where_key text_cmp (λ x. not (eq_by_cmp text_cmp k x)) q (λ x t. ap (λ r. not (is_eq r)) (sym (alike_right text_cmp_total q x k t))) (map entry_view es)))

-- ---- one more, behind those that are there

below_middle : (l k : List ℕ) (d : Data) (xs more : List (List ℕ × Data)) → IsTrue (below_all text_cmp l (xs ++ (k, d) ∷ more)) → text_cmp l k ≡ Less
below_middle l k d [] more h = less_is _ (first_so _ (below_all text_cmp l more) h)
below_middle l k d (x ∷ xs) more h = below_middle l k d xs more (second_so (is_lt (text_cmp l x.0)) _ h)

put_last : (k : List ℕ) (d : Data) (xs more : List (List ℕ × Data)) → IsTrue (is_sorted text_cmp (xs ++ (k, d) ∷ more)) → put text_cmp k d xs ≡ xs ++ (k, d) ∷ []
put_last k d [] more h = refl
put_last k d (x ∷ xs) more h =
    let below = below_middle x.0 k d xs more (first_so _ (is_sorted text_cmp (xs ++ (k, d) ∷ more)) h) in
    let above : text_cmp k x.0 ≡ Greater = text_cmp_total.antisymm k x.0 ∙ ap ordering_reverse below in
    ap (λ r. by_order r ((k, d) ∷ x ∷ xs) ((x.0, d) ∷ xs) (x ∷ put text_cmp k d xs)) above
    ∙ ap (λ ys. x ∷ ys) (put_last k d xs more (second_so (below_all text_cmp x.0 (xs ++ (k, d) ∷ more)) _ h))

-- one more field is moved
pub moved_more : (old new : List (List ℕ × Data)) (left rest : List Field) (k : List ℕ) (v : Value) (all : List (List ℕ × Data))
    → IsTrue (is_sorted text_cmp all) → old ++ map field_view left ≡ all → left ≡ record { key = k; value = v } ∷ rest → new ≡ put text_cmp k (view v) old → new ++ map field_view rest ≡ all
moved_more old new left rest k v all rise done next is =
    let split : old ++ (k, view v) ∷ map field_view rest ≡ all = ap (λ xs. old ++ map field_view xs) (sym next) ∙ done in
    ap (λ xs. xs ++ map field_view rest) (is ∙ put_last k (view v) old (map field_view rest) (subst (λ xs. IsTrue (is_sorted text_cmp xs)) (sym split) rise))
    ∙ append_assoc old ((k, view v) ∷ []) (map field_view rest)
    ∙ split

-- nothing is left
nothing : (xs : List Field) → length xs ≡ 0 → xs ≡ []
nothing [] h = refl
nothing (x ∷ xs) h = absurd (omega arith)

pub all_moved : (done : List (List ℕ × Data)) (left : List Field) (all : List (List ℕ × Data)) → done ++ map field_view left ≡ all → length left ≡ 0 → done ≡ all
all_moved done left all h none = sym (append-nil done) ∙ ap (λ xs. done ++ map field_view xs) (sym (nothing left none)) ∙ h

pub all_closed : (done : List Field) (left whole : List (List ℕ × Open)) → map field_view done ++ map entry_view left ≡ map entry_view whole → left ≡ [] → map field_view done ≡ map entry_view whole
all_closed done left whole h none = sym (append-nil (map field_view done)) ∙ ap (λ xs. map field_view done ++ map entry_view xs) (sym none) ∙ h

pub closed_rising : (done : List Field) (left whole : List (List ℕ × Open)) → Rise whole → map field_view done ++ map entry_view left ≡ map entry_view whole → left ≡ [] → IsTrue (is_sorted text_cmp (map field_view done))
closed_rising done left whole rise h none = subst (λ xs. IsTrue (is_sorted text_cmp xs)) (sym (all_closed done left whole h none)) (rising whole rise)
