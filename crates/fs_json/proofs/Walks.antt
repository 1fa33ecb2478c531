-- Lists that are read item by item. Each crate that reads JSON may cite it.
use Rattle.std.proofs.Common.{◌≡◌, ℕ, suc, ◌+◌, ◌≤◌, List, [], ◌∷◌, ◌++◌, Result, Ok, Err, IfOk, refl, sym, ap, append_assoc, arith}
use Rattle.std.specs.List.{AllByRecursion}
use Rattle.fs_path.specs.Place.{item_place}
use Rattle.fs_path.specs.declared.place.Rule.TheVariants.{G}
use Rattle.serde_json.specs.Data as json
use Rattle.serde_json.specs.Data.{depth, items_depth}
use Rattle.serde_json.specs.Find.{as_array}
use Rattle.fs_json.specs.Answer.{or_fault, ◌>>=◌}
use Rattle.fs_json.specs.Walk.{all_at, each_at}
use Rattle.fs_json.specs.declared.bad.Bad.{Bad}
use Rattle.fs_json.proofs.Readings.{at_last_holds, both_hold}

-- ---- what was read so far, in front of the rest

-- the rest of a reading, behind what was read before
abbrev pub behind : {A : Type 0} → List A → Result (List A) Bad → Result (List A) Bad
behind front rest = rest >>= λ xs. Ok (front ++ xs)

-- one more
pub behind-more : {A : Type 0} (front : List A) (x : A) (rest : Result (List A) Bad) → behind front (rest >>= λ xs. Ok (x ∷ xs)) ≡ behind (front ++ x ∷ []) rest
behind-more front x (Ok xs) = ap Ok (sym (append_assoc front (x ∷ []) xs))
behind-more front x (Err bad) = refl

pub next_one : {A : Type 0} (read : json.Data → List ℕ → Result A Bad) (front : List A) (d : json.Data) (ds : json.Items) (i : ℕ) (place : List ℕ) (x : A)
    → read d (item_place place i) ≡ Ok x → behind front (each_at read (json.item d ds) i place) ≡ behind (front ++ x ∷ []) (each_at read ds (i + 1) place)
next_one read front d ds i place x e = rw e (behind-more front x (each_at read ds (i + 1) place))

-- ---- what holds of each item

pub each_item : {A : Type 0} (P : A → Type 0) (read : json.Data → List ℕ → Result A Bad) (ds : json.Items) (i : ℕ) (place : List ℕ)
    → ((d : json.Data) (p : List ℕ) → IfOk (read d p) P) → IfOk (each_at read ds i place) (AllByRecursion P)
each_item P read json.no_items i place each = tt
each_item P read (json.item d ds) i place each =
    both_hold P (AllByRecursion P) (AllByRecursion P) (λ x xs. x ∷ xs) (read d (item_place place i)) (each_at read ds (i + 1) place)
    (each d (item_place place i)) (each_item P read ds (i + 1) place each) (λ x xs is are. (is, are))

pub each_of_list : {A : Type 0} (P : A → Type 0) (read : json.Data → List ℕ → Result A Bad) (d : json.Data) (place : List ℕ)
    → ((x : json.Data) (p : List ℕ) → IfOk (read x p) P) → IfOk (all_at read d place) (AllByRecursion P)
each_of_list P read d place each = at_last_holds (AllByRecursion P) (or_fault G place (as_array d)) _ (λ items. each_item P read items 0 place each)

-- and of items that are so deep at most
pub each_inside : {A : Type 0} (P : A → Type 0) (read : json.Data → List ℕ → Result A Bad) (ds : json.Items) (n i : ℕ) (place : List ℕ) → items_depth ds ≤ n
    → ((d : json.Data) (p : List ℕ) → depth d ≤ n → IfOk (read d p) P) → IfOk (each_at read ds i place) (AllByRecursion P)
each_inside P read json.no_items n i place h each = tt
each_inside P read (json.item d ds) n i place h each =
    both_hold P (AllByRecursion P) (AllByRecursion P) (λ x xs. x ∷ xs) (read d (item_place place i)) (each_at read ds (i + 1) place)
    (each d (item_place place i) (omega (arith, h))) (each_inside P read ds n (i + 1) place (omega (arith, h)) each) (λ x xs is are. (is, are))

pub list_inside : {A : Type 0} (P : A → Type 0) (read : json.Data → List ℕ → Result A Bad) (d : json.Data) (n : ℕ) (place : List ℕ) → depth d ≤ suc n
    → ((x : json.Data) (p : List ℕ) → depth x ≤ n → IfOk (read x p) P) → IfOk (all_at read d place) (AllByRecursion P)
list_inside P read json.null n place h each = record {}
list_inside P read (json.boolean b) n place h each = record {}
list_inside P read (json.number m) n place h each = record {}
list_inside P read (json.string s) n place h each = record {}
list_inside P read (json.array ds) n place h each = each_inside P read ds n 0 place (omega (arith, h)) each
list_inside P read (json.object ms) n place h each = record {}
