-- What is inside a JSON value nests less deep than the value, so reading ends. Each crate that reads JSON may cite it.
use Rattle.std.proofs.Common.{◌≡◌, ℕ, zero, suc, ◌≤◌, ◌<◌, List, [], ◌∷◌, ◌++◌, get_or, length, true, false, Bool, Option, Some, None, option_map, option_and_then, Result, Ok, Err, IfOk, IfSome, bytes_eq, cond, ap, subst, arith}
use Rattle.std.specs.Cmp.Lexicographic.{slice_cmp}
use Rattle.std.specs.List.{AllByRecursion}
use Rattle.std.specs.Option.{option_map_or, option_to_list}
use Rattle.std.specs.Ordering.{nat_cmp, match_ordering}
use Rattle.std.specs.declared.cmp.Ordering.{Ordering}
use Rattle.std.specs.declared.cmp.Ordering.TheVariants.{Less, Equal, Greater}
use Rattle.fs_path.specs.Place.{member_place}
use Rattle.fs_path.specs.declared.place.Rule.TheVariants.{G}
use Rattle.serde_json.specs.Data as json
use Rattle.serde_json.specs.Data.{depth, items_depth, members_depth}
use Rattle.serde_json.specs.Find.{get_member}
use Rattle.serde_json.specs.View.{items_view, members_view, view as json_view}
use Rattle.serde_json.specs.declared.value.Value.{Value}
use Rattle.serde_json.proofs.Views.{Entry}
use Rattle.fs_json.specs.Answer.{or_fault, ◌>>=◌}
use Rattle.fs_json.specs.Members.{at_most_one_at, chosen, first_spelled, given_at, is_given, member_at, member_in, none_or_one, one_of_at, one_spelling, required_at}
use Rattle.fs_json.specs.Names.{snake_of}
use Rattle.fs_json.specs.declared.bad.Bad.{Bad}
use Rattle.fs_json.proofs.Readings.{as_it_is, either, in_turn_holds}

-- ---- one of several members

-- each member that is chosen is at most so deep
record AreWithin (n : ℕ) (xs : List (List ℕ × json.Data)) : Type 0 where
  all : AllByRecursion (λ one. depth one.1 ≤ n) xs

within_more : (n : ℕ) (d : json.Data) (o : Option (List ℕ)) (xs : List (List ℕ × json.Data)) → depth d ≤ n → AreWithin n xs
    → AreWithin n (option_to_list (option_map (λ name. (name, d)) o) ++ xs)
within_more n d None xs h all = all
within_more n d (Some name) xs h all = record { all = (h, all.all) }

chosen_within : (names : List (List ℕ)) (ms : json.Members) (n : ℕ) → members_depth ms ≤ n → AreWithin n (chosen names ms)
chosen_within names json.no_members n h = record { all = record {} }
chosen_within names (json.member k d ms) n h =
    within_more n d (cond (is_given k d) (first_spelled names k) None) _ (omega arith) (chosen_within names ms n (omega arith))

one_within : (n : ℕ) (xs : List (List ℕ × json.Data)) (one : List ℕ × json.Data) → none_or_one xs ≡ Some (Some one) → AreWithin n xs → depth one.1 ≤ n
one_within n [] one e all = cc
one_within n (x ∷ []) one e all = let same : x ≡ one = cc in let P : List ℕ × json.Data → Type 0 = λ y. depth y.1 ≤ n in subst P same all.all.0
one_within n (x ∷ y ∷ rest) one e all = cc

or_fault_ok : {A : Type 0} (place : List ℕ) (o : Option A) (x : A) → or_fault G place o ≡ Ok x → o ≡ Some x
or_fault_ok place None x e = cc
or_fault_ok place (Some y) x e = cc

required_ok : {A : Type 0} (place : List ℕ) (read : Result (Option A) Bad) (x : A) → (read >>= or_fault G place) ≡ Ok x → read ≡ Ok (Some x)
required_ok place (Ok None) x e = cc
required_ok place (Ok (Some y)) x e = cc
required_ok place (Err bad) x e = cc

pub at_most_one_falls : (names : List (List ℕ)) (d : json.Data) (place : List ℕ) (one : List ℕ × json.Data)
    → at_most_one_at names d place ≡ Ok (Some one) → depth one.1 < depth d
at_most_one_falls names json.null place one e = cc
at_most_one_falls names (json.boolean b) place one e = cc
at_most_one_falls names (json.number n) place one e = cc
at_most_one_falls names (json.string s) place one e = cc
at_most_one_falls names (json.array ds) place one e = cc
at_most_one_falls names (json.object ms) place one e =
    omega (arith, one_within (members_depth ms) (chosen names ms) one (or_fault_ok place _ _ e) (chosen_within names ms (members_depth ms) (omega arith)))

pub one_of_falls : (names : List (List ℕ)) (d : json.Data) (place : List ℕ) (one : List ℕ × json.Data)
    → one_of_at names d place ≡ Ok one → depth one.1 < depth d
one_of_falls names d place one e = at_most_one_falls names d place one (required_ok place (at_most_one_at names d place) one e)

pub one_falls : (names : List (List ℕ)) (d : json.Data) (place : List ℕ) → IfOk (one_of_at names d place) (λ one. depth one.1 < depth d)
one_falls names d place = as_it_is (λ one. depth one.1 < depth d) (one_of_at names d place) (λ one is. one_of_falls names d place one is)

-- ---- one member

ordered : (P : json.Data → Type 0) (o : Ordering) (a b : Option json.Data) → IfSome a P → IfSome b P → IfSome (match_ordering o a b a) P
ordered P Less a b one other = one
ordered P Equal a b one other = other
ordered P Greater a b one other = one

got_within : (k : List ℕ) (ms : json.Members) (n : ℕ) → members_depth ms < n → IfSome (get_member k ms) (λ d. depth d < n)
got_within k json.no_members n h = record {}
got_within k (json.member l e ms) n h =
    let first : depth e < n = omega (arith, h) in
    ordered (λ d. depth d < n) (slice_cmp nat_cmp k l) (get_member k ms) (Some e) (got_within k ms n (omega (arith, h))) first

kept_if : (P : json.Data → Type 0) (b : Bool) (d : json.Data) → P d → IfSome (cond b (Some d) None) P
kept_if P true d is = is
kept_if P false d is = record {}

kept_when : (P : json.Data → Type 0) (key : List ℕ) (o : Option json.Data) → IfSome o P → IfSome (option_and_then (λ d. cond (is_given key d) (Some d) None) o) P
kept_when P key None is = record {}
kept_when P key (Some d) is = kept_if P (is_given key d) d is

spelled : (P : json.Data → Type 0) (second : List ℕ) (a b : Option json.Data) → IfSome a P → IfSome b P → IfOk (one_spelling second a b) (λ o. IfSome o P)
spelled P second None b one other = other
spelled P second (Some d) None one other = one
spelled P second (Some d) (Some e) one other = record {}

member_within : (name : List ℕ) (ms : json.Members) (place : List ℕ) (n : ℕ) → members_depth ms < n → IfOk (member_in name ms place) (λ o. IfSome o (λ d. depth d < n))
member_within name ms place n h =
    let P : json.Data → Type 0 = λ d. depth d < n in
    let there : (key : List ℕ) → IfSome (given_at key ms) P = λ key. kept_when P key (get_member key ms) (got_within key ms n h) in
    either (λ o. IfSome o P) (bytes_eq (snake_of name) name) _ _ (there name) (spelled P _ (given_at name ms) (given_at (snake_of name) ms) (there name) (there (snake_of name)))

-- a member is less deep than the value whose it is
pub member_falls : (name : List ℕ) (d : json.Data) (place : List ℕ) → IfOk (member_at name d place) (λ o. IfSome o (λ x. depth x < depth d))
member_falls name json.null place = record {}
member_falls name (json.boolean b) place = record {}
member_falls name (json.number n) place = record {}
member_falls name (json.string s) place = record {}
member_falls name (json.array ds) place = record {}
member_falls name (json.object ms) place = member_within name ms place (suc (members_depth ms)) (omega arith)

-- what is read of a member that may be absent
pub inside_or : {A : Type 0} (P : A → Type 0) (name : List ℕ) (d : json.Data) (place : List ℕ) (read : json.Data → Result A Bad) (absent : Result A Bad)
    → ((x : json.Data) → depth x < depth d → IfOk (read x) P) → IfOk absent P → IfOk (member_at name d place >>= λ found. option_map_or read found absent) P
inside_or P name d place read absent each none =
    in_turn_holds (λ o. IfSome o (λ x. depth x < depth d)) P (member_at name d place) _ (member_falls name d place) at
  where
    at : (found : Option json.Data) → IfSome found (λ x. depth x < depth d) → IfOk (option_map_or read found absent) P
    at None is = none
    at (Some x) is = each x is

-- and of one that has to be there
pub inside : {A : Type 0} (P : A → Type 0) (name : List ℕ) (d : json.Data) (place : List ℕ) (next : json.Data → Result A Bad)
    → ((x : json.Data) → depth x < depth d → IfOk (next x) P) → IfOk (required_at name d place >>= next) P
inside P name d place next each =
    let Q : json.Data → Type 0 = λ x. depth x < depth d in
    in_turn_holds Q P (required_at name d place) next (in_turn_holds (λ o. IfSome o Q) Q (member_at name d place) _ (member_falls name d place) (there (member_place place name))) each
  where
    there : (p : List ℕ) (found : Option json.Data) → IfSome found (λ x. depth x < depth d) → IfOk (or_fault G p found) (λ x. depth x < depth d)
    there p None is = record {}
    there p (Some x) is = is

-- ---- as code walks them

pub item_falls : (vs : List Value) (i : ℕ) (v : Value) → v ≡ get_or vs i v → i < length vs → depth (json_view v) ≤ items_depth (items_view vs)
item_falls [] i v e h = absurd (omega arith)
item_falls (x ∷ vs) zero v e h = omega (arith, ap (λ y. depth (json_view y)) e)
item_falls (x ∷ vs) (suc i) v e h = omega (arith, item_falls vs i v e (omega arith))

pub entry_falls : (done : List Entry) (e : Entry) (left : List Entry) → depth (json_view e.1) ≤ members_depth (members_view (done ++ e ∷ left))
entry_falls [] e left = omega arith
entry_falls (x ∷ done) e left = omega (arith, entry_falls done e left)
