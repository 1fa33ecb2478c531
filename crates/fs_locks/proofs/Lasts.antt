-- What is left where the last thing that an id came to hold is taken back.
use Rattle.std.proofs.Common.{◌≡◌, ℕ, ◌-◌, Bool, true, false, cond, List, [], ◌∷◌, ◌++◌, length, take, Option, Some, None, refl, sym, ap, ◌∙◌, subst, append_assoc, arith, length-append}
use Rattle.std.specs.Prelude.{◌==◌, ◌≢◌, ◌&&◌, ◌||◌, not, is_some, unwrap_or}
use Rattle.std.specs.BTreeMap.{insert_entry, is_at}
use Rattle.std.specs.List.Sorted.{IsStrictlySortedBy}
use Rattle.std.specs.Map.{keys_of, lookup, remove_entry, set_value}
use Rattle.std.specs.Option.{IfSome, option_to_list}
use Rattle.std.specs.Ordering.{is_eq, match_ordering, nat_cmp}
use Rattle.std.specs.declared.cmp.Ordering.{Ordering}
use Rattle.std.specs.declared.cmp.Ordering.TheVariants.{Less, Equal, Greater}
use Rattle.std.proofs.Math.Seq.{take-append_seam}
use Rattle.std.proofs.Math.Bool.{and-false, or-false}
use Rattle.std.proofs.lemmas.Bool.{eqb-true}
use Rattle.std.proofs.lemmas.Cmp.{eq_by_cmp_equiv, nat_cmp_total}
use Rattle.std.proofs.lemmas.List.{append-nil}
use Rattle.std.proofs.lemmas.List.Folds.{list_any-append}
use Rattle.std.proofs.lemmas.Map.Keys.{IsDistinct-from_sorted}
use Rattle.std.proofs.lemmas.Map.{lookup-remove_entry, lookup-set_value}
use Rattle.fs_locks.specs.Marks.{AreMarked, HoldSomething, IsMarked, helds}
use Rattle.fs_locks.specs.Shares.{Shares, left_with, shared_by, with_share, without_last_share}
use Rattle.fs_locks.specs.Spots.{IndexLess, IsIndex, Spot, is_among, is_at_spot}
use Rattle.fs_locks.specs.declared.held.Held.{Held}
use Rattle.fs_locks.specs.declared.index.Index.{Index}
use Rattle.fs_locks.specs.declared.reads.Noted.{Noted}
use Rattle.fs_locks.proofs.Entries.{found_there, insert_same, lookup_inserted}
use Rattle.fs_locks.proofs.Ids.{itself, tied, tied_is}

-- all but the last
abbrev pub front : {X : Type 0} → List X → List X
front xs = take (length xs - 1) xs

front_more : {X : Type 0} (xs : List X) (x : X) → front (xs ++ x ∷ []) ≡ xs
front_more xs x =
    let one : length (xs ++ x ∷ []) - 1 ≡ length xs = omega (arith, length-append xs (x ∷ [])) in
    ap (λ n. take n (xs ++ x ∷ [])) one ∙ take-append_seam xs (x ∷ [])

-- ---- entries by ids

module _ {X : Type 0} (id : ℕ) (v : X) where
  -- what comes to stand at an id is changed there
  set_inserted : (w : X) (es : List (ℕ × X)) → set_value (is_at (nat_cmp id)) (insert_entry nat_cmp es id v) w ≡ insert_entry nat_cmp es id w
  set_inserted w [] = ap (λ b. cond b ((id, w) ∷ []) ((id, v) ∷ [])) (itself id)
  set_inserted w (e ∷ es) = at (set_inserted w es) (nat_cmp id e.0) refl
    where
      at : set_value (is_at (nat_cmp id)) (insert_entry nat_cmp es id v) w ≡ insert_entry nat_cmp es id w → (o : Ordering) → nat_cmp id e.0 ≡ o
          → set_value (is_at (nat_cmp id)) (match_ordering o ((id, v) ∷ e ∷ es) ((e.0, v) ∷ es) (e ∷ insert_entry nat_cmp es id v)) w ≡ match_ordering o ((id, w) ∷ e ∷ es) ((e.0, w) ∷ es) (e ∷ insert_entry nat_cmp es id w)
      at more Less less = ap (λ b. cond b ((id, w) ∷ e ∷ es) ((id, v) ∷ set_value (is_at (nat_cmp id)) (e ∷ es) w)) (itself id)
      at more Equal ties = ap (λ o. cond (is_eq o) ((e.0, w) ∷ es) ((e.0, v) ∷ set_value (is_at (nat_cmp id)) es w)) ties
      at more Greater far = ap (λ o. cond (is_eq o) ((e.0, w) ∷ insert_entry nat_cmp es id v) (e ∷ set_value (is_at (nat_cmp id)) (insert_entry nat_cmp es id v) w)) far ∙ ap (λ fs. e ∷ fs) more

  -- and is taken out there
  removed_inserted : (es : List (ℕ × X)) → lookup (is_at (nat_cmp id)) es ≡ None → remove_entry (is_at (nat_cmp id)) (insert_entry nat_cmp es id v) ≡ es
  removed_inserted [] none = ap (λ b. cond b [] ((id, v) ∷ [])) (itself id)
  removed_inserted (e ∷ es) none = at (removed_inserted es) (nat_cmp id e.0) refl none
    where
      at : (lookup (is_at (nat_cmp id)) es ≡ None → remove_entry (is_at (nat_cmp id)) (insert_entry nat_cmp es id v) ≡ es) → (o : Ordering) → nat_cmp id e.0 ≡ o → cond (is_eq o) (Some e.1) (lookup (is_at (nat_cmp id)) es) ≡ None
          → remove_entry (is_at (nat_cmp id)) (match_ordering o ((id, v) ∷ e ∷ es) ((e.0, v) ∷ es) (e ∷ insert_entry nat_cmp es id v)) ≡ e ∷ es
      at more Less less none = ap (λ b. cond b (e ∷ es) ((id, v) ∷ remove_entry (is_at (nat_cmp id)) (e ∷ es))) (itself id)
      at more Equal ties none = absurd (cc)
      at more Greater far none = ap (λ o. cond (is_eq o) (insert_entry nat_cmp es id v) (e ∷ remove_entry (is_at (nat_cmp id)) (insert_entry nat_cmp es id v))) far ∙ ap (λ fs. e ∷ fs) (more none)

-- a change before does nothing to what is taken out
removed_set : {X : Type 0} (id : ℕ) (w : X) (es : List (ℕ × X)) → remove_entry (is_at (nat_cmp id)) (set_value (is_at (nat_cmp id)) es w) ≡ remove_entry (is_at (nat_cmp id)) es
removed_set id w [] = refl
removed_set {X} id w (e ∷ es) = at (removed_set id w es) (is_at (nat_cmp id) e.0) refl
  where
    at : remove_entry (is_at (nat_cmp id)) (set_value (is_at (nat_cmp id)) es w) ≡ remove_entry (is_at (nat_cmp id)) es → (b : Bool) → is_at (nat_cmp id) e.0 ≡ b
        → remove_entry (is_at (nat_cmp id)) (cond b ((e.0, w) ∷ es) (e ∷ set_value (is_at (nat_cmp id)) es w)) ≡ cond b es (e ∷ remove_entry (is_at (nat_cmp id)) es)
    at more true is = ap (λ (b : Bool). cond b es ((e.0, w) ∷ remove_entry (is_at (nat_cmp id)) es)) is
    at more false is = ap (λ (b : Bool). cond b (set_value (is_at (nat_cmp id)) es w) (e ∷ remove_entry (is_at (nat_cmp id)) (set_value (is_at (nat_cmp id)) es w))) is ∙ ap (λ (fs : List (ℕ × X)). e ∷ fs) more

-- ---- a hold, taken back

pub given_back : (shares : Shares) (id : ℕ) (h : Held) → IsStrictlySortedBy nat_cmp (keys_of shares) → HoldSomething shares → without_last_share (with_share shares id h) id ≡ shares
given_back shares id h rise some =
    ap (λ (hs : List Held). left_with (with_share shares id h) id (front hs)) (ap (λ o. unwrap_or o []) (found_there id (shared_by id shares ++ h ∷ []) shares))
    ∙ ap (left_with (with_share shares id h) id) (front_more (shared_by id shares) h)
    ∙ at (lookup (is_at (nat_cmp id)) shares) refl
  where
    at : (o : Option (List Held)) → lookup (is_at (nat_cmp id)) shares ≡ o → left_with (with_share shares id h) id (unwrap_or o []) ≡ shares
    at None none = removed_inserted id (shared_by id shares ++ h ∷ []) shares none
    at (Some []) found = absurd (some id found)
    at (Some (x ∷ xs)) found = set_inserted id (shared_by id shares ++ h ∷ []) (x ∷ xs) shares ∙ insert_same id (x ∷ xs) shares rise found

-- ---- entries, where the last thing of an id is taken back

removed_none : (shares : Shares) (id : ℕ) → lookup (is_at (nat_cmp id)) shares ≡ None → remove_entry (is_at (nat_cmp id)) shares ≡ shares
removed_none [] id none = refl
removed_none (e ∷ es) id none = at (removed_none es id) (is_at (nat_cmp id) e.0) none
  where
    at : (lookup (is_at (nat_cmp id)) es ≡ None → remove_entry (is_at (nat_cmp id)) es ≡ es) → (b : Bool) → cond b (Some e.1) (lookup (is_at (nat_cmp id)) es) ≡ None → cond b es (e ∷ remove_entry (is_at (nat_cmp id)) es) ≡ e ∷ es
    at more true none = absurd (cc)
    at more false none = ap (λ (fs : Shares). e ∷ fs) (more none)

-- it held nothing
pub left_none : (shares : Shares) (id : ℕ) → lookup (is_at (nat_cmp id)) shares ≡ None → without_last_share shares id ≡ shares
left_none shares id none = ap (λ o. left_with shares id (front (unwrap_or o []))) none ∙ removed_none shares id none

-- it held nothing else
pub left_empty : (shares : Shares) (id : ℕ) (hs left : List Held) → lookup (is_at (nat_cmp id)) shares ≡ Some hs → left ≡ front hs → left ≡ []
    → remove_entry (is_at (nat_cmp id)) (set_value (is_at (nat_cmp id)) shares left) ≡ without_last_share shares id
left_empty shares id hs left found is none =
    removed_set id left shares ∙ ap (left_with shares id) (sym none ∙ is ∙ ap (λ o. front (unwrap_or o [])) (sym found))

-- ---- what each id has, where the last thing of one is taken back

there_more : (o : Option (List Held)) (x : Held) (xs : List Held) → front (unwrap_or o []) ≡ x ∷ xs → is_some o ≡ true
there_more None x xs is = absurd (cc)
there_more (Some hs) x xs is = refl

-- what is left of it stands at the id, if anything
abbrev pub left_of : List Held → Option (List Held)
left_of [] = None
left_of (h ∷ hs) = Some (h ∷ hs)

test_at : (id x y : ℕ) → is_at (nat_cmp id) x ≡ true → is_at (nat_cmp id) y ≡ is_at (nat_cmp x) y
test_at id x y ties = ap (λ (k : ℕ). is_at (nat_cmp k) y) (tied_is id x ties)

lookup_left : (shares : Shares) (id q : ℕ) (hs : List Held) → IsStrictlySortedBy nat_cmp (keys_of shares) → front (shared_by id shares) ≡ hs
    → lookup (is_at (nat_cmp q)) (left_with shares id hs) ≡ cond (is_at (nat_cmp id) q) (left_of hs) (lookup (is_at (nat_cmp q)) shares)
lookup_left shares id q [] rise is = lookup-remove_entry (eq_by_cmp_equiv nat_cmp_total) (is_at (nat_cmp id)) (test_at id) q shares (IsDistinct-from_sorted nat_cmp (keys_of shares) rise)
lookup_left shares id q (h ∷ hs) rise is = lookup-set_value (eq_by_cmp_equiv nat_cmp_total) (is_at (nat_cmp id)) (test_at id) q (h ∷ hs) shares (there_more (lookup (is_at (nat_cmp id)) shares) h hs is)

pub shared_left : (shares : Shares) (id q : ℕ) → IsStrictlySortedBy nat_cmp (keys_of shares) → shared_by q (without_last_share shares id) ≡ cond (q == id) (front (shared_by id shares)) (shared_by q shares)
shared_left shares id q rise =
    ap (λ o. unwrap_or o []) (lookup_left shares id q (front (shared_by id shares)) rise refl)
    ∙ at (is_at (nat_cmp id) q) (front (shared_by id shares))
    ∙ ap (λ b. cond b (front (shared_by id shares)) (shared_by q shares)) (tied q id)
  where
    at : (b : Bool) (hs : List Held) → unwrap_or (cond b (left_of hs) (lookup (is_at (nat_cmp q)) shares)) [] ≡ cond b hs (shared_by q shares)
    at true [] = refl
    at true (h ∷ hs) = refl
    at false hs = refl

-- ---- who stands there holds something

full : (hs : List Held) (h : Held) → hs ++ h ∷ [] ≢ []
full [] h is = absurd (cc)
full (x ∷ hs) h is = absurd (cc)

pub something_more : (shares again : Shares) (id : ℕ) (h : Held) → HoldSomething shares → again ≡ with_share shares id h → HoldSomething again
something_more shares again id h some noted q found =
    at (is_at (nat_cmp id) q) (sym (lookup_inserted id q (shared_by id shares ++ h ∷ []) shares) ∙ ap (lookup (is_at (nat_cmp q))) (sym noted) ∙ found)
  where
    at : (b : Bool) → cond b (Some (shared_by id shares ++ h ∷ [])) (lookup (is_at (nat_cmp q)) shares) ≢ Some []
    at true is = full (shared_by id shares) h (cc)
    at false is = some q is

pub something_less : (shares left : Shares) (id : ℕ) → HoldSomething shares → ((q : ℕ) → lookup (is_at (nat_cmp q)) left ≡ cond (is_at (nat_cmp id) q) None (lookup (is_at (nat_cmp q)) shares)) → HoldSomething left
something_less shares left id some out q found = at (is_at (nat_cmp id) q) (sym (out q) ∙ found)
  where
    at : (b : Bool) → cond b None (lookup (is_at (nat_cmp q)) shares) ≢ Some []
    at true is = absurd (cc)
    at false is = some q is

pub something_left : (shares left : Shares) (id : ℕ) → IsStrictlySortedBy nat_cmp (keys_of shares) → HoldSomething shares → left ≡ without_last_share shares id → HoldSomething left
something_left shares left id rise some is q found =
    at (is_at (nat_cmp id) q) (front (shared_by id shares)) (sym (lookup_left shares id q (front (shared_by id shares)) rise refl) ∙ ap (lookup (is_at (nat_cmp q))) (sym is) ∙ found)
  where
    at : (b : Bool) (hs : List Held) → cond b (left_of hs) (lookup (is_at (nat_cmp q)) shares) ≢ Some []
    at true [] is = absurd (cc)
    at true (h ∷ hs) is = absurd (cc)
    at false hs is = some q is

-- ---- marks

marked_more : (before : List Held) (ns : List Noted) (n : Noted) → AreMarked before ns → IsMarked (before ++ helds ns) n.share n.again → AreMarked before (ns ++ n ∷ [])
marked_more before [] n all one = (subst (λ (hs : List Held). IsMarked hs n.share n.again) (append-nil before) one, tt)
marked_more before (m ∷ ns) n all one = (all.0, marked_more (before ++ m.share ∷ []) ns n all.1 (subst (λ (hs : List Held). IsMarked hs n.share n.again) (sym (append_assoc before (m.share ∷ []) (helds ns))) one))

marked_front : (before : List Held) (ns : List Noted) (n : Noted) → AreMarked before (ns ++ n ∷ []) → AreMarked before ns × IsMarked (before ++ helds ns) n.share n.again
marked_front before [] n all = (tt, subst (λ (hs : List Held). IsMarked hs n.share n.again) (sym (append-nil before)) all.0)
marked_front before (m ∷ ns) n all =
    let rest = marked_front (before ++ m.share ∷ []) ns n all.1 in
    ((all.0, rest.0), subst (λ (hs : List Held). IsMarked hs n.share n.again) (append_assoc before (m.share ∷ []) (helds ns)) rest.1)

pub marked_popped : (old new : List Noted) (r : Option Noted) → old ≡ new ++ option_to_list r → AreMarked [] old → AreMarked [] new × IfSome r (λ n. IsMarked (helds new) n.share n.again)
marked_popped old new None is all = (subst (AreMarked []) (is ∙ append-nil new) all, tt)
marked_popped old new (Some n) is all = marked_front [] new n (subst (AreMarked []) is all)

pub marked_pushed : (old new : List Noted) (n : Noted) (ok : Bool) → new ≡ cond ok (old ++ n ∷ []) old → AreMarked [] old → IsMarked (helds old) n.share n.again → AreMarked [] new
marked_pushed old new n true is all one = subst (AreMarked []) (sym is) (marked_more [] old n all one)
marked_pushed old new n false is all one = subst (AreMarked []) (sym is) all

-- ---- the index

module _ (old new : Index) (shares left : Shares) (id : ℕ) (rise : IsStrictlySortedBy nat_cmp (keys_of shares)) (is : IsIndex old shares) (gone : left ≡ without_last_share shares id) where
  has_left : (s : Spot) (i : ℕ) → is_among s (shared_by i left) ≡ cond (i == id) (is_among s (front (shared_by id shares))) (is_among s (shared_by i shares))
  has_left s i = ap (λ all. is_among s (shared_by i all)) gone ∙ ap (is_among s) (shared_left shares id i rise) ∙ at (i == id)
    where
      at : (b : Bool) → is_among s (cond b (front (shared_by id shares)) (shared_by i shares)) ≡ cond b (is_among s (front (shared_by id shares))) (is_among s (shared_by i shares))
      at true = refl
      at false = refl

  -- the id held nothing
  pub index_none : shared_by id shares ≡ front (shared_by id shares) ++ [] → IsIndex old left
  index_none none s i = is s i ∙ at (i == id) refl ∙ sym (has_left s i)
    where
      same : front (shared_by id shares) ≡ shared_by id shares
      same = sym (none ∙ append-nil (front (shared_by id shares)))

      at : (b : Bool) → (i == id) ≡ b → is_among s (shared_by i shares) ≡ cond b (is_among s (front (shared_by id shares))) (is_among s (shared_by i shares))
      at true ties = ap (λ (k : ℕ). is_among s (shared_by k shares)) (eqb-true i id ties) ∙ ap (is_among s) (sym same)
      at false apart = refl

  module _ (h : Held) (again : Bool) (last : shared_by id shares ≡ front (shared_by id shares) ++ h ∷ []) (mark : IsMarked (front (shared_by id shares)) h again) where
    had : (s : Spot) → is_among s (shared_by id shares) ≡ (is_among s (front (shared_by id shares)) || is_at_spot s h)
    had s = ap (is_among s) last ∙ list_any-append (is_at_spot s) (front (shared_by id shares)) (h ∷ []) ∙ ap (λ b. is_among s (front (shared_by id shares)) || b) (or-false (is_at_spot s h))

    -- it had read the same before
    pub index_again : again ≡ true → IsIndex old left
    index_again so s i = is s i ∙ at (i == id) refl ∙ sym (has_left s i)
      where
        still : (b : Bool) → is_at_spot s h ≡ b → (is_among s (front (shared_by id shares)) || b) ≡ is_among s (front (shared_by id shares))
        still true here = ap (λ b. b || true) (mark s here ∙ so) ∙ sym (mark s here ∙ so)
        still false apart = or-false (is_among s (front (shared_by id shares)))

        at : (b : Bool) → (i == id) ≡ b → is_among s (shared_by i shares) ≡ cond b (is_among s (front (shared_by id shares))) (is_among s (shared_by i shares))
        at true ties = ap (λ (k : ℕ). is_among s (shared_by k shares)) (eqb-true i id ties) ∙ had s ∙ still (is_at_spot s h) refl
        at false apart = refl

    -- it hadn't, and doesn't stand there any more
    pub index_last : again ≡ false → IndexLess old new id (h ∷ []) → IsIndex new left
    index_last so less s i =
        less s i
        ∙ ap (λ b. not (is_among s (h ∷ []) && i == id) && b) (is s i)
        ∙ ap (λ b. not (b && i == id) && is_among s (shared_by i shares)) (or-false (is_at_spot s h))
        ∙ at (i == id) refl ∙ sym (has_left s i)
      where
        apart_of : (b : Bool) → is_at_spot s h ≡ b → (not (b && true) && (is_among s (front (shared_by id shares)) || b)) ≡ is_among s (front (shared_by id shares))
        apart_of true here = sym (mark s here ∙ so)
        apart_of false apart = or-false (is_among s (front (shared_by id shares)))

        at : (b : Bool) → (i == id) ≡ b → (not (is_at_spot s h && b) && is_among s (shared_by i shares)) ≡ cond b (is_among s (front (shared_by id shares))) (is_among s (shared_by i shares))
        at true ties =
            ap (λ (k : ℕ). not (is_at_spot s h && true) && is_among s (shared_by k shares)) (eqb-true i id ties)
            ∙ ap (λ b. not (is_at_spot s h && true) && b) (had s)
            ∙ apart_of (is_at_spot s h) refl
        at false apart = ap (λ b. not b && is_among s (shared_by i shares)) (and-false (is_at_spot s h))
