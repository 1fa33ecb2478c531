-- What is held is looked up where the names that touch it look.
use Rattle.std.proofs.Common.{◌≡◌, ℕ, ◌<◌, Bool, true, false, List, [], ◌∷◌, ◌++◌, length, Option, refl, sym, ap, ◌∙◌, arith}
use Rattle.std.specs.Prelude.{◌&&◌, ◌||◌, IsTrue, codes, if◌then◌else◌}
use Rattle.std.specs.Cmp.{first_so, second_so}
use Rattle.std.specs.List.{list_any}
use Rattle.std.proofs.lemmas.Bool.{or_left, or_right}
use Rattle.std.proofs.lemmas.List.{append_assoc, length-append}
use Rattle.std.proofs.Math.Bool.{or-false}
use Rattle.fs_path.proofs.Scopes.{covers_law}
use Rattle.fs_path.specs.Cursor.{rest_segments}
use Rattle.fs_path.specs.NameOrder.{name_eq}
use Rattle.fs_path.specs.Scope.{covers, scope_id, scope_parent}
use Rattle.fs_path.specs.Segment.{has_slash}
use Rattle.fs_path.specs.TextOrder.{text_eq, text_eq_equiv, text_is}
use Rattle.fs_path.specs.declared.name.DocName.{DocName}
use Rattle.fs_path.specs.declared.scope.Scope.{Scope}
use Rattle.fs_path.specs.declared.scope.Scope.TheVariants.{Collection, Group}
use Rattle.fs_locks.specs.Paths.{IsCollectionOf, is_plain, path_eq, path_text, stand_id}
use Rattle.fs_locks.specs.Shares.{is_touched}
use Rattle.fs_locks.specs.Spots.{named, collection, group, is_at_spot}
use Rattle.fs_locks.specs.declared.held.Held.{Held}
use Rattle.fs_locks.specs.declared.held.Held.TheVariants.{Name, Scope as Over}
use Rattle.fs_locks.proofs.Cuts.{ids_again, path_is, path_itself, plain_front, plain_path, same_ends, text_again}
use Rattle.fs_locks.proofs.Ids.{either}

-- a name touches a collection that is held
abbrev pub in_collection : DocName → Held → Bool
in_collection n (Over (Collection parent id)) = covers (Collection parent id) n
in_collection n _ = false

-- or a group
abbrev pub in_group : DocName → Held → Bool
in_group n (Over (Group parent id)) = covers (Group parent id) n
in_group n _ = false

pub touched_parts : (h : Held) (n : DocName) → is_touched h n ≡ (is_at_spot (named n) h || (in_collection n h || in_group n h))
touched_parts (Name m) n = sym (or-false (name_eq n m))
touched_parts (Over (Collection parent id)) n = sym (or-false (covers (Collection parent id) n))
touched_parts (Over (Group parent id)) n = refl

-- tests that pass alike are one
pub pass_alike : (a b : Bool) → (IsTrue a → IsTrue b) → (IsTrue b → IsTrue a) → a ≡ b
pass_alike true true f g = refl
pass_alike true false f g = sym (f refl)
pass_alike false true f g = g refl
pass_alike false false f g = refl

-- ---- a scope that stands under a name's collection

record Stands (scope : Scope) (id : List ℕ) : Type 0 where
  own : scope_id scope ≡ id
  plain : is_plain (scope_parent scope) ≡ true

stands_plain : (scope : Scope) (id : List ℕ) → has_slash id ≡ false → stand_id scope ≡ id → Stands scope id
stands_plain scope id whole same = at (is_plain (scope_parent scope)) refl same
  where
    at : (b : Bool) → is_plain (scope_parent scope) ≡ b → (if b then scope_id scope else codes "/") ≡ id → Stands scope id
    at true plain same = record { own = same; plain = plain }
    at false plain same = let slash : has_slash (codes "/") ≡ true = refl in let moved = ap has_slash same in absurd (cc)

stand_same : (scope : Scope) (id : List ℕ) → scope_id scope ≡ id → is_plain (scope_parent scope) ≡ true → text_eq (stand_id scope) id ≡ true
stand_same scope id own plain =
    ap (λ b. text_eq (if b then scope_id scope else codes "/") id) plain ∙ ap (λ x. text_eq x id) own ∙ text_eq_equiv.refl id

module _ (n : DocName) (path : Option (List ℕ)) (id : List ℕ) (is : IsCollectionOf n.ids path id) where
  -- a collection is held where the document's collection is looked up, just where it is that collection
  pub at_collection : (h : Held) → is_at_spot (collection id path) h ≡ in_collection n h
  at_collection (Name m) = refl
  at_collection (Over (Group parent own)) = refl
  at_collection (Over (Collection parent own)) =
      pass_alike (text_eq (stand_id (Collection parent own)) id && path_eq (path_text parent) path) (covers (Collection parent own) n) forth back
    where
      forth : IsTrue (text_eq (stand_id (Collection parent own)) id && path_eq (path_text parent) path) → IsTrue (covers (Collection parent own) n)
      forth h =
          let s = stands_plain (Collection parent own) id is.plain (text_is (stand_id (Collection parent own)) id (first_so (text_eq (stand_id (Collection parent own)) id) (path_eq (path_text parent) path) h)) in
          let same = path_is (path_text parent) path (second_so (text_eq (stand_id (Collection parent own)) id) (path_eq (path_text parent) path) h) in
          let ids : rest_segments path ≡ parent = sym (ap rest_segments same) ∙ ids_again parent s.plain in
          (covers_law (Collection parent own) n).1 (is.last, is.whole ∙ ap (λ p. p ++ id ∷ is.last ∷ []) ids ∙ ap (λ x. parent ++ x ∷ is.last ∷ []) (sym s.own))

      back : IsTrue (covers (Collection parent own) n) → IsTrue (text_eq (stand_id (Collection parent own)) id && path_eq (path_text parent) path)
      back h =
          let c = (covers_law (Collection parent own) n).0 h in
          let ends = same_ends parent (rest_segments path) own id c.0 is.last (sym c.1 ∙ is.whole) in
          let plain : is_plain parent ≡ true = ap is_plain ends.0 ∙ plain_path path in
          let same : path_text parent ≡ path = ap path_text ends.0 ∙ text_again path in
          ap (λ b. b && path_eq (path_text parent) path) (stand_same (Collection parent own) id ends.1 plain) ∙ ap (λ t. path_eq t path) same ∙ path_itself path

  -- a group that is held above the document's collection has the document
  pub group_has : (front rest : List (List ℕ)) (h : Held) → front ++ rest ≡ rest_segments path → IsTrue (is_at_spot (group id (path_text front)) h) → IsTrue (in_group n h)
  group_has front rest (Name m) parts h = absurd (cc)
  group_has front rest (Over (Collection parent own)) parts h = absurd (cc)
  group_has front rest (Over (Group parent own)) parts h =
      let scope : Scope = Group parent own in
      let s = stands_plain scope id is.plain (text_is (stand_id scope) id (first_so (text_eq (stand_id scope) id) (path_eq (path_text parent) (path_text front)) h)) in
      let same = path_is (path_text parent) (path_text front) (second_so (text_eq (stand_id scope) id) (path_eq (path_text parent) (path_text front)) h) in
      let plain = plain_front front rest (ap is_plain parts ∙ plain_path path) in
      let ids : front ≡ parent = sym (ids_again front plain) ∙ sym (ap rest_segments same) ∙ ids_again parent s.plain in
      let whole : n.ids ≡ parent ++ (rest ++ own ∷ is.last ∷ []) =
      is.whole ∙ ap (λ p. p ++ id ∷ is.last ∷ []) (sym parts) ∙ append_assoc front rest (id ∷ is.last ∷ [])
      ∙ ap (λ p. p ++ (rest ++ id ∷ is.last ∷ [])) ids ∙ ap (λ x. parent ++ (rest ++ x ∷ is.last ∷ [])) (sym s.own) in
      (covers_law scope n).1 (rest, is.last, whole)

  -- where a group stands that has the document
  pub record Above (h : Held) : Type 0 where
    pub front : List (List ℕ)
    pub rest : List (List ℕ)
    pub parts : front ++ rest ≡ rest_segments path
    pub there : IsTrue (is_at_spot (group id (path_text front)) h)

  pub group_above : (h : Held) → IsTrue (in_group n h) → Above h
  group_above (Name m) h = absurd (cc)
  group_above (Over (Collection parent own)) h = absurd (cc)
  group_above (Over (Group parent own)) h =
      let scope : Scope = Group parent own in
      let c = (covers_law scope n).0 h in
      let ends = same_ends (parent ++ c.0) (rest_segments path) own id c.1 is.last (append_assoc parent c.0 (own ∷ c.1 ∷ []) ∙ sym c.2 ∙ is.whole) in
      let plain = plain_front parent c.0 (ap is_plain ends.0 ∙ plain_path path) in
      record {
        front = parent;
        rest = c.0;
        parts = ends.0;
        there = ap (λ b. b && path_eq (path_text parent) (path_text parent)) (stand_same scope id ends.1 plain) ∙ path_itself (path_text parent);
      }

  -- ---- among what an id holds

  pub any_collection : (hs : List Held) → list_any (is_at_spot (collection id path)) hs ≡ list_any (in_collection n) hs
  any_collection hs = ap (λ p. list_any p hs) (λ k h. at_collection h k)

  pub any_group_has : (front rest : List (List ℕ)) (hs : List Held) → front ++ rest ≡ rest_segments path → IsTrue (list_any (is_at_spot (group id (path_text front))) hs) → IsTrue (list_any (in_group n) hs)
  any_group_has front rest [] parts h = h
  any_group_has front rest (x ∷ hs) parts h =
      either (is_at_spot (group id (path_text front)) x) (list_any (is_at_spot (group id (path_text front))) hs) (IsTrue (list_any (in_group n) (x ∷ hs))) h
      (λ here. or_left (in_group n x) (list_any (in_group n) hs) (group_has front rest x parts here))
      (λ more. or_right (in_group n x) (list_any (in_group n) hs) (any_group_has front rest hs parts more))

  pub record AnyAbove (hs : List Held) : Type 0 where
    pub front : List (List ℕ)
    pub rest : List (List ℕ)
    pub parts : front ++ rest ≡ rest_segments path
    pub there : IsTrue (list_any (is_at_spot (group id (path_text front))) hs)

  pub any_group_above : (hs : List Held) → IsTrue (list_any (in_group n) hs) → AnyAbove hs
  any_group_above [] h = absurd (cc)
  any_group_above (x ∷ hs) h =
      either (in_group n x) (list_any (in_group n) hs) (AnyAbove (x ∷ hs)) h
      (λ here. let a = group_above x here in record {
        front = a.front;
        rest = a.rest;
        parts = a.parts;
        there = or_left (is_at_spot (group id (path_text a.front)) x) (list_any (is_at_spot (group id (path_text a.front))) hs) a.there;
      })
      (λ more. let a = any_group_above hs more in record {
        front = a.front;
        rest = a.rest;
        parts = a.parts;
        there = or_right (is_at_spot (group id (path_text a.front)) x) (list_any (is_at_spot (group id (path_text a.front))) hs) a.there;
      })

-- ---- a name that is in no collection

module _ (n : DocName) (short : length n.ids < 2) where
  uncovered : (scope : Scope) → covers scope n ≡ false
  uncovered scope = pass_alike (covers scope n) false (at scope) (λ h. absurd (cc))
    where
      at : (s : Scope) → IsTrue (covers s n) → IsTrue false
      at (Collection parent id) h =
          let c = (covers_law (Collection parent id) n).0 h in
          let long = length-append parent (id ∷ c.0 ∷ []) in
          let count = ap length c.1 in
          absurd (omega arith)
      at (Group parent id) h =
          let c = (covers_law (Group parent id) n).0 h in
          let inner = length-append c.0 (id ∷ c.1 ∷ []) in
          let long = length-append parent (c.0 ++ id ∷ c.1 ∷ []) in
          let count = ap length c.2 in
          absurd (omega arith)

  pub touched_named : (h : Held) → is_touched h n ≡ is_at_spot (named n) h
  touched_named (Name m) = refl
  touched_named (Over (Collection parent id)) = uncovered (Collection parent id)
  touched_named (Over (Group parent id)) = uncovered (Group parent id)
