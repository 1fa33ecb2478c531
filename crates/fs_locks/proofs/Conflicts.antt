-- Who is found to hold what a name touches.
use Rattle.std.proofs.Common.{◌≡◌, ℕ, ◌<◌, Bool, true, false, List, length, Option, inl, inr, refl, sym, ap, ◌∙◌}
use Rattle.std.specs.Prelude.{◌↔◌, ◌||◌, IsTrue}
use Rattle.std.specs.List.{list_any}
use Rattle.std.proofs.lemmas.Bool.{or_left, or_right}
use Rattle.fs_path.specs.declared.name.DocName.{DocName}
use Rattle.fs_locks.specs.Holds.{IsLeastOther, lesser_of}
use Rattle.fs_locks.specs.Paths.{IsCollectionOf, path_text}
use Rattle.fs_locks.specs.Shares.{Shares, is_shared, shared_by}
use Rattle.fs_locks.specs.Spots.{IsIndex, StandsOver, named, collection, group, is_at_spot}
use Rattle.fs_locks.specs.Tree.{held}
use Rattle.fs_locks.specs.declared.index.Index.{Index}
use Rattle.fs_locks.proofs.Anys.{any_or}
use Rattle.fs_locks.proofs.Ids.{either, least_both}
use Rattle.fs_locks.proofs.Searching.{same_property}
use Rattle.fs_locks.proofs.Touches.{any_collection, any_group_above, any_group_has, in_collection, in_group, touched_named, touched_parts}

module _ (index : Index) (shares : Shares) (n : DocName) (is : IsIndex index shares) where
  -- an id holds the name, or a collection, or a group
  parts_of : (i : ℕ) → is_shared shares i n ≡ (list_any (is_at_spot (named n)) (shared_by i shares) || (list_any (in_collection n) (shared_by i shares) || list_any (in_group n) (shared_by i shares)))
  parts_of i =
      let hs = shared_by i shares in
      ap (λ p. list_any p hs) (λ k h. touched_parts h n k)
      ∙ any_or (is_at_spot (named n)) (λ h. in_collection n h || in_group n h) hs
      ∙ ap (λ b. list_any (is_at_spot (named n)) hs || b) (any_or (in_collection n) (in_group n) hs)

  pub from_name : (i : ℕ) → IsTrue (held index.names.entries i n) → IsTrue (is_shared shares i n)
  from_name i h =
      parts_of i ∙ or_left (list_any (is_at_spot (named n)) (shared_by i shares)) (list_any (in_collection n) (shared_by i shares) || list_any (in_group n) (shared_by i shares)) (sym (is (named n) i) ∙ h)

  -- a document that is in no collection
  pub alone : length n.ids < 2 → (i : ℕ) → held index.names.entries i n ≡ is_shared shares i n
  alone short i = is (named n) i ∙ ap (λ p. list_any p (shared_by i shares)) (λ k h. sym (touched_named n short h) k)

  -- a document in a collection
  module _ (path : Option (List ℕ)) (id : List ℕ) (of_collection : IsCollectionOf n.ids path id) where
    from_scope : (i : ℕ) → StandsOver index path id i → IsTrue (is_shared shares i n)
    from_scope i h =
        let hs = shared_by i shares in
        parts_of i
        ∙ or_right (list_any (is_at_spot (named n)) hs) (list_any (in_collection n) hs || list_any (in_group n) hs)
        (elim h [
          | inl c ↦ or_left (list_any (in_collection n) hs) (list_any (in_group n) hs) (sym (any_collection n path id of_collection hs) ∙ sym (is (collection id path) i) ∙ c)
          | inr g ↦ or_right (list_any (in_collection n) hs) (list_any (in_group n) hs) (any_group_has n path id of_collection g.0 g.1 hs g.2 (sym (is (group id (path_text g.0)) i) ∙ g.3))
        ])

    apart : (i : ℕ) (Z : Type 0) → IsTrue (is_shared shares i n) → (IsTrue (held index.names.entries i n) → Z) → (StandsOver index path id i → Z) → Z
    apart i Z h f g =
        let hs = shared_by i shares in
        either (list_any (is_at_spot (named n)) hs) (list_any (in_collection n) hs || list_any (in_group n) hs) Z (sym (parts_of i) ∙ h)
        (λ here. f (is (named n) i ∙ here))
        (λ over.
        either (list_any (in_collection n) hs) (list_any (in_group n) hs) Z over
        (λ c. g (inl (is (collection id path) i ∙ any_collection n path id of_collection hs ∙ c)))
        (λ q. let a = any_group_above n path id of_collection hs q in g (inr (a.front, a.rest, a.parts, is (group id (path_text a.front)) i ∙ a.there))))

    -- who doesn't hold the name
    pub by_scope : (i : ℕ) (r : Bool) → held index.names.entries i n ≡ false → (IsTrue r ↔ StandsOver index path id i) → r ≡ is_shared shares i n
    by_scope i r none says = at r (is_shared shares i n) refl says
      where
        at : (r b : Bool) → is_shared shares i n ≡ b → (IsTrue r ↔ StandsOver index path id i) → r ≡ is_shared shares i n
        at true b it says = sym (from_scope i (says.0 refl))
        at false true it says = apart i (false ≡ is_shared shares i n) it (λ h. absurd (cc)) (λ over. let no = says.1 over in absurd (cc))
        at false false it says = sym it

    pub touched_over : (by : ℕ) (a b : Option ℕ) → IsLeastOther (λ i. IsTrue (held index.names.entries i n)) by a → IsLeastOther (StandsOver index path id) by b
        → IsLeastOther (λ i. IsTrue (is_shared shares i n)) by (lesser_of a b)
    touched_over by a b first second =
        least_both (λ i. IsTrue (held index.names.entries i n)) (StandsOver index path id) (λ i. IsTrue (is_shared shares i n)) from_name from_scope apart by a b first second

  pub touched_alone : (by : ℕ) (a : Option ℕ) → length n.ids < 2 → IsLeastOther (λ i. IsTrue (held index.names.entries i n)) by a → IsLeastOther (λ i. IsTrue (is_shared shares i n)) by a
  touched_alone by a short =
      same_property (λ i. IsTrue (held index.names.entries i n)) (λ i. IsTrue (is_shared shares i n)) by a (λ i h. sym (alone short i) ∙ h) (λ i h. alone short i ∙ h)
