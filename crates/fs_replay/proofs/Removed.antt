-- A member that is taken out of an object.
use Rattle.std.proofs.Common.{◌≡◌, ℕ, List, [], ◌∷◌, Ordering, Less, Equal, Greater, cond, is_eq, nat_cmp, string_bytes, refl, ap}
use Rattle.std.specs.BTreeMap.{is_at}
use Rattle.std.specs.Cmp.Lexicographic.{slice_cmp}
use Rattle.std.specs.Map.{remove_entry}
use Rattle.std.specs.Ordering.{match_ordering}
use Rattle.serde_json.proofs.Views.{Entry}
use Rattle.serde_json.specs.Data.{Members, member}
use Rattle.serde_json.specs.View.{members_view, view as json}
use Rattle.fs_replay.specs.Line.{without_member}

removed_or : (o : Ordering) (e : Entry) (es rest : List Entry) (ms : Members) → members_view rest ≡ ms
    → members_view (cond (is_eq o) es (e ∷ rest)) ≡ match_ordering o (member (string_bytes e.0) (json e.1) ms) (members_view es) (member (string_bytes e.0) (json e.1) ms)
removed_or Less e es rest ms same = ap (member (string_bytes e.0) (json e.1)) same
removed_or Equal e es rest ms same = refl
removed_or Greater e es rest ms same = ap (member (string_bytes e.0) (json e.1)) same

pub removed : (name : List ℕ) (es : List Entry) → members_view (remove_entry (is_at (λ k. slice_cmp nat_cmp name (string_bytes k))) es) ≡ without_member name (members_view es)
removed name [] = refl
removed name (e ∷ es) = removed_or (slice_cmp nat_cmp name (string_bytes e.0)) e es _ (without_member name (members_view es)) (removed name es)
