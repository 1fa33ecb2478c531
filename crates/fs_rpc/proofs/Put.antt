-- Members that are put in one after another stand in the order of their names.
use Rattle.std.proofs.Common.{◌≡◌, ◌==◌, ℕ, false, List, [], ◌∷◌, Vec, Global, length, refl, ap, ◌∙◌}
use Rattle.serde_json.proofs.Views.{view-Array}
use Rattle.serde_json.specs.Data.{Members, array, put}
use Rattle.serde_json.specs.View.{items_view, view as json}
use Rattle.serde_json.specs.declared.value.Value.{Value, Array}
use Rattle.fs_rpc.specs.Steps.{with_list_put}

filled_at : (name : List ℕ) (vs : List Value) (others : Members) → (length vs == 0) ≡ false → put name (array (items_view vs)) others ≡ with_list_put name (items_view vs) others
filled_at name [] others some = absurd (cc)
filled_at name (v ∷ vs) others some = refl

-- a list that has items
pub filled_put : (name : List ℕ) (values : Vec Value Global) (others : Members) → (length values.items == 0) ≡ false
    → put name (json (Array values)) others ≡ with_list_put name (items_view values.items) others
filled_put name values others some = ap (λ d. put name d others) (view-Array values) ∙ filled_at name values.items others some
