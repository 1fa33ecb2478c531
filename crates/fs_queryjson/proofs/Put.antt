-- Members that are put in one after another stand in the order of their names, and lists that aren't empty are there.
use Rattle.std.proofs.Common.{◌≡◌, Bool, List, [], ◌∷◌, Vec, Global, length, codes, refl, ap, ◌∙◌}
use Rattle.serde_json.specs.Data as json
use Rattle.serde_json.specs.View.{items_view, view}
use Rattle.serde_json.specs.declared.value.Value as written
use Rattle.serde_json.proofs.Views.{view-Array}
use Rattle.fs_value.specs.Data.{Data}
use Rattle.fs_valjson.specs.Writing.{list_json}
use Rattle.fs_queryjson.specs.Cursor.{with_values}
use Rattle.fs_queryjson.specs.Op.{join_name}
use Rattle.fs_queryjson.specs.Steps.{with_filters}
use Rattle.fs_queryjson.specs.Written.{composite_json}

-- values that are some
pub values_put : (ds : List Data) → (ds ≡ [] → ⊥) → json.put (codes "values") (list_json ds) json.no_members ≡ with_values ds
values_put [] some = absurd (some refl)
values_put (d ∷ ds) some = refl

filled_items : (all : Bool) (vs : List written.Value) → (length vs ≡ 0 → ⊥) → with_filters (json.array (items_view vs)) (json.string (join_name all)) ≡ composite_json all (items_view vs)
filled_items all [] some = absurd (some refl)
filled_items all (v ∷ vs) some = refl

-- filters that are some
pub filled : (all : Bool) (v : Vec written.Value Global) (op : json.Data) → op ≡ json.string (join_name all) → (length v.items ≡ 0 → ⊥)
    → with_filters (view (written.Array v)) op ≡ composite_json all (items_view v.items)
filled all v op is some = ap (λ d. with_filters d op) (view-Array v) ∙ ap (with_filters (json.array (items_view v.items))) is ∙ filled_items all v.items some
