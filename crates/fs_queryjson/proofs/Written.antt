-- What is written so far, with one more filter.
use Rattle.std.proofs.Common.{◌≡◌, ℕ, ◌+◌, ◌<◌, List, [], ◌∷◌, ◌++◌, map, take, length, get_or, refl, sym, ap, ◌∙◌}
use Rattle.std.proofs.lemmas.List.{map_more}
use Rattle.serde_json.specs.Data as json
use Rattle.serde_json.specs.View.{view as json_view, items_view}
use Rattle.serde_json.specs.declared.value.Value as written
use Rattle.fs_query.specs.Condition.{Condition, conditions_of}
use Rattle.fs_query.specs.View.{view}
use Rattle.fs_query.specs.declared.filter.Filter.{Filter}
use Rattle.fs_queryjson.specs.Held.{AreHeld, IsHeld}
use Rattle.fs_queryjson.specs.Written.{filter_json, filters_json}

pub one_filter : (fs : List Filter) (i : ℕ) (f : Filter) → i < length fs → f ≡ get_or fs i f → map view (take (i + 1) fs) ≡ map view (take i fs) ++ view f ∷ []
one_filter fs i f within is = map_more view fs i f within ∙ ap (λ g. map view (take i fs) ++ view g ∷ []) (sym is)

pub items_push : (js : List written.Value) (j : written.Value) (cs : List Condition) (c : Condition) → items_view js ≡ filters_json (conditions_of cs) → json_view j ≡ filter_json c
    → items_view (js ++ j ∷ []) ≡ filters_json (conditions_of (cs ++ c ∷ []))
items_push [] j [] c written one = ap (λ x. json.item x json.no_items) one
items_push [] j (e ∷ cs) c written one = cc
items_push (x ∷ js) j [] c written one = cc
items_push (x ∷ js) j (e ∷ cs) c written one =
    let head : json_view x ≡ filter_json e = cc in
    let rest : items_view js ≡ filters_json (conditions_of cs) = cc in
    rw (head, items_push js j cs c rest one) refl

pub held_push : (cs : List Condition) (c : Condition) → AreHeld (conditions_of cs) → IsHeld c → AreHeld (conditions_of (cs ++ c ∷ []))
held_push [] c h one = (one, tt)
held_push (e ∷ cs) c h one = (h.0, held_push cs c h.1 one)
