-- The JSON of the orders of a query. (v1 reference, "StructuredQuery.Order".)
--
--     by age, the oldest first     [{"direction":"DESCENDING","field":{"fieldPath":"age"}}]
use Rattle.std.specs.Prelude.{ℕ, Bool, true, false, List, [], ◌∷◌, map, Option, Some, None, Result, Ok, codes, if◌then◌else◌}
use Rattle.std.specs.Str.{bytes_eq}
use Rattle.serde_json.specs.Data as json
use Rattle.serde_json.specs.View.{items_of}
use Rattle.fs_json.specs.Answer.{◌>>=◌}
use Rattle.fs_json.specs.Members.{only_at, member_or}
use Rattle.fs_json.specs.Walk.{all_at}
use Rattle.fs_json.specs.declared.bad.Bad.{Bad}
use Rattle.fs_query.specs.declared.order.Order.{Order}
use Rattle.fs_queryjson.specs.Field.{field_in, field_json}
use Rattle.fs_queryjson.specs.Op.{named_at}

abbrev pub order_members : List (List ℕ)
order_members = codes "field" ∷ codes "direction" ∷ []

-- whether it descends
abbrev pub descends_of : List ℕ → Option Bool
descends_of name = if bytes_eq name (codes "ASCENDING") then Some false else if bytes_eq name (codes "DESCENDING") then Some true else None

abbrev pub direction_name : Bool → List ℕ
direction_name descending = if descending then codes "DESCENDING" else codes "ASCENDING"

abbrev pub direction_at : json.Data → List ℕ → Result Bool Bad
direction_at d place = named_at descends_of d place

-- an order without a direction ascends
abbrev pub order_at : json.Data → List ℕ → Result Order Bad
order_at d place =
    only_at order_members d place >>= λ _. field_in d place >>= λ path. member_or false direction_at (codes "direction") d place >>= λ descending. Ok (record { path = path; descending = descending })

abbrev pub orders_at : json.Data → List ℕ → Result (List Order) Bad
orders_at d place = all_at order_at d place

abbrev pub orders_in : json.Data → List ℕ → Result (List Order) Bad
orders_in d place = member_or [] orders_at (codes "orderBy") d place

-- ---- writing

-- the direction is always there
abbrev pub order_json : Order → json.Data
order_json o =
    json.object (json.member (codes "direction") (json.string (direction_name o.descending)) (json.member (codes "field") (field_json o.path) json.no_members))

abbrev pub orders_json : List Order → json.Data
orders_json os = json.array (items_of (map order_json os))
