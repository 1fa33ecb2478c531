-- Which filter a JSON value is, and where it is none: the first place in the walk. (v1 reference, "StructuredQuery.Filter".)
use Rattle.std.specs.Prelude.{ℕ, ◌+◌, Bool, List, [], ◌∷◌, ◌++◌, Result, Ok, Err, codes, if◌then◌else◌}
use Rattle.std.specs.Str.{bytes_eq}
use Rattle.fs_path.specs.Place.{member_place, item_place}
use Rattle.fs_path.specs.declared.field.FieldPath.{FieldPath}
use Rattle.fs_path.specs.declared.place.Rule.TheVariants.{G}
use Rattle.serde_json.specs.Data as json
use Rattle.fs_json.specs.Answer.{◌>>=◌, made}
use Rattle.fs_json.specs.Members.{if_chosen, only_at, the_one, member_or, required_as}
use Rattle.fs_json.specs.declared.bad.Bad.{Bad}
use Rattle.fs_json.specs.declared.bad.Bad.TheVariants.{At}
use Rattle.fs_query.specs.Condition.{Condition, anything, compared, is_null, is_not_null, all_of, any_of, conditions_of}
use Rattle.fs_valjson.specs.Reading.{value_at}
use Rattle.fs_queryjson.specs.Field.{field_in}
use Rattle.fs_queryjson.specs.Op.{is_and_at, is_null_at, op_at}

-- the members of which a filter has just one, and those of each
abbrev pub filter_kinds : List (List ℕ)
filter_kinds = codes "compositeFilter" ∷ codes "fieldFilter" ∷ codes "unaryFilter" ∷ []

abbrev pub composite_members : List (List ℕ)
composite_members = codes "op" ∷ codes "filters" ∷ []

abbrev pub inner_members : List (List ℕ)
inner_members = codes "filters" ∷ []

abbrev pub compare_members : List (List ℕ)
compare_members = codes "field" ∷ codes "op" ∷ codes "value" ∷ []

abbrev pub unary_members : List (List ℕ)
unary_members = codes "op" ∷ codes "field" ∷ []

-- ---- filters on one field

-- a field that is compared with a value. EQUAL and NOT_EQUAL with null stay what they are.
unfoldable pub compare_at : json.Data → List ℕ → Result Condition Bad
compare_at d place = do
  _ ← only_at compare_members d place
  path ← field_in d place
  op ← required_as op_at (codes "op") d place
  value ← required_as value_at (codes "value") d place
  Ok (compared path op value)

abbrev pub nullness : Bool → FieldPath → Condition
nullness null path = if null then is_null path else is_not_null path

-- a field that is asked for null, or for any other value
unfoldable pub unary_at : json.Data → List ℕ → Result Condition Bad
unary_at d place = do
  _ ← only_at unary_members d place
  null ← required_as is_null_at (codes "op") d place
  path ← field_in d place
  Ok (nullness null path)

abbrev pub simple_at : List ℕ → json.Data → List ℕ → Result Condition Bad
simple_at name d place =
    if bytes_eq name (codes "fieldFilter") then compare_at d place
    else if bytes_eq name (codes "unaryFilter") then unary_at d place
    else Err (At G place)

-- ---- filters that join filters

-- whether all of its filters have to hold, once no other member is there
abbrev pub join_at : json.Data → List ℕ → Result Bool Bad
join_at d place = only_at composite_members d place >>= λ _. required_as is_and_at (codes "op") d place

abbrev pub joined : Bool → List Condition → Condition
joined all cs = if all then all_of (conditions_of cs) else any_of (conditions_of cs)

abbrev pub composite_of : json.Data → List ℕ → Result (List Condition) Bad → Result Condition Bad
composite_of d place filters = join_at d place >>= λ all. made (joined all) filters

abbrev mutual
  -- a filter: an object of just one of the kinds
  pub filter_at : json.Data → List ℕ → Result Condition Bad
  filter_at (json.object ms) place = only_at filter_kinds (json.object ms) place >>= λ _. the_one place (Err (At G place)) (kinds_in ms place)
  filter_at _ place = Err (At G place)

  -- the contents of the kinds that are there
  pub kinds_in : json.Members → List ℕ → List (Result Condition Bad)
  kinds_in json.no_members place = []
  kinds_in (json.member k d ms) place = if_chosen filter_kinds (λ name. kind_at d name (member_place place name)) k d ++ kinds_in ms place

  -- the content of a member of this name
  pub kind_at : json.Data → List ℕ → List ℕ → Result Condition Bad
  kind_at (json.object ms) name place =
      if bytes_eq name (codes "compositeFilter") then composite_of (json.object ms) place (the_one place (Ok []) (inner_in ms place))
      else simple_at name (json.object ms) place
  kind_at d name place = simple_at name d place

  -- the filters that are joined, if they are there
  pub inner_in : json.Members → List ℕ → List (Result (List Condition) Bad)
  inner_in json.no_members place = []
  inner_in (json.member k d ms) place = if_chosen inner_members (λ name. filters_at d (member_place place name)) k d ++ inner_in ms place

  pub filters_at : json.Data → List ℕ → Result (List Condition) Bad
  filters_at (json.array ds) place = each_filter_at ds 0 place
  filters_at _ place = Err (At G place)

  -- the filters from this number on
  pub each_filter_at : json.Items → ℕ → List ℕ → Result (List Condition) Bad
  each_filter_at json.no_items i place = Ok []
  each_filter_at (json.item d ds) i place = filter_at d (item_place place i) >>= λ c. each_filter_at ds (i + 1) place >>= λ cs. Ok (c ∷ cs)

-- the filter of a query, which fits every document where it is absent
abbrev pub where_in : json.Data → List ℕ → Result Condition Bad
where_in d place = member_or anything filter_at (codes "where") d place
