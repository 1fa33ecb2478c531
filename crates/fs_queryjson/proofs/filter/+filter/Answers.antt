use Rattle.std.proofs.Common.{◌≡◌, ◌+◌, ◌∷◌, Ok, Some, drop, sym, ap, ◌∙◌, arith, rules}
use Rattle.std.proofs.lemmas.List.{drop_more}
use Rattle.serde_json.specs.View.{view as json, items_view}
use Rattle.fs_path.specs.Place.{item_place}
use Rattle.fs_path.specs.Way.{place_of}
use Rattle.fs_json.proofs.Depths.{at_most_one_falls, one_of_falls, item_falls}
use Rattle.fs_json.proofs.Readings.{last_ok}
use Rattle.fs_json.proofs.Walks.{behind}
use Rattle.fs_json.specs.Members.{one_of_at, only_at}
use Rattle.fs_query.specs.View.{view}
use Rattle.fs_queryjson.specs.Filter.{each_filter_at, filter_at, filter_kinds, inner_members}
use Rattle.fs_queryjson.specs.Steps.{the_filter, the_inner}
use Rattle.fs_queryjson.proofs.Chosen.{filter_at-steps, inner_at-steps}
use Rattle.fs_queryjson.proofs.Lists.{next_filter}
use Rattle.fs_queryjson.proofs.filter.+filter.Goals as goal

pub read_filter-read_kind-requires : goal.read_filter-read_kind-requires
read_filter-read_kind-requires t c =
    let d = json c.args.v.now in
    let place = place_of c.args.way.now in
    let both : the_filter d place ≡ Ok (c.in_ok-name.name.now, json c.in_ok-name.content.now) = c.in_ok-name.ensures in
    let found = last_ok (only_at filter_kinds d place) (one_of_at filter_kinds d place) _ both in
    (omega (arith, one_of_falls filter_kinds d place _ found), tt)

pub read_filter-returns-in_err-name : goal.read_filter-returns-in_err-name
read_filter-returns-in_err-name t c = rw (filter_at-steps (json c.args.v.now) (place_of c.args.way.now)) (search rules)

pub read_filter-returns : goal.read_filter-returns
read_filter-returns t c = rw (filter_at-steps (json c.args.v.now) (place_of c.args.way.now)) (search rules)

pub read_inner-read_filters-requires : goal.read_inner-read_filters-requires
read_inner-read_filters-requires t c =
    let d = json c.args.v.now in
    let place = place_of c.args.way.now in
    let found : the_inner d place ≡ Ok (Some (c.in-Some.name.now, json c.in-Some.content.now)) = search rules in
    (omega (arith, at_most_one_falls inner_members d place _ found), tt)

pub read_inner-returns-in_err-name : goal.read_inner-returns-in_err-name
read_inner-returns-in_err-name t c = rw (inner_at-steps (json c.args.v.now) (place_of c.args.way.now)) (search rules)

pub read_inner-returns-in-Some : goal.read_inner-returns-in-Some
read_inner-returns-in-Some t c = rw (inner_at-steps (json c.args.v.now) (place_of c.args.way.now)) (search rules)

pub read_inner-returns-in-None : goal.read_inner-returns-in-None
read_inner-returns-in-None t c = rw (inner_at-steps (json c.args.v.now) (place_of c.args.way.now)) (search rules)

pub read_items-read_filter-requires : goal.read_items-read_filter-requires
read_items-read_filter-requires t c =
    (omega (arith, item_falls c.args.items.now c.loop-i.i c.index-items-i.result c.index-items-i.is c.loop-i-test.true), tt)

pub read_items-loop-i-preserved : goal.read_items-loop-i-preserved
read_items-loop-i-preserved t c =
    let items = c.args.items.now in
    let place = place_of c.args.way.now in
    let i = c.loop-i.i in
    let x = c.index-items-i.result in
    let here : drop i items ≡ x ∷ drop (i + 1) items = drop_more items i x (omega arith) ∙ ap (λ y. y ∷ drop (i + 1) items) (sym c.index-items-i.is) in
    let read : filter_at (json x) (item_place place i) ≡ Ok (view c.in_ok-filter.filter) = ap (filter_at (json x)) (sym c.item.ensures) ∙ c.in_ok-filter.ensures in
    let step = next_filter c.loop-i.filters (json x) (items_view (drop (i + 1) items)) i place (view c.in_ok-filter.filter) read in
    rw c.in_ok-push.ensures.ok (sym step ∙ ap (λ ys. behind c.loop-i.filters (each_filter_at (items_view ys) i place)) (sym here) ∙ c.loop-i.invariant)
