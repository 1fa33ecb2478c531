use Rattle.std.proofs.Common.{◌≡◌, ◌+◌, List, [], ◌∷◌, ◌++◌, Ok, Some, drop, string_bytes, sym, ap, ◌∙◌, subst, arith, rules, append_assoc}
use Rattle.std.proofs.lemmas.List.{drop_more}
use Rattle.std.specs.List.Sorted.{IsStrictlySortedBy}
use Rattle.std.specs.Map.{keys_of}
use Rattle.std.specs.String.{string_cmp}
use Rattle.serde_json.specs.Data.{members_depth}
use Rattle.serde_json.specs.View.{view as json, items_view, members_view}
use Rattle.serde_json.proofs.Views.{Entry}
use Rattle.fs_path.specs.Place.{item_place, member_place}
use Rattle.fs_path.specs.Way.{place_of}
use Rattle.fs_value.specs.View.{view}
use Rattle.fs_json.specs.Members.{at_most_one_at, one_of_at, only_at}
use Rattle.fs_valjson.specs.Reading.{kinds, array_members, map_members, value_at, items_at, entries_at, list_at}
use Rattle.fs_valjson.specs.Steps.{the_content, the_kind}
use Rattle.fs_valjson.proofs.Chosen.{array_at-steps, map_at-steps, value_at-steps}
use Rattle.fs_json.proofs.Depths.{at_most_one_falls, one_of_falls, item_falls, entry_falls}
use Rattle.fs_json.proofs.Readings.{last_ok, of_reading}
use Rattle.fs_json.proofs.Walks.{behind}
use Rattle.fs_json.specs.Answer.{Gives}
use Rattle.fs_value.specs.Data.{Data, items_of}
use Rattle.fs_valjson.proofs.Valid.{list_names, value_names}
use Rattle.fs_valjson.specs.Writing.{HasNames, ItemsHaveNames}
use Rattle.fs_valjson.proofs.Lists.{next_item, next_entry}
use Rattle.fs_valjson.proofs.Rising.{one_more_key, rising_front}
use Rattle.fs_valjson.proofs.read.+read.Goals as goal

pub read_value-read_kind-requires : goal.read_value-read_kind-requires
read_value-read_kind-requires t c =
    let d = json c.args.v.now in
    let place = place_of c.args.way.now in
    let both : the_kind d place ≡ Ok (c.in_ok-name.name.now, json c.in_ok-name.content.now) = search rules in
    let found = last_ok (only_at kinds d place) (one_of_at kinds d place) _ both in
    (omega (arith, one_of_falls kinds d place _ found), tt)

pub read_value-returns-in_err-name-clause-gives : goal.read_value-returns-in_err-name-clause-gives
read_value-returns-in_err-name-clause-gives t c = rw (value_at-steps (json c.args.v.now) (place_of c.args.way.now)) (search rules)

pub read_value-returns-clause-gives : goal.read_value-returns-clause-gives
read_value-returns-clause-gives t c = rw (value_at-steps (json c.args.v.now) (place_of c.args.way.now)) (search rules)

pub read_value-returns-clause-valid : goal.read_value-returns-clause-valid
read_value-returns-clause-valid t c =
    let d = json c.args.v.now in
    let place = place_of c.args.way.now in
    of_reading view HasNames c.read_kind.result (value_at d place) (read_value-returns-clause-gives t c) (value_names d place)

pub read_array-read_list-requires : goal.read_array-read_list-requires
read_array-read_list-requires t c =
    let d = json c.args.v.now in
    let place = place_of c.args.way.now in
    let both : the_content array_members d place ≡ Ok (Some (c.in-Some.name.now, json c.in-Some.content.now)) = search rules in
    let found = last_ok (only_at array_members d place) (at_most_one_at array_members d place) _ both in
    (omega (arith, at_most_one_falls array_members d place _ found), tt)

pub read_list-returns-clause-valid : goal.read_list-returns-clause-valid
read_list-returns-clause-valid t c =
    let d = json c.args.v.now in
    let place = place_of c.args.way.now in
    let gives : Gives {Y = List Data} (λ vs. vs) c.read_items.result (list_at d place) = search rules in
    of_reading {Y = List Data} (λ vs. vs) (λ vs. ItemsHaveNames (items_of vs)) c.read_items.result (list_at d place) gives (list_names d place)

pub read_map-read_fields-requires : goal.read_map-read_fields-requires
read_map-read_fields-requires t c =
    let d = json c.args.v.now in
    let place = place_of c.args.way.now in
    let both : the_content map_members d place ≡ Ok (Some (c.in-Some.name.now, json c.in-Some.content.now)) = search rules in
    let found = last_ok (only_at map_members d place) (at_most_one_at map_members d place) _ both in
    (omega (arith, at_most_one_falls map_members d place _ found), tt)

pub read_array-returns-in_err-name-clause-gives : goal.read_array-returns-in_err-name-clause-gives
read_array-returns-in_err-name-clause-gives t c = rw (array_at-steps (json c.args.v.now) (place_of c.args.way.now)) (search rules)

pub read_array-returns-in-Some-clause-gives : goal.read_array-returns-in-Some-clause-gives
read_array-returns-in-Some-clause-gives t c = rw (array_at-steps (json c.args.v.now) (place_of c.args.way.now)) (search rules)

pub read_array-returns-in-None-clause-gives : goal.read_array-returns-in-None-clause-gives
read_array-returns-in-None-clause-gives t c = rw (array_at-steps (json c.args.v.now) (place_of c.args.way.now)) (search rules)

pub read_map-returns-in_err-name : goal.read_map-returns-in_err-name
read_map-returns-in_err-name t c = rw (map_at-steps (json c.args.v.now) (place_of c.args.way.now)) (search rules)

pub read_map-returns-in-Some : goal.read_map-returns-in-Some
read_map-returns-in-Some t c = rw (map_at-steps (json c.args.v.now) (place_of c.args.way.now)) (search rules)

pub read_map-returns-in-None : goal.read_map-returns-in-None
read_map-returns-in-None t c = rw (map_at-steps (json c.args.v.now) (place_of c.args.way.now)) (search rules)

pub read_items-read_value-requires : goal.read_items-read_value-requires
read_items-read_value-requires t c =
    (omega (arith, item_falls c.args.items.now c.loop-i.i c.index-items-i.result c.index-items-i.is c.loop-i-test.true), tt)

pub read_items-loop-i-preserved : goal.read_items-loop-i-preserved
read_items-loop-i-preserved t c =
    let items = c.args.items.now in
    let place = place_of c.args.way.now in
    let i = c.loop-i.i in
    let x = c.index-items-i.result in
    let here : drop i items ≡ x ∷ drop (i + 1) items = drop_more items i x (omega arith) ∙ ap (λ y. y ∷ drop (i + 1) items) (sym c.index-items-i.is) in
    let read : value_at (json x) (item_place place i) ≡ Ok (view c.in_ok-value.value) = search rules in
    let step = next_item c.loop-i.values (json x) (items_view (drop (i + 1) items)) i place (view c.in_ok-value.value) read in
    rw c.in_ok-push.ensures.ok (sym step ∙ ap (λ ys. behind c.loop-i.values (items_at (items_view ys) i place)) (sym here) ∙ c.loop-i.invariant)

-- this turn's member, and those after it
pub read_entries-read_value-requires : goal.read_entries-read_value-requires
read_entries-read_value-requires t c =
    let done = c.loop-key.invariant.done in
    let e : Entry = (c.in-Some.key.now, c.in-Some.content.now) in
    let left = c.next.new.self in
    let all : c.args.members.now.entries ≡ done ++ e ∷ left = c.loop-key.invariant.whole ∙ ap (λ es. done ++ es) c.in-Some.ensures.steps in
    (omega (arith, entry_falls done e left, ap (λ es. members_depth (members_view es)) all), tt)

pub read_entries-push_last-requires : goal.read_entries-push_last-requires
read_entries-push_last-requires t c =
    let done = c.loop-key.invariant.done in
    let e : Entry = (c.in-Some.key.now, c.in-Some.content.now) in
    let left = c.next.new.self in
    let all : c.args.members.now.entries ≡ (done ++ e ∷ []) ++ left =
    c.loop-key.invariant.whole ∙ ap (λ es. done ++ es) c.in-Some.ensures.steps ∙ sym (append_assoc done (e ∷ []) left) in
    let named : c.in_ok-key.key ≡ string_bytes e.0 = search rules in
    rising_front _ (done ++ e ∷ []) left (one_more_key c.loop-key.fields done c.in_ok-key.key (view c.in_ok-value.value) e c.loop-key.invariant.keys named)
    (subst (λ es. IsStrictlySortedBy string_cmp (keys_of es)) all c.iter-key-items.ensures.ordered)

pub read_entries-loop-key-preserved : goal.read_entries-loop-key-preserved
read_entries-loop-key-preserved t c =
    let l = c.loop-key in
    let done = l.invariant.done in
    let e : Entry = (c.in-Some.key.now, c.in-Some.content.now) in
    let left = c.next.new.self in
    let place = place_of c.args.way.now in
    let pushed = c.in_ok-push_last.ensures.ok in
    let named : c.in_ok-key.key ≡ string_bytes e.0 = search rules in
    let read : value_at (json e.1) (member_place place (string_bytes e.0)) ≡ Ok (view c.in_ok-value.value) = search rules in
    let step = next_entry l.fields (string_bytes e.0) (json e.1) (members_view left) place (view c.in_ok-value.value) read in
    record {
      done = done ++ e ∷ [];
      whole = l.invariant.whole ∙ ap (λ es. done ++ es) c.in-Some.ensures.steps ∙ sym (append_assoc done (e ∷ []) left);
      keys = rw pushed (one_more_key l.fields done c.in_ok-key.key (view c.in_ok-value.value) e l.invariant.keys named);
      reading = rw (pushed, named) (sym step ∙ ap (λ es. behind l.fields (entries_at (members_view es) place)) (sym c.in-Some.ensures.steps) ∙ l.invariant.reading);
    }
