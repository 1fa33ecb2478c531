-- A query that skips no document has the same answer over a part of the documents, if that has all that bear a name that the answer has.
use Rattle.std.proofs.Common.{◌≡◌, ℤ, true, cond, List, [], ◌∷◌, drop, map, Equal, Option, Some, None, refl, sym, ap, ◌∙◌, subst}
use Rattle.std.specs.Prelude.{◌&&◌, pos}
use Rattle.std.specs.FinMap.{entries, values}
use Rattle.std.specs.List.{Contains, filter, list_any}
use Rattle.std.specs.Ordering.{is_ge, is_gt, is_le, is_lt, ordering_then}
use Rattle.fs_path.specs.NameOrder.{both_equal, name_eq}
use Rattle.fs_path.specs.declared.name.DocName.{DocName}
use Rattle.fs_value.specs.Data.{Data}
use Rattle.fs_value.specs.declared.document.Document.{Document}
use Rattle.fs_write.specs.Batch.{Docs}
use Rattle.fs_query.specs.Answer.{count_of, cut, is_before_end, is_behind_start, is_between, limited, place_cmp}
use Rattle.fs_query.specs.AnswerTo.{answer_to, in_rise}
use Rattle.fs_query.specs.Asked.{Asked}
use Rattle.fs_query.specs.DocumentOrder.{order_cmp, orders_cmp}
use Rattle.fs_query.specs.Field.{value_at}
use Rattle.fs_query.specs.Fits.{fits}
use Rattle.fs_query.specs.Normal.{whole_order}
use Rattle.fs_query.specs.declared.cursor.Cursor.{Cursor}
use Rattle.fs_query.specs.declared.order.Order.{Order}
use Rattle.fs_query.proofs.AnswerLaws.{by_query}
use Rattle.fs_query.proofs.OrderLaws.{found_by_total, name_is_ordered, orders_total, tells_names}
use Rattle.fs_query.proofs.Rising.{from_rise, has_kept, has_taken, in_rise_rises, keeps, rise_kept}
use Rattle.fs_match.specs.Event.{is_among}
use Rattle.fs_listen.proofs.Shown.{among_has, names_in}
use Rattle.fs_local.proofs.Fronts.{same_limited}
use Rattle.fs_local.proofs.Parts.{IsPart, part_entries, stands_in}
use Rattle.fs_local.proofs.Placed.{Ties, in_whole, placed_in_part, rise_ties}

-- ---- documents that tie stand at one place

place_tied : (os : List Order) (vs : List Data) (a b : Document) → orders_cmp os a b ≡ Equal → place_cmp os vs a ≡ place_cmp os vs b
place_tied [] vs a b ties = refl
place_tied (o ∷ os) [] a b ties = refl
place_tied (o ∷ os) (v ∷ vs) a b ties =
    let both = both_equal (order_cmp o a b) (orders_cmp os a b) ties in
    let here = (found_by_total o).congr (value_at o.path a) (value_at o.path b) (Some v) both.0 in
    λ i. ordering_then (here i) (place_tied os vs a b both.1 i)

start_tied : (os : List Order) (cursor : Option Cursor) (a b : Document) → orders_cmp os a b ≡ Equal → is_behind_start os cursor a ≡ is_behind_start os cursor b
start_tied os None a b ties = refl
start_tied os (Some c) a b ties = ap (λ r. cond c.before (is_ge r) (is_gt r)) (place_tied os c.values a b ties)

end_tied : (os : List Order) (cursor : Option Cursor) (a b : Document) → orders_cmp os a b ≡ Equal → is_before_end os cursor a ≡ is_before_end os cursor b
end_tied os None a b ties = refl
end_tied os (Some c) a b ties = ap (λ r. cond c.before (is_lt r) (is_le r)) (place_tied os c.values a b ties)

between_tied : (q : Asked) (a b : Document) → by_query q a b ≡ Equal → is_between q a ≡ is_between q b
between_tied q a b ties = λ i. start_tied (whole_order q) q.start a b ties i && end_tied (whole_order q) q.end a b ties i

-- ---- a part of the documents

module _ (q : Asked) (part docs : Docs) (is : IsPart part docs) where
  abbrev of_part : List Document
  of_part = in_rise (by_query q) (filter (fits q) (values part))

  abbrev of_all : List Document
  of_all = in_rise (by_query q) (filter (fits q) (values docs))

  abbrev answer : List Document
  answer = limited q.limit (filter (is_between q) of_all)

  listed : of_part ≡ in_rise (by_query q) (filter (fits q) (map (λ (e : DocName × Document). e.1) (filter (stands_in part) (entries docs))))
  listed = ap (λ (es : List (DocName × Document)). in_rise (by_query q) (filter (fits q) (map (λ (e : DocName × Document). e.1) es))) (part_entries part docs is)

  ties_between : (d : Document) → Contains (filter (is_between q) of_part) d → Ties (by_query q) (orders_total (whole_order q)) (filter (is_between q) of_all) d
  ties_between d has =
      let total = orders_total (whole_order q) in
      let both = has_kept (is_between q) of_part d has in
      let there = from_rise (by_query q) total _ d (subst (λ ds. Contains ds d) listed both.0) in
      let t = rise_ties (by_query q) total (filter (fits q) (values docs)) d (in_whole (by_query q) total (λ (e : DocName × Document). e.1) (fits q) (stands_in part) (entries docs) d there) in
      record { other = t.other; there = keeps (is_between q) of_all t.other t.there (sym (between_tied q d t.other t.ties) ∙ both.1); ties = t.ties }

  skips_none : q.offset ≡ pos 0 → (all : List Document) → cut q all ≡ limited q.limit (filter (is_between q) all)
  skips_none none all = ap (λ n. limited q.limit (drop (count_of n) (filter (is_between q) all))) none

  abbrev HasNamed : Type 0
  HasNamed = (e : DocName × Document) → Contains (entries docs) e → is_among (names_in (answer_to q (values docs))) e.1 ≡ true → stands_in part e ≡ true

  in_part : q.offset ≡ pos 0 → HasNamed → (d : Document) → Contains answer d → Contains (filter (is_between q) of_all) d → Contains (filter (is_between q) of_part) d
  in_part none named d answered has =
      let total = orders_total (whole_order q) in
      let both = has_kept (is_between q) of_all d has in
      let placed = placed_in_part (by_query q) total (λ (e : DocName × Document). e.1) (fits q) (stands_in part) (entries docs) d
      (λ e there ties. named e there
      (ap (λ ds. is_among (names_in ds) e.1) (skips_none none of_all)
      ∙ ap (λ n. list_any (λ name. name_eq name n) (names_in answer)) (tells_names (whole_order q) e.1 d (name_is_ordered q) ties)
      ∙ among_has answer d answered.0 answered.1 answered.2))
      both.0 in
      keeps (is_between q) of_part d (subst (λ ds. Contains ds d) (sym listed) placed) both.1

  limited_has : (limit : Option ℤ) (ds : List Document) (d : Document) → Contains (limited limit ds) d → Contains ds d
  limited_has None ds d has = has
  limited_has (Some n) ds d has = has_taken (count_of n) ds d has

  pub same_answer : q.offset ≡ pos 0 → HasNamed → answer_to q (values part) ≡ answer_to q (values docs)
  same_answer none named =
      let total = orders_total (whole_order q) in
      skips_none none of_part
      ∙ same_limited (by_query q) total q.limit (filter (is_between q) of_part) (filter (is_between q) of_all)
      (rise_kept (by_query q) (is_between q) of_part (in_rise_rises (by_query q) total (filter (fits q) (values part))))
      (rise_kept (by_query q) (is_between q) of_all (in_rise_rises (by_query q) total (filter (fits q) (values docs))))
      ties_between
      (λ d answered. in_part none named d answered (limited_has q.limit (filter (is_between q) of_all) d answered))
      ∙ sym (skips_none none of_all)
