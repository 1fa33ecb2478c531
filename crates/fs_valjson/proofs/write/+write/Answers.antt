use Rattle.std.proofs.Common.{◌≡◌, ◌+◌, [], ◌∷◌, ◌++◌, IsTrue, map, take, refl, ◌∙◌}
use Rattle.std.specs.FinMap.{is_sorted}
use Rattle.serde_json.specs.Data.{put}
use Rattle.serde_json.specs.View.{members_view}
use Rattle.fs_path.specs.TextOrder.{text_cmp}
use Rattle.fs_value.specs.Data.{timestamp, members_of}
use Rattle.fs_value.specs.View.{view, field_view}
use Rattle.fs_valjson.specs.Held.{IsHeld}
use Rattle.fs_valjson.specs.Writing.{value_json, members_json}
use Rattle.fs_json.proofs.Writings.{on_ok_always}
use Rattle.fs_value.proofs.Folds.{one_field, one_value}
use Rattle.fs_valjson.proofs.Written.{items_push, held_push, put_last, members_held_push, rising_taken}
use Rattle.fs_valjson.proofs.write.+write.Goals as goal

pub write-returns-in_ok-write_time-in-Timestamp-clause-held : goal.write-returns-in_ok-write_time-in-Timestamp-clause-held
write-returns-in_ok-write_time-in-Timestamp-clause-held t c =
    let held : IsHeld (timestamp c.in-Timestamp.t) = c.in_ok-write_time-in-Timestamp.ensures.held in
    rw c.in-Timestamp.is (on_ok_always c.with_one-in-Timestamp.result held)

pub write_items-loop-value-preserved : goal.write_items-loop-value-preserved
write_items-loop-value-preserved t c =
    let l = c.loop-value in
    let one = one_value c.as_slice-value-items.result.now l.value-index c.value-item.result c.loop-value-test.true c.value-item.is in
    rw (c.in_ok-push.ensures.items, one) (record {
      written = items_push l.items.items c.in_ok-write.field-0 _ _ l.invariant.written c.in_ok-write.ensures.value;
      held = held_push _ _ l.invariant.held c.in_ok-write.ensures.held;
    })

pub write_members-loop-field-preserved : goal.write_members-loop-field-preserved
write_members-loop-field-preserved t c =
    let l = c.loop-field in
    let fs = c.as_slice-field-items.result.now in
    let f = c.field-item.result in
    let so_far = map field_view (take l.field-index fs) in
    let one = one_field fs l.field-index f c.loop-field-test.true c.field-item.is in
    let rise : IsTrue (is_sorted text_cmp (map field_view fs)) = rw c.as_slice-field-items.ensures.value c.as_slice-field-items.ensures.rise in
    let last : IsTrue (is_sorted text_cmp (so_far ++ (f.key, view f.value) ∷ [])) = rw one at (rising_taken (l.field-index + 1) fs rise) in
    let step : members_view c.put.new.map.entries ≡ put f.key (value_json (view f.value)) (members_json (members_of so_far)) =
    rw (c.in_ok-put.ensures.ok, c.as_str.ensures.value, c.in_ok-value.ensures.value, l.invariant.written) refl in
    rw one (record {
      written = step ∙ put_last so_far f.key (view f.value) last;
      held = members_held_push so_far f.key (view f.value) l.invariant.held c.in_ok-value.ensures.held last;
    })
