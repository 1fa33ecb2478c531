use Rattle.std.proofs.Common.{◌≡◌, ◌+◌, ◌++◌, [], ◌∷◌, IsTrue, codes, map, take, OnOk, refl, sym, subst, ap, ◌∙◌, append_assoc, rules}
use Rattle.std.specs.FinMap.{is_sorted}
use Rattle.json.specs.Token.{key}
use Rattle.serde_json.specs.Data as json
use Rattle.fs_path.specs.TextOrder.{text_cmp}
use Rattle.fs_value.specs.Data.{items_of, members_of}
use Rattle.fs_value.specs.View.{view, field_view}
use Rattle.fs_valjson.specs.Held.{ItemsAreHeld, MembersAreHeld}
use Rattle.fs_valjson.specs.Tokens.{tokens_of}
use Rattle.fs_valjson.specs.Writing.{list_json, members_json}
use Rattle.fs_json.proofs.Writings.{on_ok_always}
use Rattle.fs_value.proofs.Folds.{one_field, one_value}
use Rattle.fs_valjson.proofs.Pushed.{next_field, next_value, some_fields, some_values, two_around}
use Rattle.fs_valjson.proofs.Written.{held_push, members_held_push, rising_taken}
use Rattle.fs_valjson.proofs.push.+push.Goals as goal

pub push_array-returns-clause-tokens : goal.push_array-returns-clause-tokens
push_array-returns-clause-tokens t c =
    subst (λ ts. OnOk c.end_object.result (c.end_object.new.self.tokens ≡ ts))
    (two_around c.args.line.now.tokens _ _ c.push_content.new.line.tokens _ _ _ _ _ c.in_ok-begin_object.ensures.ok c.in_ok-key.ensures.ok c.in_ok-push_content.ensures.tokens refl) c.end_object.ensures.ok

pub push_map-returns-clause-tokens : goal.push_map-returns-clause-tokens
push_map-returns-clause-tokens t c =
    subst (λ ts. OnOk c.end_object.result (c.end_object.new.self.tokens ≡ ts))
    (two_around c.args.line.now.tokens _ _ c.push_fields_content.new.line.tokens _ _ _ _ _ c.in_ok-begin_object.ensures.ok c.in_ok-key.ensures.ok c.in_ok-push_fields_content.ensures.tokens refl) c.end_object.ensures.ok

pub push_values-returns-clause-tokens : goal.push_values-returns-clause-tokens
push_values-returns-clause-tokens t c =
    let old = c.args.line.now.tokens in
    let ds = c.args.values.now in
    let some : ds ≡ [] → ⊥ = λ none. search rules in
    subst (λ ts. OnOk c.push_items.result (c.push_items.new.line.tokens ≡ ts))
    (ap (λ o. o ++ tokens_of (list_json ds)) c.in_ok-key.ensures.ok ∙ append_assoc old (key (codes "values") ∷ []) (tokens_of (list_json ds)) ∙ ap (λ ts. old ++ ts) (some_values ds some))
    c.push_items.ensures.tokens

pub push_fields-returns-clause-tokens : goal.push_fields-returns-clause-tokens
push_fields-returns-clause-tokens t c =
    let old = c.args.line.now.tokens in
    let fs = c.args.fields.now in
    let all = tokens_of (json.object (members_json (members_of fs))) in
    let some : fs ≡ [] → ⊥ = λ none. search rules in
    subst (λ ts. OnOk c.push_members.result (c.push_members.new.line.tokens ≡ ts))
    (ap (λ o. o ++ all) c.in_ok-key.ensures.ok ∙ append_assoc old (key (codes "fields") ∷ []) all ∙ ap (λ ts. old ++ ts) (some_fields fs some))
    c.push_members.ensures.tokens

pub push_array-returns-clause-held : goal.push_array-returns-clause-held
push_array-returns-clause-held t c = on_ok_always c.end_object.result c.in_ok-push_content.ensures.held

pub push_content-returns-clause-held : goal.push_content-returns-clause-held
push_content-returns-clause-held t c = on_ok_always c.end_object.result c.in_ok-push_values.ensures.held

pub push_map-returns-clause-held : goal.push_map-returns-clause-held
push_map-returns-clause-held t c = on_ok_always c.end_object.result c.in_ok-push_fields_content.ensures.held

pub push_fields_content-returns-clause-held : goal.push_fields_content-returns-clause-held
push_fields_content-returns-clause-held t c = on_ok_always c.end_object.result c.in_ok-push_fields.ensures.held

pub push_items-loop-value-preserved : goal.push_items-loop-value-preserved
push_items-loop-value-preserved t c =
    let l = c.loop-value in
    let vs = c.as_slice-value-items.result.now in
    let v = c.value-item.result in
    let within = c.loop-value-test.true in
    let one = one_value vs l.value-index v within c.value-item.is in
    record {
      whole = next_value vs l.value-index v l.line.tokens c.push_value.new.line.tokens _ within c.value-item.is c.in_ok-push_value.ensures.tokens l.invariant.whole;
      before = c.in_ok-push_value.ensures.before ∙ l.invariant.before;
      held = subst (λ ds. ItemsAreHeld (items_of ds)) (sym one) (held_push _ _ l.invariant.held c.in_ok-push_value.ensures.held);
    }

pub push_members-loop-field-preserved : goal.push_members-loop-field-preserved
push_members-loop-field-preserved t c =
    let l = c.loop-field in
    let fs = c.as_slice-field-items.result.now in
    let f = c.field-item.result in
    let within = c.loop-field-test.true in
    let so_far = map field_view (take l.field-index fs) in
    let one = one_field fs l.field-index f within c.field-item.is in
    let rise : IsTrue (is_sorted text_cmp (map field_view fs)) = rw c.as_slice-field-items.ensures.value c.as_slice-field-items.ensures.rise in
    let last : IsTrue (is_sorted text_cmp (so_far ++ (f.key, view f.value) ∷ [])) = rw one at (rising_taken (l.field-index + 1) fs rise) in
    let named = c.in_ok-key.ensures.ok ∙ ap (λ k. l.line.tokens ++ key k ∷ []) c.as_str.ensures.value in
    let kept : c.key.new.self.before ≡ l.line.before = search rules in
    record {
      whole = next_field fs l.field-index f l.line.tokens c.key.new.self.tokens c.push_value.new.line.tokens _ within c.field-item.is named c.in_ok-push_value.ensures.tokens l.invariant.whole;
      before = c.in_ok-push_value.ensures.before ∙ kept ∙ l.invariant.before;
      held = subst (λ xs. MembersAreHeld (members_of xs)) (sym one) (members_held_push so_far f.key (view f.value) l.invariant.held c.in_ok-push_value.ensures.held last);
    }
