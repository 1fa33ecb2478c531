use Rattle.std.proofs.Common.{◌≡◌, length, refl, sym, ◌∙◌, arith}
use Rattle.std.specs.Prelude.{min}
use Rattle.std.specs.Ordering.{nat_cmp}
use Rattle.fs_value.specs.Data.{items_of, members_of}
use Rattle.fs_value.specs.ValueOrder.{items_cmp, members_cmp}
use Rattle.fs_value.proofs.Comparing.{items_apart, items_tied, keys_apart, values_apart, members_tied, compared_end}
use Rattle.fs_value.proofs.order.+compare.Goals as goal

pub compare_items-returns-then-ne : goal.compare_items-returns-then-ne
compare_items-returns-then-ne t c =
    items_apart c.args.a.now c.args.b.now c.loop-i.i _ _ _ c.loop-i.invariant c.at.ensures.value c.at-in-loop-i.ensures.value c.compare-by_value.ensures (sym c.ne.ensures ∙ c.if-ne.true)

pub compare_items-loop-i-preserved : goal.compare_items-loop-i-preserved
compare_items-loop-i-preserved t c =
    items_tied c.args.a.now c.args.b.now c.loop-i.i _ _ _ c.loop-i.invariant c.at.ensures.value c.at-in-loop-i.ensures.value c.compare-by_value.ensures (sym c.ne.ensures ∙ c.if-ne.false)

pub compare_items-returns : goal.compare_items-returns
compare_items-returns t c =
    let at_end : c.loop-i.i ≡ min (length c.args.a.now) (length c.args.b.now) = omega arith in
    let ended = compared_end (λ a b. items_cmp (items_of a) (items_of b)) refl (λ _ _. refl) (λ _ _. refl) c.args.a.now c.args.b.now c.loop-i.i at_end in
    c.cmp.ensures ∙ (λ j. nat_cmp (c.len-3.ensures j) (c.len-4.ensures j)) ∙ sym (c.loop-i.invariant ∙ ended)

pub compare_fields-returns-then-ne : goal.compare_fields-returns-then-ne
compare_fields-returns-then-ne t c =
    keys_apart c.args.x.now c.args.y.now c.loop-i.i _ _ _ c.loop-i.invariant c.key_at.ensures c.key_at-in-loop-i.ensures c.cmp-by_key.ensures (sym c.ne.ensures ∙ c.if-ne.true)

pub compare_fields-returns-then-ne-2 : goal.compare_fields-returns-then-ne-2
compare_fields-returns-then-ne-2 t c =
    values_apart c.args.x.now c.args.y.now c.loop-i.i _ _ _ c.loop-i.invariant c.key_at.ensures c.key_at-in-loop-i.ensures c.cmp-by_key.ensures _ _ _ (sym c.ne.ensures ∙ c.if-ne.false) c.value_at.ensures.value c.value_at-in-loop-i.ensures.value c.compare-by_value.ensures (sym c.ne-in-loop-i.ensures ∙ c.if-ne-2.true)

pub compare_fields-loop-i-preserved : goal.compare_fields-loop-i-preserved
compare_fields-loop-i-preserved t c =
    members_tied c.args.x.now c.args.y.now c.loop-i.i _ _ _ c.loop-i.invariant c.key_at.ensures c.key_at-in-loop-i.ensures c.cmp-by_key.ensures _ _ _ (sym c.ne.ensures ∙ c.if-ne.false) c.value_at.ensures.value c.value_at-in-loop-i.ensures.value c.compare-by_value.ensures (sym c.ne-in-loop-i.ensures ∙ c.if-ne-2.false)

pub compare_fields-returns : goal.compare_fields-returns
compare_fields-returns t c =
    let at_end : c.loop-i.i ≡ min (length c.args.x.now) (length c.args.y.now) = omega arith in
    let ended = compared_end (λ a b. members_cmp (members_of a) (members_of b)) refl (λ _ _. refl) (λ _ _. refl) c.args.x.now c.args.y.now c.loop-i.i at_end in
    c.cmp.ensures ∙ (λ j. nat_cmp (c.len-3.ensures.value j) (c.len-4.ensures.value j)) ∙ sym (c.loop-i.invariant ∙ ended)
