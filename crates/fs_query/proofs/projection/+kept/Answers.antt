use Rattle.std.proofs.Common.{◌≡◌, map, sym, ap, ◌∙◌, arith, append-nil}
use Rattle.std.specs.Prelude.{option_map}
use Rattle.std.specs.Option.{option_to_list}
use Rattle.std.specs.FinMap.{is_sorted}
use Rattle.std.proofs.lemmas.Grind.{common_steps}
use Rattle.std.proofs.lemmas.List.{take_all}
use Rattle.std.proofs.lemmas.List.Sorted.{IsPermutation-map}
use Rattle.std.proofs.lemmas.Result.{IfOk-weaker}
use Rattle.fs_path.specs.TextOrder.{text_cmp}
use Rattle.fs_value.specs.Data.{members_of}
use Rattle.fs_value.specs.View.{view, field_view}
use Rattle.fs_query.specs.Project.{kept, kept_of, rests}
use Rattle.fs_query.proofs.KeptInOrder.{kept_moved}
use Rattle.fs_query.proofs.Projected.{kept_next, kept_rises}
use Rattle.fs_query.proofs.projection.+kept.Goals as goal
use Rattle.fs_query.proofs.projection.+kept.Goals.{kept_in_order-in-Some+in_ok-push, kept_in_order-in_default}

pub kept_in_order-of-requires : goal.kept_in_order-of-requires
kept_in_order-of-requires t c =
    let ps = map (λ p. p.now) c.args.paths.now in
    let fields = c.as_slice-field-items.result.now in
    let all : map field_view c.loop-field.all.items ≡ kept ps (members_of c.args.fields.now) =
    c.loop-field.invariant
    ∙ ap (λ fs. kept ps (members_of (map field_view fs))) (take_all c.loop-field.field-index fields (omega arith))
    ∙ ap (λ fs. kept ps (members_of fs)) c.as_slice-field-items.ensures.value in
    ap (is_sorted text_cmp) all ∙ kept_rises ps c.args.fields.now c.as_slice-field-items.ensures.rise

pub kept_in_order-loop-field-preserved : goal.kept_in_order-loop-field-preserved
kept_in_order-loop-field-preserved t c =
    let ps = map (λ p. p.now) c.args.paths.now in
    let field = c.field-item.result in
    let next = kept_next ps c.as_slice-field-items.result.now c.loop-field.field-index field c.loop-field-test.true c.field-item.is in
    let behind : map (λ p. p.now) c.in_ok-rests.rests.items ≡ rests field.key ps =
    c.in_ok-rests.ensures ∙ ap (λ k. rests k ps) c.as_str.ensures.value in
    let one : kept_of (rests field.key ps) field.key (view field.value) ≡ option_to_list (option_map field_view c.in_ok-left.field-0) =
    ap (λ rs. kept_of rs field.key (view field.value)) (sym behind) ∙ sym c.in_ok-left.ensures in
    elim c.match-branch-3.branch [
      | kept_in_order-in-Some+in_ok-push w ↦ rw (next, ← c.loop-field.invariant, w.all-is, one, w.in-Some.is) (grind (arith, common_steps))
      | kept_in_order-in_default w ↦ rw (next, ← c.loop-field.invariant, w.all-is, one, w.in_default.is, append-nil)
    ]

pub kept-returns : goal.kept-returns
kept-returns t c =
    let ms = members_of c.args.fields.now in
    let old = c.args.paths.now.items in
    let sorted = c.sort.new.self.items in
    let same : kept (map (λ p. p.now) c.as_slice.result.now) ms ≡ kept (map (λ p. p.now) old) ms =
    ap (λ ps. kept (map (λ p. p.now) ps) ms) c.as_slice.ensures.value
    ∙ sym (kept_moved ms (map (λ p. p.now) old) (map (λ p. p.now) sorted) (IsPermutation-map (λ p. p.now) old sorted c.sort.ensures.permutation)) in
    IfOk-weaker c.kept_in_order.result (λ fs. fs ≡ kept (map (λ p. p.now) c.as_slice.result.now) ms) (λ fs. fs ≡ kept (map (λ p. p.now) old) ms) (λ fs e. e ∙ same) c.kept_in_order.ensures
