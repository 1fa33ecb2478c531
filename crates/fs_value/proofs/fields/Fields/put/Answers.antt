use Rattle.std.proofs.Common.{map, ap, sym, ◌∙◌, subst}
use Rattle.std.specs.Prelude.{IsTrue, insert}
use Rattle.std.specs.FinMap.{is_sorted, put}
use Rattle.fs_path.specs.TextOrder.{text_cmp}
use Rattle.fs_value.specs.FieldPlace.{IsFoundAt}
use Rattle.fs_value.specs.View.{view, field_view}
use Rattle.fs_value.specs.declared.fields.Field.{Field}
use Rattle.fs_value.proofs.FieldPlaces.{replaced, put_rises}
use Rattle.fs_value.proofs.Places.{map-insert}
use Rattle.fs_value.proofs.fields.Fields.put.Goals as goal

pub returns-in-Ok-clause-ok : goal.returns-in-Ok-clause-ok
returns-in-Ok-clause-ok c =
    let key = c.as_str.result.now in
    let here = subst (λ fs. IsFoundAt key fs c.in-Ok.i) (sym c.self.view_is) c.in-Ok.ensures in
    replaced key c.self.inside.items.items c.in-Ok.i c.index_mut.result.now c.args.value here c.index_mut.ensures.value
    ∙ ap (put text_cmp key (view c.args.value)) c.self.view_is
    ∙ ap (λ k. put text_cmp k (view c.args.value) c.args.self.now) c.as_str.ensures.value

pub returns-in_ok-insert-in-Err-clause-ok : goal.returns-in_ok-insert-in-Err-clause-ok
returns-in_ok-insert-in-Err-clause-ok c =
    let key = c.as_str.result.now in
    let f : Field = record { key = c.args.key; value = c.args.value } in
    ap (map field_view) c.in_ok-insert-in-Err.ensures.items
    ∙ map-insert field_view c.self.inside.items.items c.in-Err.i f
    ∙ ap (λ fs. insert fs c.in-Err.i (c.args.key, view c.args.value)) c.self.view_is
    ∙ ap (λ k. insert c.args.self.now c.in-Err.i (k, view c.args.value)) (sym c.as_str.ensures.value)
    ∙ sym (c.in-Err.ensures.puts (view c.args.value))
    ∙ ap (λ k. put text_cmp k (view c.args.value) c.args.self.now) c.as_str.ensures.value

pub invariant_of-self : goal.invariant_of-self
invariant_of-self c = put_rises c.args.key (view c.args.value) c.args.self.now _ (subst (λ fs. IsTrue (is_sorted text_cmp fs)) c.self.view_is c.self.invariant) (returns-in-Ok-clause-ok c)

pub invariant_of-self-in-Err : goal.invariant_of-self-in-Err
invariant_of-self-in-Err c = put_rises c.args.key (view c.args.value) c.args.self.now _ (subst (λ fs. IsTrue (is_sorted text_cmp fs)) c.self.view_is c.self.invariant) (returns-in_ok-insert-in-Err-clause-ok c)
