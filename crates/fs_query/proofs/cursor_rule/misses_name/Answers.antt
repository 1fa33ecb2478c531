use Rattle.std.proofs.Common.{length, map, sym, ap, ◌∙◌, arith}
use Rattle.std.specs.Prelude.{◌||◌, ◌&&◌, ◌==◌, not}
use Rattle.std.specs.List.{list_any, zip}
use Rattle.std.proofs.lemmas.List.{length-map}
use Rattle.fs_value.specs.View.{view}
use Rattle.fs_query.specs.Field.{name_path}
use Rattle.fs_query.specs.Normal.{is_ordered}
use Rattle.fs_query.specs.Place.{last_is_bad}
use Rattle.fs_query.specs.Rules.{is_bad_place}
use Rattle.fs_query.proofs.CursorPlaces.{places}
use Rattle.fs_query.proofs.cursor_rule.misses_name.Goals as goal

pub returns : goal.returns
returns c =
    let vs = map view c.args.values.now in
    let n = length-map c.args.values.now view in
    c.some_misses_name.ensures
    ∙ ap (λ os. list_any is_bad_place (zip os vs) || (not (is_ordered os name_path) && (length c.args.values.now == c.args.count && last_is_bad vs))) (c.as_slice.ensures ∙ ap (λ a. a.orders) c.q.view_is)
    ∙ ap (λ k. list_any is_bad_place (zip c.args.q.now.orders vs) || (not (is_ordered c.args.q.now.orders name_path) && (k == c.args.count && last_is_bad vs))) (sym n)
    ∙ sym (places c.args.q.now c.args.count vs c.requires.count (omega arith) (omega arith))
