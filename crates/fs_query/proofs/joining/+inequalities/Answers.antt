use Rattle.std.proofs.Common.{◌++◌, map, take, ap, sym, ◌∙◌, append_assoc}
use Rattle.fs_query.specs.Condition.{conditions_of}
use Rattle.fs_path.specs.FieldOrder.{paths_at}
use Rattle.fs_query.specs.Normal.{inequality_paths, inequality_paths_of}
use Rattle.fs_query.specs.View.{view}
use Rattle.fs_query.proofs.PathsInOrder.{inequalities_more}
use Rattle.fs_query.proofs.joining.+inequalities.Goals as goal

pub push_all_inequalities-loop-filter-preserved : goal.push_all_inequalities-loop-filter-preserved
push_all_inequalities-loop-filter-preserved t c =
    let filters = c.as_slice-filter-items.result.now in
    let k = c.loop-filter.filter-index in
    let start = paths_at c.args.paths.now.items in
    let own = inequality_paths (view c.filter-item.result) in
    let done = inequality_paths_of (conditions_of (map view (take k filters))) in
    c.in_ok-push_inequalities.ensures
    ∙ ap (λ ps. ps ++ own) c.loop-filter.invariant
    ∙ append_assoc start done own
    ∙ ap (λ f. start ++ (done ++ inequality_paths (view f))) c.filter-item.is
    ∙ ap (λ ps. start ++ ps) (sym (inequalities_more filters k c.filter-item.result c.loop-filter-test.true))
