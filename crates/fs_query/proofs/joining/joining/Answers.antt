use Rattle.std.proofs.Common.{◌≡◌, ◌++◌, ap, ◌∙◌, subst}
use Rattle.std.specs.List.{filter, dedup}
use Rattle.std.specs.List.Sorted.{IsPermutation}
use Rattle.std.proofs.lemmas.List.Filters.{dedup_is}
use Rattle.std.proofs.lemmas.List.Sorted.{IsPermutation-map}
use Rattle.std.proofs.lemmas.Result.{IfOk-weaker}
use Rattle.fs_path.specs.FieldOrder.{paths_at}
use Rattle.fs_query.specs.SortedPaths.{same_path, paths_of, joins_given}
use Rattle.fs_query.specs.Normal.{inequality_paths, joining}
use Rattle.fs_query.specs.View.{view}
use Rattle.fs_path.proofs.FieldOrder.{sorted_at}
use Rattle.fs_query.proofs.PathsInOrder.{joining_is, once_at}
use Rattle.fs_query.proofs.joining.joining.Goals as goal

pub returns : goal.returns
returns c =
    let q = c.args.q.now in
    let given = paths_at c.in_ok-given.given.items in
    let sorted = c.sort.new.self.items in
    let moved : IsPermutation (paths_of q.orders) given =
    subst (λ os. IsPermutation (paths_of os) given) (c.as_slice.ensures ∙ ap (λ a. a.orders) c.q.view_is) c.in_ok-given.ensures.same in
    let found : paths_at c.push_inequalities.new.paths.items ≡ inequality_paths q.filter =
    c.in_ok-push_inequalities.ensures
    ∙ ap (λ refs. paths_at refs ++ inequality_paths (view c.q.inside.filter)) c.new-paths.ensures.items
    ∙ ap (λ a. inequality_paths a.filter) c.q.view_is in
    let shuffled : IsPermutation (inequality_paths q.filter) (paths_at sorted) =
    subst (λ ps. IsPermutation ps (paths_at sorted)) found (IsPermutation-map (λ r. r.now) c.push_inequalities.new.paths.items sorted c.sort.ensures.permutation) in
    let once : paths_at c.dedup.new.self.items ≡ dedup same_path (paths_at sorted) =
    ap paths_at (dedup_is (λ x y. same_path x.now y.now) sorted c.dedup.new.self.items c.dedup.ensures.filtered) ∙ once_at sorted in
    let all : filter (joins_given (paths_at c.as_slice-2.result.now)) (paths_at c.as_slice-3.result.now) ≡ joining q =
    ap (λ refs. filter (joins_given (paths_at refs)) (paths_at c.as_slice-3.result.now)) c.as_slice-2.ensures.value
    ∙ ap (λ refs. filter (joins_given given) (paths_at refs)) c.as_slice-3.ensures.value
    ∙ ap (filter (joins_given given)) once
    ∙ joining_is q.orders given (inequality_paths q.filter) (paths_at sorted) moved shuffled (sorted_at sorted c.in_ok-sort.ensures.sorted) in
    IfOk-weaker c.not_given.result (λ v. paths_at v.items ≡ filter (joins_given (paths_at c.as_slice-2.result.now)) (paths_at c.as_slice-3.result.now)) (λ v. paths_at v.items ≡ joining q) (λ v e. e ∙ all) c.not_given.ensures
