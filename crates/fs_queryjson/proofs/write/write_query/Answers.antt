use Rattle.std.proofs.Common.{◌≡◌, refl, ap, ◌∙◌}
use Rattle.serde_json.specs.Data.{no_members, object}
use Rattle.serde_json.specs.View.{members_view}
use Rattle.serde_json.specs.Written.{has_float}
use Rattle.serde_json.proofs.Views.{view-Object}
use Rattle.fs_path.specs.Scope.{scope_parent}
use Rattle.fs_queryjson.specs.Query.{listened_at, query_at}
use Rattle.fs_queryjson.specs.Written.{query_json, query_parts}
use Rattle.fs_queryjson.proofs.Again.{listened_again, query_again}
use Rattle.fs_queryjson.proofs.Floats.{query_float}
use Rattle.fs_queryjson.proofs.Rows.{put_rows-there}
use Rattle.fs_queryjson.proofs.write.write_query.Goals as goal

pub returns-clause-value : goal.returns-clause-value
unfolding query_json
returns-clause-value c =
    let q = c.args.q.now in
    let none : members_view c.new-members.result.entries ≡ no_members = ap members_view c.new-members.ensures.empty in
    view-Object c.put_first.new.members ∙ rw (c.in_ok-put_first.ensures.value, c.in_ok-put_last.ensures.value, none) (ap object (put_rows-there (query_parts q) refl))

pub returns-clause-no_float : goal.returns-clause-no_float
returns-clause-no_float c = ap has_float (returns-clause-value c) ∙ query_float c.args.q.now

pub returns-clause-reads_back : goal.returns-clause-reads_back
returns-clause-reads_back c = λ place valid.
    let q = c.args.q.now in
    ap (λ d. query_at (scope_parent q.scope) d place) (returns-clause-value c) ∙ query_again q place c.in_ok-put_last.ensures.held c.in_ok-put_first.ensures.held valid

pub returns-clause-listened : goal.returns-clause-listened
returns-clause-listened c = λ place valid nothing.
    let q = c.args.q.now in
    ap (λ d. listened_at (scope_parent q.scope) d place) (returns-clause-value c) ∙ listened_again q place c.in_ok-put_last.ensures.held c.in_ok-put_first.ensures.held valid nothing
