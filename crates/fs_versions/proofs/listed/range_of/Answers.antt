use Rattle.std.proofs.Common.{◌≡◌, ◌++◌, ◌∷◌, [], subst}
use Rattle.std.specs.Prelude.{IfSome}
use Rattle.fs_path.specs.declared.name.DocName.{DocName}
use Rattle.fs_versions.specs.Between.{beside}
use Rattle.fs_versions.proofs.Bounds.{made_bounds}
use Rattle.fs_versions.proofs.listed.range_of.Goals as goal

pub returns-in-Some-Some : goal.returns-in-Some-Some
returns-in-Some-Some c =
    let name = c.args.name.now in
    let parent = c.in-Collection.parent in
    let first = c.in_ok-copy.field-0 in
    let next = c.in_ok-id_behind.field-0 in
    made_bounds c.args.scope.now name c.in-Some-Some.start c.in-Some-Some.end parent c.in-Collection.id first next c.in-Collection.is c.in_ok-copy.ensures c.in_ok-id_behind.ensures
    (subst (λ o. IfSome o (λ (n : DocName). n ≡ beside name (parent ++ first ∷ []))) c.in-Some-Some.is-0 c.in_ok-start.ensures)
    (subst (λ o. IfSome o (λ (n : DocName). n ≡ beside name (parent ++ next ∷ []))) c.in-Some-Some.is-1 c.in_ok-end.ensures)
