use Rattle.std.proofs.Common.{sym, ap, ◌∙◌}
use Rattle.std.specs.FinMap.{get}
use Rattle.fs_path.specs.NameOrder.{name_cmp_total}
use Rattle.fs_value.proofs.Tree.{get_tree}
use Rattle.fs_target.specs.Places.{is_until, stood}
use Rattle.fs_target.proofs.places.Places.is_free.Goals as goal

pub returns-in-Some-clause-empty : goal.returns-in-Some-clause-empty
returns-in-Some-clause-empty c = λ free.
    let name = c.args.name.now in
    ap stood (sym (c.in-Some.ensures.value ∙ get_tree name_cmp_total c.self.inside.places.entries name ∙ ap (λ m. get m name) c.self.view_is))
    ∙ c.is_free.ensures.empty free

pub returns-in-Some-clause-over : goal.returns-in-Some-clause-over
returns-in-Some-clause-over c = λ free t late.
    let name = c.args.name.now in
    ap (is_until t) (sym (c.in-Some.ensures.value ∙ get_tree name_cmp_total c.self.inside.places.entries name ∙ ap (λ m. get m name) c.self.view_is))
    ∙ c.is_free.ensures.over free t late
