use Rattle.std.proofs.Common.{get_or, sym, ◌∙◌}
use Rattle.std.proofs.lemmas.Slice.Eq.{bytes_eq-Decides}
use Rattle.std.specs.BTreeMap.{keys}
use Rattle.fs_versions.proofs.Bounds.{of_one}
use Rattle.fs_versions.proofs.listed.first_of_one.Goals as goal

pub returns-then-eq-2 : goal.returns-then-eq-2
returns-then-eq-2 c = λ k d within.
    let first = c.in-Some-Some.first.now in
    let last = c.in-Some-Some.last.now in
    of_one first last (get_or (keys c.args.chains.now) k d)
    (record {
      project = sym c.project.ensures.value ∙ (bytes_eq-Decides c.project.result.now c.project-2.result.now).0 (sym c.eq.ensures ∙ c.if-eq.true) ∙ c.project-2.ensures.value;
      database = sym c.database.ensures.value ∙ (bytes_eq-Decides c.database.result.now c.database-then-eq.result.now).0 (sym c.eq-then-eq.ensures ∙ c.if-eq-2.true) ∙ c.database-then-eq.ensures.value;
    })
    (c.in-Some-Some.ensures.all_from k d within) (c.in-Some-Some.ensures'.all_up_to k d within)
