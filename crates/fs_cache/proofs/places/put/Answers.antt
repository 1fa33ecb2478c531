use Rattle.std.proofs.Common.{rules, None, Some, sym, ap, ◌∙◌}
use Rattle.std.specs.FinMap.{empty}
use Rattle.fs_cache.specs.Cached.{with_cached}
use Rattle.fs_cache.specs.Places.{IsPut, standing_in}
use Rattle.fs_cache.proofs.Laid.{laid_put, none_there, other_put, standing_removed}
use Rattle.fs_cache.proofs.places.put.Goals as goal

pub returns-then-is_none-clause-value : goal.returns-then-is_none-clause-value
returns-then-is_none-clause-value c =
    let es = c.args.places.now.entries in
    let name = c.args.name.now in
    standing_removed es c.remove.new.self.entries name c.remove.ensures.updates.0
    ∙ ap (with_cached (standing_in es) name) (sym (none_there c.args.next c.if-is_none.ensures))

pub returns-then-is_none-clause-others : goal.returns-then-is_none-clause-others
returns-then-is_none-clause-others c = λ other apart. other_put c.args.places.now.entries c.remove.new.self.entries c.args.name.now None c.remove.ensures.updates.0 other apart

pub returns-in-Some-clause-value : goal.returns-in-Some-clause-value
returns-in-Some-clause-value c =
    let es = c.args.places.now.entries in
    let fs = (c.get_mut.follows.lender c.args.next).entries in
    let name = c.args.name.now in
    let put : IsPut es fs name (Some c.args.next) = search rules in
    laid_put es fs name empty c.args.next put

pub returns-in-Some-clause-others : goal.returns-in-Some-clause-others
returns-in-Some-clause-others c = λ other apart.
    let es = c.args.places.now.entries in
    let fs = (c.get_mut.follows.lender c.args.next).entries in
    let name = c.args.name.now in
    let put : IsPut es fs name (Some c.args.next) = search rules in
    other_put es fs name (Some c.args.next) put other apart
