use Rattle.std.proofs.Common.{sym, ap, ◌∙◌}
use Rattle.std.specs.FinMap.{get}
use Rattle.fs_cache.specs.Cached.{Cached, left_by, with_cached}
use Rattle.fs_cache.proofs.Laid.{none_taken}
use Rattle.fs_cache.proofs.cache.Cache.leave.Goals as goal

pub returns-in_default-clause-ok : goal.returns-in_default-clause-ok
returns-in_default-clause-ok c =
    let had = c.args.self.now in
    let name = c.args.name.now in
    let none = sym (c.in_default.ensures ∙ ap (λ (v : Cached). get v.staged name) c.self.view_is) in
    ap (λ docs. record had { staged = docs }) (sym (ap (λ o. with_cached had.staged name (left_by c.args.gone.now o)) none ∙ none_taken had.staged name none))
