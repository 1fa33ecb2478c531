use Rattle.std.proofs.Common.{sym, ap, ◌∙◌}
use Rattle.std.specs.Option.{option_copied}
use Rattle.fs_cache.proofs.Laid.{none_there, standing_given_back}
use Rattle.fs_cache.proofs.places.give_back.Goals as goal

pub returns-then-is_none : goal.returns-then-is_none
returns-then-is_none c =
    standing_given_back c.args.places.now.entries c.remove.new.self.entries c.args.name.now c.remove.ensures.updates.0
    (sym c.standing.ensures ∙ ap (λ o. option_copied o) (none_there c.standing.result c.if-is_none.ensures))
