use Rattle.std.proofs.Common.{sym, subst}
use Rattle.fs_edit.proofs.Entries.{Rise, closed_rising}
use Rattle.fs_edit.proofs.open_fields.+close.Goals as goal

pub OpenFields::close-of-requires : goal.OpenFields::close-of-requires
OpenFields::close-of-requires t c =
    let begun = c.into_iter-key-iterator.ensures.into_iter_gives in
    closed_rising c.loop-key.items.items c.loop-key.key-iterator c.into_iter-key-iterator.result (subst Rise (sym begun.0) begun.5) c.loop-key.invariant c.in-None.ensures.steps.0
