use Rattle.std.proofs.Common.{sym, ap, ◌∙◌}
use Rattle.std.specs.Prelude.{◌||◌, map}
use Rattle.fs_listen.specs.Cuts.{some_new}
use Rattle.fs_target.specs.Seen.{listening_of, seen}
use Rattle.fs_target.proofs.Cutting.{some_new_of}
use Rattle.fs_target.proofs.cuts.is_new.Goals as goal

pub returns-else-is_behind : goal.returns-else-is_behind
returns-else-is_behind c =
    let new = some_new (listening_of c.args.raised.now (map seen c.args.entries.now)) in
    c.some_new.ensures ∙ sym (some_new_of c.args.raised.now c.args.entries.now c.requires) ∙ ap (λ b. b || new) c.if-is_behind.ensures
