use Rattle.std.proofs.Common.{sym, ◌∙◌}
use Rattle.fs_json.proofs.Found.{spells_short}
use Rattle.fs_json.proofs.names.spells.Goals as goal

pub returns-then-key-name : goal.returns-then-key-name
returns-then-key-name c = c.eq.ensures ∙ sym (spells_short c.args.name.now c.args.key.now c.if-key-name.true)
