use Rattle.std.proofs.lemmas.Result.{on_ok_weaker}
use Rattle.fs_edit.proofs.ValueSets.{appends_one, appends_none}
use Rattle.fs_edit.proofs.closing.append_one.Goals as goal

pub returns-then-remove : goal.returns-then-remove
returns-then-remove c =
    on_ok_weaker c.push.result (λ grown. appends_one c.args.missing.now c.remove.new.self c.args.value c.args.elements.now c.push.new.self c.remove.result c.remove.ensures.updates c.remove.ensures.test c.if-remove.true grown) c.push.ensures.ok

pub returns-else-remove : goal.returns-else-remove
returns-else-remove c =
    appends_none c.args.missing.now c.remove.new.self c.args.value c.args.elements.now c.remove.result c.remove.ensures.updates c.remove.ensures.test c.if-remove.false
