use Rattle.std.proofs.Common.{cond, ◌+◌, drop, sym, ap, ◌∙◌}
use Rattle.std.specs.Prelude.{is_some, option_copied}
use Rattle.fs_value.specs.declared.document.Document.{Document}
use Rattle.fs_target.proofs.Looking.{shown, shown_next}
use Rattle.fs_target.proofs.told.shown_in.Goals as goal

pub loop-look-preserved : goal.loop-look-preserved
loop-look-preserved c = λ time are.
    let rest = shown time c.args.name.now (drop (c.loop-look.look-index + 1) c.args.looks.now) in
    let next = shown_next time c.args.name.now c.args.looks.now c.loop-look.look-index c.look-item.result (option_copied c.new_at.result) c.loop-look-test.true are c.look-item.is (c.new_at.ensures time) in
    sym (next ∙ ap (λ o. cond (is_some (option_copied {T = Document} o)) (option_copied o) rest) c.in_default.is) ∙ c.loop-look.invariant time are

pub returns-in-Some : goal.returns-in-Some
returns-in-Some c = λ time are.
    let rest = shown time c.args.name.now (drop (c.loop-look.look-index + 1) c.args.looks.now) in
    let next = shown_next time c.args.name.now c.args.looks.now c.loop-look.look-index c.look-item.result (option_copied c.new_at.result) c.loop-look-test.true are c.look-item.is (c.new_at.ensures time) in
    sym (next ∙ ap (λ o. cond (is_some (option_copied {T = Document} o)) (option_copied o) rest) c.in-Some.is) ∙ c.loop-look.invariant time are
