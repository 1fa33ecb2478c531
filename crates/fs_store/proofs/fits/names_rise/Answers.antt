use Rattle.std.proofs.Common.{◌≡◌, ◌-◌, drop, arith, length-drop, sym, ◌∙◌}
use Rattle.std.specs.declared.cmp.Ordering.TheVariants.{Less}
use Rattle.fs_path.specs.NameOrder.{name_cmp}
use Rattle.fs_path.proofs.Orders.{less_is}
use Rattle.fs_store.proofs.Fitting.{rise_more, few_rise, is_yes}
use Rattle.fs_store.proofs.fits.names_rise.Goals as goal

pub loop-i-preserved : goal.loop-i-preserved
loop-i-preserved c =
    let a = c.index-changes-i.result in
    let b = c.index-changes-i-in-loop-i.result in
    let here : name_cmp a.name b.name ≡ c.cmp.result =
    (λ j. name_cmp (c.index-changes-i.is j).name (c.index-changes-i-in-loop-i.is j).name) ∙ sym c.cmp.ensures in
    let less : name_cmp a.name b.name ≡ Less = here ∙ less_is c.cmp.result (sym c.is_lt-rises.ensures ∙ c.if-not-rises.false) in
    rise_more c.args.changes.now c.loop-i.i a b (omega arith) (omega arith) c.index-changes-i.is c.index-changes-i-in-loop-i.is less c.loop-i.invariant

pub returns : goal.returns
returns c = is_yes (c.loop-i.invariant.1 (few_rise (drop (c.loop-i.i - 1) c.args.changes.now) (simp length-drop (omega arith))))
