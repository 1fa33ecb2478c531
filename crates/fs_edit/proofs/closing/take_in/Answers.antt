use Rattle.std.proofs.Common.{sym, subst}
use Rattle.fs_edit.specs.Closing.{stacked, TakesIn}
use Rattle.std.proofs.lemmas.Result.{on_ok_weaker}
use Rattle.fs_edit.proofs.Together.{takes_append, takes_remove}
use Rattle.fs_edit.proofs.closing.take_in.Goals as goal

pub returns-in-Append : goal.returns-in-Append
returns-in-Append c =
    let set = c.args.gone.now in
    let given = stacked c.args.stack.now.items in
    let given' = stacked c.put_first.new.stack.items in
    on_ok_weaker c.put_first.result
    (λ is. subst (λ change. TakesIn change set given set given') (sym c.in-Append.is) (takes_append c.in-Append.values set c.without.result given given' c.without.ensures is))
    c.put_first.ensures

pub returns-in-Remove : goal.returns-in-Remove
returns-in-Remove c =
    let set = c.args.gone.now in
    let set' = c.add_to.new.set in
    let given = stacked c.args.stack.now.items in
    on_ok_weaker c.add_to.result
    (λ gains. subst (λ change. TakesIn change set given set' given) (sym c.in-Remove.is) (takes_remove c.in-Remove.values set set' given gains))
    c.add_to.ensures
