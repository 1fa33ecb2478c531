use Rattle.std.proofs.Common.{map, ap, ◌∙◌}
use Rattle.std.proofs.lemmas.Result.{IfOk-weaker}
use Rattle.fs_machine.specs.Release.{let_out, as_committed}
use Rattle.fs_past.proofs.Keeping.{out_of_board}
use Rattle.fs_past.proofs.past.Past.committed.Goals as goal

pub returns : goal.returns
returns c =
    let s = c.self.inside in
    IfOk-weaker c.all_committed.result _ _
    (λ cs so. so ∙ ap (map as_committed) (out_of_board s.journal s.board s.holds s.store.stored s.moment s.waiting c.self.invariant ∙ ap let_out c.self.view_is))
    c.all_committed.ensures
