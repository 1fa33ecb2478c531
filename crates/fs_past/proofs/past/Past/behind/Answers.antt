use Rattle.fs_past.proofs.Keeping.{behind_board}
use Rattle.fs_past.proofs.past.Past.behind.Goals as goal

pub returns : goal.returns
returns c =
    let s = c.self.inside in
    behind_board s.journal s.board s.holds s.store.stored s.moment s.waiting c.self.invariant c.args.self.now c.self.view_is c.args.writes.now c.args.by c.first_behind.result c.requires c.first_behind.ensures
