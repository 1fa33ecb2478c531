use Rattle.std.proofs.Common.{◌≤ℤ◌, sym, subst}
use Rattle.fs_server.proofs.Noted.{readable}
use Rattle.fs_server.proofs.server.Server.time_to_read.Goals as goal

pub returns-clause-from : goal.returns-clause-from
returns-clause-from c =
    let m = c.args.self.now in
    subst (λ t. m.past.floor ≤ℤ t) (sym c.read_time.ensures) (readable m c.args.when.now c.stand.ensures.facts c.requires).0

pub returns-clause-to : goal.returns-clause-to
returns-clause-to c =
    let m = c.args.self.now in
    subst (λ t. t ≤ℤ m.past.released) (sym c.read_time.ensures) (readable m c.args.when.now c.stand.ensures.facts c.requires).1
