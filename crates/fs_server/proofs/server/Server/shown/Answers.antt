use Rattle.std.proofs.Common.{rules, ◌≡◌, ◌≤ℤ◌, true, sym, subst}
use Rattle.fs_machine.specs.Read.{is_noted}
use Rattle.fs_machine.specs.State.{Machine}
use Rattle.fs_server.proofs.Noted.{readable_noted}
use Rattle.fs_server.proofs.server.Server.shown.Goals as goal

pub shown_of-requires-clause-from : goal.shown_of-requires-clause-from
shown_of-requires-clause-from c =
    let m = c.args.self.now in
    let noted : is_noted m c.when_of-when.result ≡ true = search rules in
    subst (λ (n : Machine). n.past.floor ≤ℤ c.read_time.result) (sym c.self.view_is)
    (subst (λ t. m.past.floor ≤ℤ t) (sym c.read_time.ensures) (readable_noted m c.when_of-when.result c.stand.ensures.facts noted).0)

pub shown_of-requires-clause-to : goal.shown_of-requires-clause-to
shown_of-requires-clause-to c =
    let m = c.args.self.now in
    let noted : is_noted m c.when_of-when.result ≡ true = search rules in
    subst (λ (n : Machine). c.read_time.result ≤ℤ n.past.released) (sym c.self.view_is)
    (subst (λ t. t ≤ℤ m.past.released) (sym c.read_time.ensures) (readable_noted m c.when_of-when.result c.stand.ensures.facts noted).1)
