use Rattle.std.proofs.Common.{refl, subst}
use Rattle.fs_machine.specs.State.{Machine}
use Rattle.fs_server.specs.Events.{IsStagedOf}
use Rattle.fs_sessions.specs.Heard.{listeners_of}
use Rattle.fs_server.proofs.Raising.{are_staged}
use Rattle.std.specs.Prelude.{option_copied}
use Rattle.fs_server.proofs.server.Server.staged.Goals as goal

pub returns : goal.returns
returns c =
    let s = c.self.inside in
    let m : Machine = record { config = s.config; limits = s.limits; past = s.past; txns = s.txns; sessions = s.sessions; listeners = listeners_of s.listeners; parked = s.waiting; streams = s.streams; numbers = s.numbers } in
    subst (λ (k : Machine). IsStagedOf k c.args.session c.args.target (option_copied c.staged.result)) c.self.view_is
    (are_staged m s.listeners refl c.self.invariant.heard c.args.session c.args.target (option_copied c.staged.result) c.staged.ensures c.in_ok-loaded.field-0 c.in_ok-loaded.ensures)
