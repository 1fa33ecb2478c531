use Rattle.std.proofs.Common.{sym}
use Rattle.fs_listen.specs.Cuts.{is_ready}
use Rattle.fs_listen.specs.Listening.{Listening}
use Rattle.fs_sessions.specs.Heard.{heard_of}
use Rattle.fs_sessions.proofs.Listened.{none_ready, told_nowhere, told_there}
use Rattle.fs_sessions.proofs.listeners.Listeners.ready.Goals as goal

pub returns-in-Some : goal.returns-in-Some
returns-in-Some c = told_there (λ (s : Listening). is_ready s) c.args.session c.args.self.now (heard_of c.in-Some.ear.now) _ c.in-Some.ensures c.ready.ensures

pub returns-in-None : goal.returns-in-None
returns-in-None c = told_nowhere (λ (s : Listening). is_ready s) c.args.session c.args.self.now _ c.in-None.ensures (sym none_ready)
