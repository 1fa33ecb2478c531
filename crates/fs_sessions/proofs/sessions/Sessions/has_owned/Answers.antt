use Rattle.fs_sessions.proofs.Places.{not_owned_here, owned_here}
use Rattle.fs_sessions.proofs.sessions.Sessions.has_owned.Goals as goal

pub returns-in-Some : goal.returns-in-Some
returns-in-Some c = owned_here c.args.number c.self.inside.list.items c.args.self.now c.deref.result.now c.deref.ensures.value c.self.view_is c.in-Some.place c.index.result.now c.in-Some.ensures.place c.index.ensures

pub returns-in-None : goal.returns-in-None
returns-in-None c = not_owned_here c.args.number c.self.inside.list.items c.args.self.now c.deref.result.now c.deref.ensures.value c.self.view_is c.in-None.ensures.place
