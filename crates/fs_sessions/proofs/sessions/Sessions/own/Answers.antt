use Rattle.fs_sessions.proofs.Places.{none_owning_here, owning_here}
use Rattle.fs_sessions.proofs.sessions.Sessions.own.Goals as goal

pub returns-in-Some : goal.returns-in-Some
returns-in-Some c = owning_here c.args.number c.self.inside.list.items c.args.self.now c.deref.result.now c.deref.ensures.value c.self.view_is c.in-Some.place c.index_mut.result.now c.in-Some.ensures.place c.index_mut.ensures.value

pub returns-in-None : goal.returns-in-None
returns-in-None c = none_owning_here c.args.number c.self.inside.list.items c.args.self.now c.deref.result.now c.deref.ensures.value c.self.view_is c.in-None.ensures.place
