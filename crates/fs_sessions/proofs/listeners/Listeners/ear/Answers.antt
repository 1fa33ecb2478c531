use Rattle.fs_sessions.proofs.EarPlaces.{found_here, none_here}
use Rattle.fs_sessions.proofs.listeners.Listeners.ear.Goals as goal

pub returns-in-Some : goal.returns-in-Some
returns-in-Some c = found_here c.args.session c.self.inside.list.items c.deref.result.now c.args.self.now c.deref.ensures.value c.self.view_is c.in-Some.place c.index.result.now c.in-Some.ensures.place c.index.ensures

pub returns-in-None : goal.returns-in-None
returns-in-None c = none_here c.args.session c.self.inside.list.items c.deref.result.now c.args.self.now c.deref.ensures.value c.self.view_is c.in-None.ensures.place
