use Rattle.fs_sessions.specs.Place.{without_last}
use Rattle.fs_sessions.proofs.Places.{changed_here, unchanged_here}
use Rattle.fs_sessions.proofs.sessions.Sessions.take_back.Goals as goal

pub returns-in-Some : goal.returns-in-Some
returns-in-Some c = changed_here c.args.number c.self.inside.list.items c.args.self.now c.deref.result.now c.deref.ensures.value c.self.view_is without_last c.in-Some.place c.index_mut.result.now c.take_back.new.self c.in-Some.ensures.place c.index_mut.ensures.value c.take_back.ensures

pub returns-in-None : goal.returns-in-None
returns-in-None c = unchanged_here c.args.number c.self.inside.list.items c.args.self.now c.deref.result.now c.deref.ensures.value c.self.view_is without_last c.in-None.ensures.place
