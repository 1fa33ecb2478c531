use Rattle.fs_sessions.specs.Heard.{heard_removing}
use Rattle.fs_sessions.proofs.EarPlaces.{changed_here, unchanged_here}
use Rattle.fs_sessions.proofs.listeners.Listeners.remove_target.Goals as goal

pub returns-in-Some : goal.returns-in-Some
returns-in-Some c =
    changed_here c.args.session c.self.inside.list.items c.deref.result.now c.args.self.now c.deref.ensures.value c.self.view_is (heard_removing c.args.id) c.in-Some.place c.index_mut.result.now c.remove_from.new.ear c.in-Some.ensures.place c.index_mut.ensures.value c.remove_from.ensures

pub returns-in-None : goal.returns-in-None
returns-in-None c = unchanged_here c.args.session c.self.inside.list.items c.deref.result.now c.args.self.now c.deref.ensures.value c.self.view_is (heard_removing c.args.id) c.in-None.ensures.place
