use Rattle.std.proofs.Common.{map, ap, ◌∙◌}
use Rattle.fs_sessions.specs.Heard.{heard_of}
use Rattle.fs_sessions.proofs.EarPlaces.{none_removed_here, removed_here}
use Rattle.fs_sessions.proofs.listeners.Listeners.remove.Goals as goal

pub returns-in-Some : goal.returns-in-Some
returns-in-Some c = ap (map heard_of) c.remove.ensures.items ∙ removed_here c.args.session c.self.inside.list.items c.deref.result.now c.args.self.now c.deref.ensures.value c.self.view_is c.in-Some.place c.in-Some.ensures.place

pub returns-in-None : goal.returns-in-None
returns-in-None c = none_removed_here c.args.session c.self.inside.list.items c.deref.result.now c.args.self.now c.deref.ensures.value c.self.view_is c.in-None.ensures.place
