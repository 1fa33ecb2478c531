use Rattle.std.proofs.Common.{◌∙◌}
use Rattle.fs_sessions.proofs.Places.{removed_here, none_removed_here}
use Rattle.fs_sessions.proofs.sessions.Sessions.remove.Goals as goal

pub returns-in-Some : goal.returns-in-Some
returns-in-Some c = c.remove.ensures.items ∙ removed_here c.args.number c.self.inside.list.items c.args.self.now c.deref.result.now c.deref.ensures.value c.self.view_is c.in-Some.place c.in-Some.ensures.place

pub returns-in-None : goal.returns-in-None
returns-in-None c = none_removed_here c.args.number c.self.inside.list.items c.args.self.now c.deref.result.now c.deref.ensures.value c.self.view_is c.in-None.ensures.place
