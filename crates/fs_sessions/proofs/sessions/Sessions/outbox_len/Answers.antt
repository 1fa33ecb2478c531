use Rattle.std.proofs.Common.{ap, ◌∙◌, length}
use Rattle.fs_sessions.proofs.Places.{outbox_here, no_outbox_here}
use Rattle.fs_sessions.proofs.sessions.Sessions.outbox_len.Goals as goal

pub returns-in-Some : goal.returns-in-Some
returns-in-Some c = c.len.ensures ∙ ap length (outbox_here c.args.number c.self.inside.list.items c.args.self.now c.deref.result.now c.deref.ensures.value c.self.view_is c.in-Some.place c.index.result.now c.in-Some.ensures.place c.index.ensures)

pub returns-in-None : goal.returns-in-None
returns-in-None c = ap length (no_outbox_here c.args.number c.self.inside.list.items c.args.self.now c.deref.result.now c.deref.ensures.value c.self.view_is c.in-None.ensures.place)
