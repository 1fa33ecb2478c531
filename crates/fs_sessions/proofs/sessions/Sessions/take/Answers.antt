use Rattle.std.proofs.Common.{◌∙◌, []}
use Rattle.fs_sessions.proofs.Places.{changed_here, unchanged_here, outbox_here, no_outbox_here}
use Rattle.fs_sessions.proofs.sessions.Sessions.take.Goals as goal

pub returns-in-Some-clause-messages : goal.returns-in-Some-clause-messages
returns-in-Some-clause-messages c = c.replace.ensures.value ∙ outbox_here c.args.number c.self.inside.list.items c.args.self.now c.deref.result.now c.deref.ensures.value c.self.view_is c.in-Some.place c.index_mut.result.now c.in-Some.ensures.place c.index_mut.ensures.value

pub returns-in-Some-clause-list : goal.returns-in-Some-clause-list
returns-in-Some-clause-list c = changed_here c.args.number c.self.inside.list.items c.args.self.now c.deref.result.now c.deref.ensures.value c.self.view_is (λ ms. []) c.in-Some.place c.index_mut.result.now c.replace.new.dest c.in-Some.ensures.place c.index_mut.ensures.value (c.replace.ensures.after ∙ c.new.ensures)

pub returns-in-None-clause-messages : goal.returns-in-None-clause-messages
returns-in-None-clause-messages c = c.new-in-None.ensures ∙ no_outbox_here c.args.number c.self.inside.list.items c.args.self.now c.deref.result.now c.deref.ensures.value c.self.view_is c.in-None.ensures.place

pub returns-in-None-clause-list : goal.returns-in-None-clause-list
returns-in-None-clause-list c = unchanged_here c.args.number c.self.inside.list.items c.args.self.now c.deref.result.now c.deref.ensures.value c.self.view_is (λ ms. []) c.in-None.ensures.place
