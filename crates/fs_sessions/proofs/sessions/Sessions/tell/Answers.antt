use Rattle.std.specs.Prelude.{◌++◌}
use Rattle.std.proofs.lemmas.Result.{on_ok_weaker}
use Rattle.fs_sessions.proofs.Places.{changed_here, unchanged_here}
use Rattle.fs_sessions.proofs.sessions.Sessions.tell.Goals as goal

pub returns-in-Some-clause-ok : goal.returns-in-Some-clause-ok
returns-in-Some-clause-ok c =
    on_ok_weaker c.append.result (λ told. changed_here c.args.number c.self.inside.list.items c.args.self.now c.deref.result.now c.deref.ensures.value c.self.view_is (λ ms. ms ++ c.args.messages.items) c.in-Some.place c.index_mut.result.now c.append.new.self c.in-Some.ensures.place c.index_mut.ensures.value told) c.append.ensures.ok

pub returns-in-None-clause-ok : goal.returns-in-None-clause-ok
returns-in-None-clause-ok c = unchanged_here c.args.number c.self.inside.list.items c.args.self.now c.deref.result.now c.deref.ensures.value c.self.view_is (λ ms. ms ++ c.args.messages.items) c.in-None.ensures.place
