use Rattle.std.proofs.Common.{sym, ap, subst}
use Rattle.std.specs.FinMap.{get}
use Rattle.std.proofs.lemmas.Result.{on_err_weaker, on_ok_weaker}
use Rattle.fs_listen.specs.Listening.{Listening}
use Rattle.fs_target.specs.Held.{Held, IsUnloaded}
use Rattle.fs_sessions.specs.Heard.{heard_loading, heard_of}
use Rattle.fs_sessions.specs.declared.listeners.Ear.{Ear}
use Rattle.fs_sessions.proofs.Ears.{listening_found}
use Rattle.fs_sessions.proofs.EarPlaces.{changed_here, found_here, same_here, unchanged_here}
use Rattle.fs_sessions.proofs.listeners.Listeners.load.Goals as goal

pub load-requires-clause-there : goal.load-requires-clause-there
load-requires-clause-there c =
    subst (λ (s : Listening). IsUnloaded (get s.targets c.args.id))
    (listening_found c.args.session c.args.self.now (heard_of c.index_mut.result.now) (sym (found_here c.args.session c.self.inside.list.items c.deref.result.now c.args.self.now c.deref.ensures.value c.self.view_is c.in-Some.place c.index_mut.result.now c.in-Some.ensures.place c.index_mut.ensures.value)))
    c.requires.there

pub returns-in-Some-clause-ok : goal.returns-in-Some-clause-ok
returns-in-Some-clause-ok c =
    let e = c.index_mut.result.now in
    let g : Ear = record e { targets = c.load.new.self } in
    on_ok_weaker c.load.result
    (λ loaded. changed_here c.args.session c.self.inside.list.items c.deref.result.now c.args.self.now c.deref.ensures.value c.self.view_is (heard_loading c.args.id c.args.sent c.args.reset c.args.docs c.args.time) c.in-Some.place e g c.in-Some.ensures.place c.index_mut.ensures.value
    (ap (λ (h : Held). record (heard_of e) { held = h }) loaded))
    c.load.ensures.ok

pub returns-in-Some-clause-err : goal.returns-in-Some-clause-err
returns-in-Some-clause-err c =
    let e = c.index_mut.result.now in
    let g : Ear = record e { targets = c.load.new.self } in
    on_err_weaker c.load.result (λ same. same_here c.args.session c.self.inside.list.items c.deref.result.now c.args.self.now c.deref.ensures.value c.self.view_is c.in-Some.place e g c.index_mut.ensures.value (ap (λ (h : Held). record (heard_of e) { held = h }) same)) c.load.ensures.err

pub returns-in-None-clause-ok : goal.returns-in-None-clause-ok
returns-in-None-clause-ok c = unchanged_here c.args.session c.self.inside.list.items c.deref.result.now c.args.self.now c.deref.ensures.value c.self.view_is (heard_loading c.args.id c.args.sent c.args.reset c.args.docs c.args.time) c.in-None.ensures.place
