use Rattle.std.proofs.Common.{◌≡◌, refl, subst}
use Rattle.std.specs.Prelude.{IfNone}
use Rattle.std.proofs.lemmas.Result.{on_err_weaker, on_ok_weaker}
use Rattle.fs_sessions.specs.Heard.{heard_of, heard_raised}
use Rattle.fs_sessions.proofs.EarPlaces.{changed_here, found_here, none_here, same_here, unchanged_here}
use Rattle.fs_sessions.proofs.Raises.{told_found, told_nobody}
use Rattle.fs_sessions.proofs.listeners.Listeners.raise.Goals as goal

pub returns-in-Some-clause-ok : goal.returns-in-Some-clause-ok
returns-in-Some-clause-ok c =
    on_ok_weaker c.raise_one.result
    (λ raised. changed_here c.args.session c.self.inside.list.items c.deref.result.now c.args.self.now c.deref.ensures.value c.self.view_is (heard_raised c.args.time) c.in-Some.place c.index_mut.result.now c.raise_one.new.ear
    c.in-Some.ensures.place c.index_mut.ensures.value raised)
    c.raise_one.ensures.ok

pub returns-in-Some-clause-told : goal.returns-in-Some-clause-told
returns-in-Some-clause-told c =
    let e = c.index_mut.result.now in
    on_ok_weaker c.raise_one.result
    (λ told. told_found c.args.past.now.history c.args.time c.args.session c.args.sessions.now c.raise_one.new.sessions c.args.self.now (heard_of e)
    (found_here c.args.session c.self.inside.list.items c.deref.result.now c.args.self.now c.deref.ensures.value c.self.view_is c.in-Some.place e c.in-Some.ensures.place c.index_mut.ensures.value) told)
    c.raise_one.ensures.told

pub returns-in-Some-clause-nobody : goal.returns-in-Some-clause-nobody
returns-in-Some-clause-nobody c =
    let e = c.index_mut.result.now in
    on_ok_weaker c.raise_one.result
    (λ raised. subst (λ o. IfNone o (c.raise_one.new.sessions ≡ c.args.sessions.now))
    (found_here c.args.session c.self.inside.list.items c.deref.result.now c.args.self.now c.deref.ensures.value c.self.view_is c.in-Some.place e c.in-Some.ensures.place c.index_mut.ensures.value) tt)
    c.raise_one.ensures.ok

pub returns-in-Some-clause-err : goal.returns-in-Some-clause-err
returns-in-Some-clause-err c =
    on_err_weaker c.raise_one.result
    (λ same. same_here c.args.session c.self.inside.list.items c.deref.result.now c.args.self.now c.deref.ensures.value c.self.view_is c.in-Some.place c.index_mut.result.now c.raise_one.new.ear c.index_mut.ensures.value same)
    c.raise_one.ensures.err

pub returns-in-None-clause-ok : goal.returns-in-None-clause-ok
returns-in-None-clause-ok c = unchanged_here c.args.session c.self.inside.list.items c.deref.result.now c.args.self.now c.deref.ensures.value c.self.view_is (heard_raised c.args.time) c.in-None.ensures.place

pub returns-in-None-clause-told : goal.returns-in-None-clause-told
returns-in-None-clause-told c =
    told_nobody c.args.past.now.history c.args.time c.args.session c.args.sessions.now c.args.sessions.now c.args.self.now
    (none_here c.args.session c.self.inside.list.items c.deref.result.now c.args.self.now c.deref.ensures.value c.self.view_is c.in-None.ensures.place)

pub returns-in-None-clause-nobody : goal.returns-in-None-clause-nobody
returns-in-None-clause-nobody c =
    subst (λ o. IfNone o (c.args.sessions.now ≡ c.args.sessions.now))
    (none_here c.args.session c.self.inside.list.items c.deref.result.now c.args.self.now c.deref.ensures.value c.self.view_is c.in-None.ensures.place) refl
