use Rattle.std.proofs.Common.{None, Some, ◌≡◌, ◌≢◌, ℕ, sym, subst}
use Rattle.std.specs.Prelude.{IfSome}
use Rattle.std.specs.FinMap.{get}
use Rattle.std.proofs.lemmas.Result.{on_err_weaker, on_ok_weaker}
use Rattle.fs_target.specs.Held.{refusal}
use Rattle.fs_sessions.specs.Heard.{Heard, heard_adding}
use Rattle.fs_sessions.proofs.EarPlaces.{changed_here, found_here, same_here, unchanged_here}
use Rattle.fs_sessions.proofs.listeners.Listeners.add_target.Goals as goal

pub add_to-requires-clause-free : goal.add_to-requires-clause-free
add_to-requires-clause-free c =
    subst (λ o. IfSome o (λ (h : Heard). refusal c.args.id h.held ≡ None)) (sym (found_here c.args.session c.self.inside.list.items c.deref.result.now c.args.self.now c.deref.ensures.value c.self.view_is c.in-Some.place c.index_mut.result.now c.in-Some.ensures.place c.index_mut.ensures.value)) c.requires.free

pub add_to-requires-clause-unnumbered : goal.add_to-requires-clause-unnumbered
add_to-requires-clause-unnumbered c =
    subst (λ o. IfSome o (λ (h : Heard). get h.numbers c.args.id ≡ None)) (sym (found_here c.args.session c.self.inside.list.items c.deref.result.now c.args.self.now c.deref.ensures.value c.self.view_is c.in-Some.place c.index_mut.result.now c.in-Some.ensures.place c.index_mut.ensures.value)) c.requires.unnumbered

pub add_to-requires-clause-unused : goal.add_to-requires-clause-unused
add_to-requires-clause-unused c =
    subst (λ o. IfSome o (λ (h : Heard). (other : ℕ) → get h.numbers other ≢ Some c.args.number)) (sym (found_here c.args.session c.self.inside.list.items c.deref.result.now c.args.self.now c.deref.ensures.value c.self.view_is c.in-Some.place c.index_mut.result.now c.in-Some.ensures.place c.index_mut.ensures.value)) c.requires.unused

pub returns-in-Some-clause-ok : goal.returns-in-Some-clause-ok
returns-in-Some-clause-ok c =
    on_ok_weaker c.add_to.result
    (λ added. changed_here c.args.session c.self.inside.list.items c.deref.result.now c.args.self.now c.deref.ensures.value c.self.view_is (heard_adding c.args.id c.args.number c.args.target c.args.token) c.in-Some.place c.index_mut.result.now c.add_to.new.ear c.in-Some.ensures.place
    c.index_mut.ensures.value added)
    c.add_to.ensures.ok

pub returns-in-Some-clause-err : goal.returns-in-Some-clause-err
returns-in-Some-clause-err c =
    on_err_weaker c.add_to.result
    (λ same. same_here c.args.session c.self.inside.list.items c.deref.result.now c.args.self.now c.deref.ensures.value c.self.view_is c.in-Some.place c.index_mut.result.now c.add_to.new.ear c.index_mut.ensures.value same) c.add_to.ensures.err

pub returns-in-None-clause-ok : goal.returns-in-None-clause-ok
returns-in-None-clause-ok c = unchanged_here c.args.session c.self.inside.list.items c.deref.result.now c.args.self.now c.deref.ensures.value c.self.view_is (heard_adding c.args.id c.args.number c.args.target c.args.token) c.in-None.ensures.place
