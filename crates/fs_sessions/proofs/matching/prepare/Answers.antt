use Rattle.std.proofs.Common.{◌≡◌, sym, ap, ◌∙◌, subst}
use Rattle.std.specs.List.{AllByRecursion, filter_map}
use Rattle.std.proofs.lemmas.Result.{on_ok_weaker}
use Rattle.fs_target.specs.Prepared.{ArePrepared}
use Rattle.fs_target.specs.Staged.{IsNamed}
use Rattle.fs_sessions.specs.Heard.{Heard, heard_of, picked}
use Rattle.fs_sessions.specs.declared.listeners.Ear.{Ear}
use Rattle.fs_sessions.proofs.Picking.{named_picked}
use Rattle.fs_sessions.proofs.matching.prepare.Goals as goal

pub prepare-requires : goal.prepare-requires
prepare-requires c = record {
  named = subst (AllByRecursion IsNamed) (sym (c.as_slice.ensures.value ∙ c.in_ok-own.ensures)) (named_picked c.args.shard (heard_of c.args.ear.now) c.args.events.now c.requires);
}

pub returns-clause-ok : goal.returns-clause-ok
returns-clause-ok c =
    let e = c.args.ear.now in
    let g : Ear = record e { targets = c.prepare.new.self } in
    let same : heard_of g ≡ heard_of e = λ i. record { session = e.session; held = c.prepare.ensures.same i; numbers = (heard_of e).numbers } in
    on_ok_weaker c.prepare.result
    (λ ready. subst (λ es. ArePrepared c.args.shard es c.prepare.new.self)
    (c.as_slice.ensures.value ∙ c.in_ok-own.ensures ∙ ap (λ (h : Heard). filter_map (picked c.args.shard h) c.args.events.now) (sym same)) ready)
    c.prepare.ensures.ok
