use Rattle.std.proofs.Common.{rules, ◌≡◌, None, Some, sym, ap, ◌∙◌}
use Rattle.std.specs.Prelude.{unwrap_or}
use Rattle.fs_machine.specs.Load.{load_refusal}
use Rattle.fs_machine.specs.State.{Machine}
use Rattle.fs_server.proofs.Leading.{may_load, state_loading}
use Rattle.fs_server.proofs.server.Server.loaded.Goals as goal

pub load_free-requires : goal.load_free-requires
load_free-requires c =
    let m = c.args.self.now in
    let none : None ≡ load_refusal m c.args.session c.args.target c.args.at = search rules in
    let asks = c.time_or-time.ensures ∙ ap (unwrap_or c.args.at) (c.released.ensures.value ∙ ap (λ (k : Machine). k.past.released) c.self.view_is) in
    may_load m c.stand.ensures.facts c.args.session c.args.target c.args.at c.time_or-time.result asks (sym (c.in-Some-false.is ∙ ap Some c.in-Some-false.field-0-test) ∙ c.is_loaded.ensures) none

pub returns-in_ok-load_free-in-Some-false-clause-state : goal.returns-in_ok-load_free-in-Some-false-clause-state
returns-in_ok-load_free-in-Some-false-clause-state c =
    let m = c.args.self.now in
    let none : None ≡ load_refusal m c.args.session c.args.target c.args.at = search rules in
    let asks = c.time_or-time.ensures ∙ ap (unwrap_or c.args.at) (c.released.ensures.value ∙ ap (λ (k : Machine). k.past.released) c.self.view_is) in
    state_loading m c.args.session c.args.target c.args.at (sym (c.in-Some-false.is ∙ ap Some c.in-Some-false.field-0-test) ∙ c.is_loaded.ensures) none
    c.load_free.new.self c.time_or-time.result asks c.in_ok-load_free-in-Some-false.ensures.ok
