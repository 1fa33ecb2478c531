use Rattle.std.proofs.Common.{sym, ap, ◌∙◌}
use Rattle.std.specs.Option.{option_copied}
use Rattle.fs_locks.specs.Shares.{Shares, is_shared}
use Rattle.fs_locks.proofs.Conflicts.{alone, by_scope, from_name}
use Rattle.fs_locks.proofs.shared.Shared.is_touched.Goals as goal

pub returns-then-is_held : goal.returns-then-is_held
returns-then-is_held c =
    let s = c.self.inside in
    let n = c.args.name.now in
    sym (from_name s.index s.by_id.entries n c.self.invariant.0 c.args.id (sym c.is_held.ensures ∙ c.if-is_held.true)) ∙ ap (λ (shares : Shares). is_shared shares c.args.id n) c.self.view_is

pub returns-in-Some : goal.returns-in-Some
returns-in-Some c =
    let s = c.self.inside in
    let n = c.args.name.now in
    by_scope s.index s.by_id.entries n c.self.invariant.0 (option_copied c.in-Some.path) c.in-Some.last.now c.in-Some.ensures c.args.id c.has_over.result (sym c.is_held.ensures ∙ c.if-is_held.false) c.has_over.ensures
    ∙ ap (λ (shares : Shares). is_shared shares c.args.id n) c.self.view_is

pub returns-in-None : goal.returns-in-None
returns-in-None c =
    let s = c.self.inside in
    let n = c.args.name.now in
    sym (sym c.is_held.ensures ∙ c.if-is_held.false)
    ∙ alone s.index s.by_id.entries n c.self.invariant.0 c.in-None.ensures c.args.id
    ∙ ap (λ (shares : Shares). is_shared shares c.args.id n) c.self.view_is
