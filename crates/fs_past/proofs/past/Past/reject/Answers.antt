use Rattle.std.proofs.Common.{◌+◌, sym, ap, ◌∙◌, subst}
use Rattle.std.specs.Prelude.{IsSome}
use Rattle.fs_board.specs.Board.{Posted}
use Rattle.fs_history.specs.Bytes.{batch_size}
use Rattle.fs_machine.specs.Past.{Past}
use Rattle.fs_machine.specs.Settle.{dropped_from, pending_of}
use Rattle.fs_machine.specs.declared.unreleased.Unreleased.{Unreleased}
use Rattle.fs_past.specs.declared.accepted.Accepted.{Accepted}
use Rattle.fs_past.specs.Kept.{IsKept, bytes_of, past_of}
use Rattle.fs_past.proofs.Keeping.{after_reject, bytes_but, kept_dropped, pending_on_board}
use Rattle.fs_past.proofs.past.Past.reject.Goals as goal

pub drop-gone-requires : goal.drop-gone-requires
drop-gone-requires c =
    let s = c.self.inside in
    pending_on_board s.journal s.board s.holds s.store.stored s.moment s.waiting c.self.invariant c.ids_differ.ensures c.args.id (subst (λ p. IsSome (pending_of p c.args.id)) (sym c.self.view_is) c.requires)

pub bytes_left-self-inside-requires : goal.bytes_left-self-inside-requires
bytes_left-self-inside-requires c =
    let s = c.self.inside in
    let pending = pending_on_board s.journal s.board s.holds s.store.stored s.moment s.waiting c.self.invariant c.ids_differ.ensures c.args.id (subst (λ p. IsSome (pending_of p c.args.id)) (sym c.self.view_is) c.requires) in
    bytes_but s.journal s.board s.holds s.store.stored s.moment s.waiting c.self.invariant c.args.id c.drop-gone.result c.drop-gone.ensures.value pending
    ∙ ap (λ (b : Posted Unreleased Accepted). batch_size c.drop-gone.result.batch + bytes_of b.commits) (sym c.drop-gone.ensures.rest)

pub invariant_of-self : goal.invariant_of-self
invariant_of-self c =
    let s = c.self.inside in
    let pending = pending_on_board s.journal s.board s.holds s.store.stored s.moment s.waiting c.self.invariant c.ids_differ.ensures c.args.id (subst (λ p. IsSome (pending_of p c.args.id)) (sym c.self.view_is) c.requires) in
    let rest = ap (λ (b : Posted Unreleased Accepted). bytes_of b.commits) c.drop-gone.ensures.rest in
    subst (λ b. IsKept s.journal b c.release.new.self s.store.stored s.moment c.bytes_left-self-inside.result) (sym c.drop-gone.ensures.rest)
    (kept_dropped s.journal s.board s.holds s.store.stored s.moment s.waiting c.self.invariant c.args.id c.drop-gone.result c.drop-gone.ensures.value pending
    c.release.new.self c.release.ensures c.ids_differ.ensures c.bytes_left-self-inside.result (c.bytes_left-self-inside.ensures ∙ rest))

pub returns : goal.returns
returns c =
    let s = c.self.inside in
    let pending = pending_on_board s.journal s.board s.holds s.store.stored s.moment s.waiting c.self.invariant c.ids_differ.ensures c.args.id (subst (λ p. IsSome (pending_of p c.args.id)) (sym c.self.view_is) c.requires) in
    ap (λ b. past_of s.journal.history b s.store.stored s.moment) c.drop-gone.ensures.rest
    ∙ after_reject s.journal s.board s.holds s.store.stored s.moment s.waiting c.self.invariant c.args.id c.drop-gone.result c.drop-gone.ensures.value pending
    ∙ ap (λ (p : Past). record p { unreleased = dropped_from c.args.id p.unreleased }) c.self.view_is
