use Rattle.std.proofs.Common.{rules, ◌≡◌, ◌+◌, ◌≤◌, length, Some, sym, ap, ◌∙◌, subst}
use Rattle.fs_board.specs.Board.{HasNo, prepared}
use Rattle.fs_history.specs.Bytes.{batch_size}
use Rattle.fs_past.specs.declared.holds.Holds.{Holds}
use Rattle.fs_past.specs.Kept.{IsKept}
use Rattle.fs_past.proofs.Keeping.{fresh_on_board, kept_held, kept_prepared}
use Rattle.fs_past.proofs.past.Past.prepare.Goals as goal

pub prepare-requires : goal.prepare-requires
prepare-requires c =
    let s = c.self.inside in
    subst (λ id. HasNo id s.board.commits) (sym c.id_of-id.ensures)
    (fresh_on_board s.journal s.board s.holds s.store.stored s.moment s.waiting c.self.invariant c.args.self.now c.self.view_is c.args.commit.batch.id c.requires.fresh)

pub invariant_of-self-2 : goal.invariant_of-self-2
invariant_of-self-2 c =
    let s = c.self.inside in
    let room : length s.board.commits + 1 ≤ c.reserve.new.self.room = search rules in
    let exact : s.waiting + c.bytes_in.result ≡ s.waiting + batch_size c.args.commit.batch = search rules in
    let fresh = fresh_on_board s.journal s.board s.holds s.store.stored s.moment s.waiting c.self.invariant c.args.self.now c.self.view_is c.args.commit.batch.id c.requires.fresh in
    subst (λ (h : Holds). IsKept c.reserve.new.self c.prepare.new.self h s.store.stored s.moment (s.waiting + c.bytes_in.result)) (sym (c.add.ensures ∙ ap (λ id. record c.hold_all.new.self { late = Some id }) c.id_of-id.ensures))
    (subst (λ b. IsKept c.reserve.new.self b (record c.hold_all.new.self { late = Some c.args.commit.batch.id }) s.store.stored s.moment (s.waiting + c.bytes_in.result))
    (sym (c.in_default-prepare.ensures.ok ∙ ap (λ id. prepared s.board id c.args.commit) c.id_of-id.ensures))
    (kept_prepared s.journal s.board s.holds s.store.stored s.moment s.waiting c.self.invariant c.args.self.now c.self.view_is c.reserve.new.self c.in_ok-reserve.ensures.same c.args.commit c.requires.pending c.requires.time c.requires.free c.requires.reads
    fresh room c.hold_all.new.self c.in_ok-hold_all.ensures.none c.in_ok-hold_all.ensures.held (s.waiting + c.bytes_in.result) exact))

pub invariant_of-self-in-Err : goal.invariant_of-self-in-Err
invariant_of-self-in-Err c =
    let s = c.self.inside in
    subst (λ b. IsKept c.reserve.new.self b c.hold_all.new.self s.store.stored s.moment s.waiting) (sym c.in-Err.ensures.err)
    (kept_held s.journal s.board s.holds s.store.stored s.moment s.waiting c.self.invariant c.reserve.new.self c.in_ok-reserve.ensures.same c.in_ok-reserve.ensures.room c.hold_all.new.self c.in_ok-hold_all.ensures.held)
