use Rattle.std.proofs.Common.{◌≡◌, true, cond, [], ◌∷◌, refl, sym, ap, ◌∙◌, Bor}
use Rattle.std.specs.FinMap.{insert}
use Rattle.std.specs.Ordering.{int_cmp}
use Rattle.std.specs.Prelude.{int_le}
use Rattle.fs_target.specs.Latest.{with_latest}
use Rattle.fs_target.specs.declared.event.TimedEvent.{TimedEvent}
use Rattle.fs_target.proofs.InOrder.{not_before}
use Rattle.fs_target.proofs.Lent.{seen, seen_insert}
use Rattle.fs_target.proofs.latest.note.Goals as goal

pub returns : goal.returns
returns c =
    let see = λ (b : Bor TimedEvent). b.now in
    let event = c.args.event.now in
    let old = seen see c.args.events.now.entries in
    let up : int_le event.time c.args.time ≡ true = not_before c.args.time event.time (int_cmp c.args.time event.time) refl (sym c.lt.ensures ∙ c.if-lt.false) in
    seen_insert see c.args.events.now.entries c.insert.new.self.entries c.in_ok-copy.field-0 c.args.event c.in_ok-insert.ensures.updates.0
    ∙ ap (λ n. insert old n event) c.in_ok-copy.ensures
    ∙ ap (λ b. with_latest (cond b (event ∷ []) []) old) (sym up)
