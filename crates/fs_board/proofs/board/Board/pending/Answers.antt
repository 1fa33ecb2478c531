use Rattle.std.proofs.Common.{◌≡◌, Bool, true, false, cond, Option, Some, None, refl, sym, ap, ◌∙◌}
use Rattle.std.specs.Prelude.{is_none, is_some, not}
use Rattle.std.specs.Option.{option_copied}
use Rattle.fs_board.proofs.Places.{asked_pending_by, pending_entry}
use Rattle.fs_board.proofs.board.Board.pending.Goals as goal
use Rattle.fs_board.proofs.board.Board.pending.Goals.{in_default-via-in-Some+else-is_none, in_default-via-in_default}

told : {A X : Type 0} (o : Option X) (a : A) (b : Bool) → is_some o ≡ not b → cond (is_none o) (Some a) None ≡ cond b (Some a) None
told None a true e = refl
told None a false e = absurd (cc)
told (Some x) a true e = absurd (cc)
told (Some x) a false e = refl

pub returns-in-Some : goal.returns-in-Some
returns-in-Some g c =
    let e = c.in-Some.entry.now in
    sym (
    asked_pending_by c.args.self.now.commits c.args.id ∙ ap pending_entry (sym c.entry.ensures ∙ ap option_copied c.in-Some.is)
    ∙ told e.batch e.asked c.is_none.result c.is_none.ensures ∙ ap (λ b. cond b (Some e.asked) None) c.if-is_none.true)

pub returns-in_default : goal.returns-in_default
returns-in_default g c = elim c.in_default.branch [
  | in_default-via-in-Some+else-is_none w ↦
      let e = w.in-Some.entry.now in
      sym (
      asked_pending_by c.args.self.now.commits c.args.id ∙ ap pending_entry (sym c.entry.ensures ∙ ap option_copied w.in-Some.is)
      ∙ told e.batch e.asked w.is_none.result w.is_none.ensures ∙ ap (λ b. cond b (Some e.asked) None) w.if-is_none.false)
  | in_default-via-in_default w ↦ sym (asked_pending_by c.args.self.now.commits c.args.id ∙ ap pending_entry (sym c.entry.ensures ∙ ap option_copied w.in_default.is))
]
