use Rattle.std.proofs.Common.{◌≡◌, Bool, true, false, Option, Some, None, refl, sym, ap, ◌∙◌}
use Rattle.std.specs.Prelude.{is_some, is_none, not}
use Rattle.std.specs.Option.{option_copied, option_map_or}
use Rattle.fs_board.specs.declared.entry.Entry.{Entry}
use Rattle.fs_board.proofs.Places.{pending_by}
use Rattle.fs_board.proofs.board.Board.is_pending.Goals as goal

not_some : {X : Type 0} (o : Option X) (b : Bool) → is_some o ≡ not b → b ≡ is_none o
not_some None true e = refl
not_some None false e = absurd (cc)
not_some (Some x) true e = absurd (cc)
not_some (Some x) false e = refl

pub returns-in-Some : goal.returns-in-Some
returns-in-Some g c =
    not_some c.in-Some.entry.now.batch c.is_none.result c.is_none.ensures
    ∙ sym (pending_by c.args.self.now.commits c.args.id ∙ ap (λ o. option_map_or (λ (e : Entry g.row.A.Denot g.row.B.Denot). is_none e.batch) o false) (sym c.entry.ensures ∙ ap option_copied c.in-Some.is))

pub returns-in-None : goal.returns-in-None
returns-in-None g c =
    sym (pending_by c.args.self.now.commits c.args.id ∙ ap (λ o. option_map_or (λ (e : Entry g.row.A.Denot g.row.B.Denot). is_none e.batch) o false) (sym c.entry.ensures ∙ ap option_copied c.in-None.is))
