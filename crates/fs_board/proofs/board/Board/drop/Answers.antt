use Rattle.std.proofs.Common.{◌≡◌, true, sym, ap, ◌∙◌, subst}
use Rattle.std.specs.Prelude.{is_some}
use Rattle.fs_board.specs.Board.{Posted, asked_in, pending_in, without, posted}
use Rattle.fs_board.specs.Held.{IsKept}
use Rattle.fs_board.proofs.Places.{asked_there, has_time, dropped_there, found_there}
use Rattle.fs_board.proofs.Keeping.{kept_without}
use Rattle.fs_board.proofs.board.Board.drop.Goals as goal

pub unwrap-time-requires : goal.unwrap-time-requires
unwrap-time-requires g c =
    let cs = posted c.self.inside.by_time.entries in
    subst (λ o. is_some o ≡ true) (sym (c.remove.ensures.value ∙ c.self.invariant.stand c.args.id))
    (has_time cs c.args.id (ap (λ (p : Posted g.row.A.Denot g.row.B.Denot). pending_in c.args.id p.commits) c.self.view_is ∙ c.requires))

pub unwrap-requires : goal.unwrap-requires
unwrap-requires g c =
    let es = c.self.inside.by_time.entries in
    let is = sym (c.self.invariant.stand c.args.id) ∙ sym c.remove.ensures.value ∙ c.unwrap-time.ensures in
    subst (λ o. is_some o ≡ true) (sym c.remove-2.ensures.value) (found_there es c.args.id c.unwrap-time.result c.self.inside.last c.self.invariant.rise is)

pub returns-clause-value : goal.returns-clause-value
returns-clause-value g c =
    let es = c.self.inside.by_time.entries in
    let is = sym (c.self.invariant.stand c.args.id) ∙ sym c.remove.ensures.value ∙ c.unwrap-time.ensures in
    sym (asked_there es c.args.id c.unwrap-time.result c.self.inside.last c.unwrap.result c.self.invariant.rise is (sym c.remove-2.ensures.value ∙ c.unwrap.ensures))
    ∙ ap (λ (p : Posted g.row.A.Denot g.row.B.Denot). asked_in c.args.id p.commits) c.self.view_is

pub invariant_of-self : goal.invariant_of-self
invariant_of-self g c =
    let es = c.self.inside.by_time.entries in
    let id = c.args.id in
    let is = sym (c.self.invariant.stand id) ∙ sym c.remove.ensures.value ∙ c.unwrap-time.ensures in
    subst (λ cs. IsKept cs c.remove.new.self.entries c.self.inside.last)
    (sym (ap posted c.remove-2.ensures.entries ∙ dropped_there es id c.unwrap-time.result c.self.inside.last c.self.invariant.rise is))
    (kept_without (posted es) c.self.inside.times.entries c.remove.new.self.entries c.self.inside.last id c.remove.ensures.updates.0 c.self.invariant)

pub returns-clause-rest : goal.returns-clause-rest
returns-clause-rest g c =
    let es = c.self.inside.by_time.entries in
    let id = c.args.id in
    let is = sym (c.self.invariant.stand id) ∙ sym c.remove.ensures.value ∙ c.unwrap-time.ensures in
    ap (λ cs. record { commits = cs; last = c.self.inside.last }) (ap posted c.remove-2.ensures.entries ∙ dropped_there es id c.unwrap-time.result c.self.inside.last c.self.invariant.rise is)
    ∙ ap (λ (p : Posted g.row.A.Denot g.row.B.Denot). record { commits = without id p.commits; last = p.last }) c.self.view_is
