use Rattle.std.proofs.Common.{◌≡◌, Some, sym, ap, ◌∙◌, subst}
use Rattle.std.specs.Option.{option_copied}
use Rattle.std.proofs.lemmas.Result.{IfOk-weaker}
use Rattle.fs_machine.specs.Past.{Past}
use Rattle.fs_machine.specs.Settle.{ComesTo, pending_of}
use Rattle.fs_past.specs.Kept.{past_of}
use Rattle.fs_past.proofs.Keeping.{comes_by}
use Rattle.fs_past.proofs.past.Past.outcome.Goals as goal

pub returns : goal.returns
returns c =
    let s = c.self.inside in
    let id = c.args.id in
    let found : pending_of (past_of s.journal.history s.board s.store.stored s.moment) id ≡ Some c.in-Some.commit.now =
    ap (λ (p : Past). pending_of p id) c.self.view_is ∙ sym c.commit.ensures ∙ ap option_copied c.in-Some.is in
    IfOk-weaker c.outcome_among.result _ _
    (λ o so. subst (λ p. ComesTo p id o) c.self.view_is (comes_by s.journal s.board s.holds s.store.stored s.moment s.waiting c.self.invariant id c.in-Some.commit.now o found (so s.journal.history c.self.invariant.shows)))
    c.outcome_among.ensures
