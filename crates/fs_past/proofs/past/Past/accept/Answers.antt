use Rattle.std.proofs.Common.{◌≡◌, Some, sym, ap, ◌∙◌, subst}
use Rattle.std.specs.Option.{option_copied}
use Rattle.fs_board.specs.Board.{asked_in}
use Rattle.fs_machine.specs.declared.answer.Outcome.TheVariants as outcome
use Rattle.fs_machine.specs.Past.{Past}
use Rattle.fs_machine.specs.Settle.{ComesTo, accepted_in}
use Rattle.fs_past.specs.Kept.{past_of, IsKept}
use Rattle.fs_past.proofs.Keeping.{after_accept, comes_pending, found_held, kept_accepted, lent_there, pending_on_board}
use Rattle.fs_past.proofs.past.Past.accept.Goals as goal

pub accept-requires : goal.accept-requires
accept-requires c =
    let s = c.self.inside in
    let differ = c.ids_differ.ensures in
    pending_on_board s.journal s.board s.holds s.store.stored s.moment s.waiting c.self.invariant differ c.args.id
    (comes_pending s.journal s.board s.holds s.store.stored s.moment s.waiting c.self.invariant c.args.id (outcome.Effects c.args.changes c.args.results)
    (subst (λ p. ComesTo p c.args.id (outcome.Effects c.args.changes c.args.results)) (sym c.self.view_is) c.requires))

pub unwrap-requires : goal.unwrap-requires
unwrap-requires c =
    let s = c.self.inside in
    let differ = c.ids_differ.ensures in
    lent_there s.journal s.board s.holds s.store.stored s.moment s.waiting c.self.invariant differ c.args.id
    (comes_pending s.journal s.board s.holds s.store.stored s.moment s.waiting c.self.invariant c.args.id (outcome.Effects c.args.changes c.args.results)
    (subst (λ p. ComesTo p c.args.id (outcome.Effects c.args.changes c.args.results)) (sym c.self.view_is) c.requires))
    c.asked.result c.asked.ensures

pub invariant_of-self : goal.invariant_of-self
invariant_of-self c =
    let s = c.self.inside in
    let differ = c.ids_differ.ensures in
    let pending =
    pending_on_board s.journal s.board s.holds s.store.stored s.moment s.waiting c.self.invariant differ c.args.id
    (comes_pending s.journal s.board s.holds s.store.stored s.moment s.waiting c.self.invariant c.args.id (outcome.Effects c.args.changes c.args.results)
    (subst (λ p. ComesTo p c.args.id (outcome.Effects c.args.changes c.args.results)) (sym c.self.view_is) c.requires))
    in
    let at : asked_in c.args.id s.board.commits ≡ Some c.unwrap.result.now = sym c.asked.ensures ∙ ap option_copied c.unwrap.ensures in
    let found = found_held s.journal s.board s.holds s.store.stored s.moment s.waiting c.self.invariant differ c.args.id c.unwrap.result.now at pending in
    subst (λ b. IsKept s.journal b s.holds s.store.stored s.moment s.waiting) (sym c.accept.ensures)
    (kept_accepted s.journal s.board s.holds s.store.stored s.moment s.waiting c.self.invariant c.args.id c.unwrap.result.now found at pending c.time-time.result c.time-time.ensures c.args.changes c.args.results
    (subst (λ p. ComesTo p c.args.id (outcome.Effects c.args.changes c.args.results)) (sym c.self.view_is) c.requires))

pub returns : goal.returns
returns c =
    let s = c.self.inside in
    let differ = c.ids_differ.ensures in
    let pending =
    pending_on_board s.journal s.board s.holds s.store.stored s.moment s.waiting c.self.invariant differ c.args.id
    (comes_pending s.journal s.board s.holds s.store.stored s.moment s.waiting c.self.invariant c.args.id (outcome.Effects c.args.changes c.args.results)
    (subst (λ p. ComesTo p c.args.id (outcome.Effects c.args.changes c.args.results)) (sym c.self.view_is) c.requires))
    in
    let at : asked_in c.args.id s.board.commits ≡ Some c.unwrap.result.now = sym c.asked.ensures ∙ ap option_copied c.unwrap.ensures in
    let found = found_held s.journal s.board s.holds s.store.stored s.moment s.waiting c.self.invariant differ c.args.id c.unwrap.result.now at pending in
    ap (λ b. past_of s.journal.history b s.store.stored s.moment) c.accept.ensures
    ∙ after_accept s.journal s.board s.holds s.store.stored s.moment s.waiting c.self.invariant c.args.id c.unwrap.result.now found at pending c.time-time.result c.time-time.ensures c.args.changes c.args.results
    ∙ ap (λ (p : Past). record p { unreleased = accepted_in c.args.id c.args.results p.unreleased }) c.self.view_is
