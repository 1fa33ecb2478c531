use Rattle.std.proofs.Common.{rules, ◌≡◌, ◌<ℤ◌, ◌≤ℤ◌, ℤ, pos, true, sym, ap, ◌∙◌, subst, arith}
use Rattle.std.specs.Prelude.{◌-ℤ◌}
use Rattle.std.specs.List.{All}
use Rattle.std.proofs.lemmas.Int.{ints}
use Rattle.fs_time.specs.Moment.{first_moment, IsMoment}
use Rattle.fs_board.specs.Board.{Commit, Posted, is_pending}
use Rattle.fs_board.specs.Board.{posted}
use Rattle.fs_board.specs.Held.{first_pending_in}
use Rattle.fs_board.specs.Rising.{RiseTo}
use Rattle.fs_board.proofs.Releasing.{before, free_before, free_within, free_above, among}
use Rattle.fs_board.proofs.board.Board.released.Goals as goal

one_before : (t : ℤ) → IsMoment t → first_moment <ℤ t → IsMoment (t -ℤ pos 1)
one_before t is late = grind (arith, ints)

pub unwrap-requires : goal.unwrap-requires
unwrap-requires g c =
    let cs = posted c.self.inside.by_time.entries in
    let late : first_moment <ℤ c.get.result =
    subst (λ t. first_moment <ℤ t) (sym c.get.ensures.value) (among (λ t. first_moment <ℤ t) cs c.in-Some.first c.self.invariant.late (ap (λ (p : Posted g.row.A.Denot g.row.B.Denot). first_pending_in p.commits) c.self.view_is ∙ sym c.first_pending.ensures ∙ c.in-Some.is)) in
    let moment = one_before c.get.result (subst IsMoment (sym c.get.ensures.value) c.get.ensures.range) late in
    search rules

pub returns-in-Some-clause-value : goal.returns-in-Some-clause-value
returns-in-Some-clause-value g c =
    let value : c.unwrap.result ≡ c.get.result -ℤ pos 1 = search rules in
    value ∙ ap (λ t. t -ℤ pos 1) c.get.ensures.value
    ∙ sym (free_before c.args.self.now.commits c.args.self.now.last ∙ ap (before c.args.self.now.last) (sym c.first_pending.ensures ∙ c.in-Some.is))

pub returns-in-Some-clause-within : goal.returns-in-Some-clause-within
returns-in-Some-clause-within g c =
    let rise : RiseTo c.args.self.now.last c.args.self.now.commits = subst (λ (p : Posted g.row.A.Denot g.row.B.Denot). RiseTo p.last p.commits) c.self.view_is c.self.invariant.rise in
    subst (λ t. t ≤ℤ c.args.self.now.last) (sym (returns-in-Some-clause-value g c)) (free_within c.args.self.now.commits c.args.self.now.last rise)

pub returns-in-Some-clause-above : goal.returns-in-Some-clause-above
returns-in-Some-clause-above g c =
    let rise : RiseTo c.args.self.now.last c.args.self.now.commits = subst (λ (p : Posted g.row.A.Denot g.row.B.Denot). RiseTo p.last p.commits) c.self.view_is c.self.invariant.rise in
    subst (λ t. All (λ (d : Commit g.row.A.Denot g.row.B.Denot). is_pending d ≡ true → t <ℤ d.time) c.args.self.now.commits) (sym (returns-in-Some-clause-value g c))
    (free_above c.args.self.now.commits c.args.self.now.last rise)

pub returns-in-None-clause-value : goal.returns-in-None-clause-value
returns-in-None-clause-value g c =
    ap (λ (p : Posted g.row.A.Denot g.row.B.Denot). p.last) c.self.view_is
    ∙ sym (free_before c.args.self.now.commits c.args.self.now.last ∙ ap (before c.args.self.now.last) (sym c.first_pending.ensures ∙ c.in-None.is))

pub returns-in-None-clause-above : goal.returns-in-None-clause-above
returns-in-None-clause-above g c =
    let rise : RiseTo c.args.self.now.last c.args.self.now.commits = subst (λ (p : Posted g.row.A.Denot g.row.B.Denot). RiseTo p.last p.commits) c.self.view_is c.self.invariant.rise in
    subst (λ t. All (λ (d : Commit g.row.A.Denot g.row.B.Denot). is_pending d ≡ true → t <ℤ d.time) c.args.self.now.commits) (sym (returns-in-None-clause-value g c))
    (free_above c.args.self.now.commits c.args.self.now.last rise)
