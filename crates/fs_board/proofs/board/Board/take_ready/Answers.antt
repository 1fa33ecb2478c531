use Rattle.std.proofs.Common.{◌≡◌, ◌≤ℤ◌, ◌∷◌, false, sym, ap, subst}
use Rattle.std.specs.Prelude.{is_none, IfSome}
use Rattle.std.specs.List.{All}
use Rattle.fs_board.specs.Board.{Posted, free_to, is_ready, commit_at, posted}
use Rattle.fs_board.specs.Held.{IsKept}
use Rattle.fs_board.specs.Rising.{RiseTo}
use Rattle.fs_board.proofs.Keeping.{kept_behind}
use Rattle.fs_board.proofs.Releasing.{ready_within, one_ready}
use Rattle.fs_board.proofs.board.Board.take_ready.Goals as goal

pub invariant_of-self : goal.invariant_of-self
invariant_of-self g c =
    let es = c.self.inside.by_time.entries in
    let rest = c.pop_first.new.self.entries in
    let first : es ≡ c.unwrap-time.result ∷ rest = subst (λ o. IfSome o (λ p. es ≡ p ∷ rest)) c.unwrap-time.ensures c.pop_first.ensures.removal in
    kept_behind (commit_at c.unwrap-time.result) (posted rest) c.self.inside.times.entries c.remove.new.self.entries c.self.inside.last c.remove.ensures.updates.0
    (subst (λ fs. IsKept (posted fs) c.self.inside.times.entries c.self.inside.last) first c.self.invariant)

pub returns-clause-within : goal.returns-clause-within
returns-clause-within g c =
    let es = c.self.inside.by_time.entries in
    let rest = c.pop_first.new.self.entries in
    let last = c.self.inside.last in
    let first : es ≡ c.unwrap-time.result ∷ rest = subst (λ o. IfSome o (λ p. es ≡ p ∷ rest)) c.unwrap-time.ensures c.pop_first.ensures.removal in
    subst (λ (p : Posted g.row.A.Denot g.row.B.Denot). c.unwrap-time.result.0 ≤ℤ free_to p.last p.commits) c.self.view_is
    (subst (λ fs. c.unwrap-time.result.0 ≤ℤ free_to last (posted fs)) (sym first)
    (ready_within (commit_at c.unwrap-time.result) (posted rest) last (subst (λ fs. RiseTo last (posted fs)) first c.self.invariant.rise) (ap is_none c.in-Some.is)))

pub returns-clause-none : goal.returns-clause-none
returns-clause-none g c =
    let es = c.self.inside.by_time.entries in
    let rest = c.pop_first.new.self.entries in
    let last = c.self.inside.last in
    let first : es ≡ c.unwrap-time.result ∷ rest = subst (λ o. IfSome o (λ p. es ≡ p ∷ rest)) c.unwrap-time.ensures c.pop_first.ensures.removal in (
      λ not. absurd (cc),
      λ none. one_ready (commit_at c.unwrap-time.result) (posted rest) last (subst (λ fs. RiseTo last (posted fs)) first c.self.invariant.rise) (ap is_none c.in-Some.is)
          (subst (λ fs. All (λ d. is_ready (free_to last (posted fs)) d ≡ false) (posted fs)) first
          (subst (λ (p : Posted g.row.A.Denot g.row.B.Denot). All (λ d. is_ready (free_to p.last p.commits) d ≡ false) p.commits) (sym c.self.view_is) none)),
    )
