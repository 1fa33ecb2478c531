use Rattle.std.proofs.Common.{ℕ, Option, sym, subst}
use Rattle.std.specs.Prelude.{IsTrue}
use Rattle.std.specs.Option.{option_copied}
use Rattle.fs_locks.specs.Holds.{IsLeastOther}
use Rattle.fs_locks.specs.Shares.{Shares, is_shared}
use Rattle.fs_locks.proofs.Conflicts.{touched_alone, touched_over}
use Rattle.fs_locks.proofs.shared.Shared.first_touched.Goals as goal

pub returns-in-Some : goal.returns-in-Some
returns-in-Some c =
    let n = c.args.name.now in
    let by = c.args.by in
    subst (λ (shares : Shares). IsLeastOther (λ i. IsTrue (is_shared shares i n)) by c.lesser.result) c.self.view_is
    (subst (λ (first : Option ℕ). IsLeastOther (λ i. IsTrue (is_shared c.self.inside.by_id.entries i n)) by first) (sym c.lesser.ensures)
    (touched_over c.self.inside.index c.self.inside.by_id.entries n c.self.invariant.0 (option_copied c.in-Some.path) c.in-Some.id.now c.in-Some.ensures by c.first_at-first.result c.first_over.result c.first_at-first.ensures c.first_over.ensures))

pub returns-in-None : goal.returns-in-None
returns-in-None c =
    let n = c.args.name.now in
    let by = c.args.by in
    subst (λ (shares : Shares). IsLeastOther (λ i. IsTrue (is_shared shares i n)) by c.first_at-first.result) c.self.view_is
    (touched_alone c.self.inside.index c.self.inside.by_id.entries n c.self.invariant.0 by c.first_at-first.result c.in-None.ensures c.first_at-first.ensures)
