use Rattle.std.proofs.Common.{ℕ, Option, inl, inr, sym, subst}
use Rattle.std.specs.Prelude.{IsTrue}
use Rattle.std.specs.Option.{option_copied}
use Rattle.fs_path.specs.Cursor.{rest_segments}
use Rattle.fs_locks.specs.Holds.{IsLeastOther}
use Rattle.fs_locks.specs.Spots.{StandsAbove, StandsOver, in_scopes}
use Rattle.fs_locks.proofs.Ids.{least_both}
use Rattle.fs_locks.proofs.index.Index.first_over.Goals as goal

pub returns : goal.returns
returns c =
    let index = c.args.self.now in
    let path = option_copied c.args.path in
    let id = c.args.id.now in
    subst (λ (first : Option ℕ). IsLeastOther (StandsOver index path id) c.args.by first) (sym c.lesser.ensures)
    (least_both (λ i. IsTrue (in_scopes index.collections id path i)) (StandsAbove index.groups id (rest_segments path)) (StandsOver index path id)
    (λ i h. inl h) (λ i h. inr h) (λ i Z h f g. elim h [ inl p ↦ f p | inr q ↦ g q ]) c.args.by c.first_at-right_below.result c.first_above.result c.first_at-right_below.ensures c.first_above.ensures)
