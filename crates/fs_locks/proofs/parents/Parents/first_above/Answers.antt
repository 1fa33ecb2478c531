use Rattle.std.proofs.Common.{ℕ, [], Option, Some, sym, ap, subst}
use Rattle.std.specs.Prelude.{◌≡◌, IsTrue}
use Rattle.std.specs.Option.{option_copied}
use Rattle.fs_path.specs.Cursor.{rest_segments}
use Rattle.fs_path.specs.Segment.{segments}
use Rattle.fs_locks.specs.Holds.{IsLeastOther}
use Rattle.fs_locks.specs.Spots.{HoldsAbove, under}
use Rattle.fs_locks.specs.Tree.{has}
use Rattle.fs_locks.proofs.Above.{Climbed, climbed_here, climbed_more}
use Rattle.fs_locks.proofs.Cuts.{text_again}
use Rattle.fs_locks.proofs.parents.Parents.first_above.Goals as goal

pub loop-rest-preserved : goal.loop-rest-preserved
loop-rest-preserved c =
    let parents = c.args.self.now in
    let by = c.args.by in
    let ids = rest_segments (option_copied c.args.path) in
    let text = c.in-Some.text.now in
    let at : option_copied c.loop-rest.rest ≡ Some text = ap option_copied c.in-Some.is in
    subst (λ (first : Option ℕ). Climbed parents by ids (rest_segments (option_copied c.parent_of.result.0)) first) (sym c.lesser-first.ensures)
    (climbed_more parents by ids (segments text) (rest_segments (option_copied c.parent_of.result.0)) c.parent_of.result.1.now c.loop-rest.first c.first_at.result c.parent_of.ensures.parts
    (subst (λ t. Climbed parents by ids (rest_segments t) c.loop-rest.first) at c.loop-rest.invariant)
    (subst (λ t. IsLeastOther (λ i. IsTrue (has i (under parents t))) by c.first_at.result) (sym (text_again (Some text))) c.first_at.ensures))

pub returns : goal.returns
returns c =
    let parents = c.args.self.now in
    let by = c.args.by in
    let ids = rest_segments (option_copied c.args.path) in
    subst (λ (first : Option ℕ). IsLeastOther (HoldsAbove parents ids 0) by first) (sym c.lesser.ensures)
    (climbed_here parents by ids [] c.loop-rest.first c.first_at-2.result
    (subst (λ t. Climbed parents by ids (rest_segments t) c.loop-rest.first) (ap option_copied c.in_default.is) c.loop-rest.invariant) c.first_at-2.ensures)
