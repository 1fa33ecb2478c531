use Rattle.std.proofs.Common.{◌≡◌, Some, sym, ap, ◌∙◌, subst}
use Rattle.std.specs.Option.{option_copied}
use Rattle.fs_path.specs.Cursor.{rest_segments}
use Rattle.fs_path.specs.Segment.{segments}
use Rattle.fs_locks.specs.Spots.{under}
use Rattle.fs_locks.specs.Tree.{has}
use Rattle.fs_locks.proofs.Above.{Passed, found_at_root, found_here, passed_more, passed_none}
use Rattle.fs_locks.proofs.Cuts.{text_again}
use Rattle.fs_locks.proofs.parents.Parents.has_above.Goals as goal

pub loop-rest-init : goal.loop-rest-init
loop-rest-init c = passed_none c.args.self.now c.args.id (rest_segments (option_copied c.args.path))

pub loop-rest-preserved : goal.loop-rest-preserved
loop-rest-preserved c =
    let parents = c.args.self.now in
    let id = c.args.id in
    let ids = rest_segments (option_copied c.args.path) in
    let text = c.in-Some.text.now in
    let at : option_copied c.loop-rest.rest ≡ Some text = ap option_copied c.in-Some.is in
    let free = ap (λ t. has id (under parents t)) (text_again (Some text)) ∙ sym c.has.ensures ∙ c.if-has.false in
    passed_more parents id ids (segments text) (rest_segments (option_copied c.parent_of.result.0)) c.parent_of.result.1.now c.parent_of.ensures.parts
    (subst (λ t. Passed parents id ids (rest_segments t)) at c.loop-rest.invariant) free

pub returns-then-has : goal.returns-then-has
returns-then-has c =
    let parents = c.args.self.now in
    let id = c.args.id in
    let ids = rest_segments (option_copied c.args.path) in
    let text = c.in-Some.text.now in
    let at : option_copied c.loop-rest.rest ≡ Some text = ap option_copied c.in-Some.is in
    found_here parents id ids (segments text) (subst (λ t. Passed parents id ids (rest_segments t)) at c.loop-rest.invariant)
    (ap (λ t. has id (under parents t)) (text_again (Some text)) ∙ sym c.has.ensures ∙ c.if-has.true)

pub returns : goal.returns
returns c =
    let ids = rest_segments (option_copied c.args.path) in
    found_at_root c.args.self.now c.args.id ids c.has-2.result (subst (λ t. Passed c.args.self.now c.args.id ids (rest_segments t)) (ap option_copied c.in_default.is) c.loop-rest.invariant) c.has-2.ensures
