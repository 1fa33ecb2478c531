use Rattle.std.proofs.Common.{◌≡◌, Bool, false, sym, ap, ◌∙◌}
use Rattle.std.specs.Prelude.{◌&&◌}
use Rattle.fs_local.specs.Raise.{all_current}
use Rattle.fs_client.proofs.Walks.{all_in, all_of_tree}
use Rattle.fs_client.proofs.targets.Targets.all_current.Goals as goal

pub returns-then-not-listened : goal.returns-then-not-listened
returns-then-not-listened c =
    let begun = c.into_iter-listened-iterator.ensures.into_iter_gives in
    let first : all_in c.loop-listened.listened-iterator ≡ false = ap all_in c.in-Some.ensures.steps ∙ ap (λ (b : Bool). b && all_in c.next.new.self) c.if-not-listened.true in
    sym first ∙ c.loop-listened.invariant ∙ ap all_in begun.0 ∙ all_of_tree c.self.inside.listened.entries begun.5 ∙ ap all_current c.self.view_is

pub returns : goal.returns
returns c =
    let begun = c.into_iter-listened-iterator.ensures.into_iter_gives in
    sym (ap all_in c.in-None.ensures.steps.0) ∙ c.loop-listened.invariant ∙ ap all_in begun.0 ∙ all_of_tree c.self.inside.listened.entries begun.5 ∙ ap all_current c.self.view_is
