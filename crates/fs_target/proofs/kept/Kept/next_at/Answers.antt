use Rattle.std.proofs.Common.{◌≡◌, List, Some, map, sym, ap, ◌∙◌, Bor}
use Rattle.std.specs.FinMap.{values}
use Rattle.fs_value.specs.declared.document.Document.{Document}
use Rattle.fs_listen.specs.View.{view}
use Rattle.fs_target.specs.Kept.{docs_at}
use Rattle.fs_target.specs.Latest.{latest_of}
use Rattle.fs_target.specs.Places.{docs_in}
use Rattle.fs_target.specs.Ready.{Ready, cut_at}
use Rattle.fs_target.specs.Staged.{gone_over, up_to}
use Rattle.fs_target.proofs.GoneOver.{named_up, places_up, rising_up}
use Rattle.fs_target.proofs.kept.Kept.next_at.Goals as goal
use Rattle.fs_target.proofs.kept.Kept.next_at.Goals.{After-as_slice}

lent_in : List (Bor Document) → List Document
lent_in lent = map (λ (d : Bor Document). d.now) lent

-- all documents of the time are lent
all_lent : (c : After-as_slice) → lent_in c.as_slice.result.now ≡ values (gone_over (up_to c.args.time c.self.inside.staged.staged) (docs_in c.self.inside.places))
unfolding lent_in
all_lent c =
    let k = c.self.inside in
    ap lent_in c.as_slice.ensures.value
    ∙ c.in_ok-docs.ensures.values (up_to c.args.time k.staged.staged)
    (c.in_ok-latest.ensures ∙ ap (λ (r : Ready). latest_of (up_to c.args.time r.kept.staged)) (sym c.self.view_is))
    (places_up k.places k.staged.staged c.args.time c.self.invariant.0)

pub answered-requires : goal.answered-requires
unfolding lent_in
answered-requires c =
    let k = c.self.inside in
    rising_up k.places k.staged.staged c.args.time c.self.invariant.0 c.in_ok-docs.ensures.named (lent_in c.as_slice.result.now) (all_lent c)

pub returns : goal.returns
unfolding lent_in
returns c =
    let k = c.self.inside in
    let all = gone_over (up_to c.args.time k.staged.staged) (docs_in k.places) in
    ap Some
    (c.in_ok-answered.ensures all (all_lent (goal.at.returns c).After-as_slice) (named_up k.places k.staged.staged c.args.time c.self.invariant.0 c.in_ok-docs.ensures.named)
    ∙ ap (λ t. view t all) (sym c.in-Query.is)
    ∙ ap (λ (r : Ready). view c.args.target.now (docs_at c.args.time r.kept)) c.self.view_is)
    ∙ ap (λ b. cut_at b c.args.time c.args.target.now c.args.self.now.kept) (sym (sym c.is_whole.ensures ∙ c.if-is_whole.false))
