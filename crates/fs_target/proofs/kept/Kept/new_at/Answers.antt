use Rattle.std.proofs.Common.{◌≡◌, None, Some, sym, ap, ◌∙◌, subst}
use Rattle.std.specs.FinMap.{get}
use Rattle.std.specs.Option.{option_copied, option_map}
use Rattle.fs_value.specs.declared.document.Document.{Document}
use Rattle.fs_target.specs.Kept.{docs_at}
use Rattle.fs_target.specs.Latest.{latest_of}
use Rattle.fs_target.specs.Places.{docs_in}
use Rattle.fs_target.specs.Ready.{Ready, sent_of}
use Rattle.fs_target.specs.Staged.{gone_over, up_to}
use Rattle.fs_target.proofs.GoneOver.{gone_last}
use Rattle.fs_target.proofs.kept.Kept.new_at.Goals as goal

pub returns-in-Some-get : goal.returns-in-Some-get
returns-in-Some-get c = λ time.
    let k = c.self.inside in
    let latest = c.args.latest.now in
    let name = c.args.name.now in
    let es = up_to time k.staged.staged in
    let docs = docs_in k.places in
    subst (λ (r : Ready). latest ≡ latest_of (up_to time r.kept.staged) → option_copied {T = Document} c.left.result ≡ get (sent_of r.next (docs_at time r.kept)) name) c.self.view_is
    (λ is. c.left.ensures
    ∙ gone_last es docs name latest (Some c.in-Some-get.event.now) is c.in-Some-get.ensures
    ∙ ap (λ o. get (sent_of (option_map docs_in o) (gone_over es docs)) name) (sym c.in-None.is))

pub returns-in-None-get : goal.returns-in-None-get
returns-in-None-get c = λ time.
    let k = c.self.inside in
    let latest = c.args.latest.now in
    let name = c.args.name.now in
    let es = up_to time k.staged.staged in
    let docs = docs_in k.places in
    subst (λ (r : Ready). latest ≡ latest_of (up_to time r.kept.staged) → option_copied {T = Document} c.get-in-None-get.result ≡ get (sent_of r.next (docs_at time r.kept)) name) c.self.view_is
    (λ is. c.get-in-None-get.ensures
    ∙ gone_last es docs name latest None is c.in-None-get.ensures
    ∙ ap (λ o. get (sent_of (option_map docs_in o) (gone_over es docs)) name) (sym c.in-None.is))
