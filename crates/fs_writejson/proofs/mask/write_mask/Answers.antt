use Rattle.std.proofs.Common.{◌≡◌, [], sym, ap, subst, ◌∙◌, true≢false}
use Rattle.std.specs.List.{AllByRecursion}
use Rattle.serde_json.specs.Data.{no_members}
use Rattle.serde_json.specs.View.{members_view}
use Rattle.serde_json.specs.Written.{has_float}
use Rattle.serde_json.proofs.Views.{view-Array, view-Object}
use Rattle.fs_json.specs.Paths.{IsPathHeld}
use Rattle.fs_writejson.specs.Mask.{mask_at}
use Rattle.fs_writejson.proofs.Again.{mask_again}
use Rattle.fs_writejson.proofs.Floats.{mask_float}
use Rattle.fs_writejson.proofs.Put.{paths_put}
use Rattle.fs_writejson.proofs.mask.write_mask.Goals as goal

pub returns-clause-value : goal.returns-clause-value
returns-clause-value c =
    let ps = c.args.paths.now in
    let none : members_view c.new-members.result.entries ≡ no_members = ap members_view c.new-members.ensures.empty in
    let some : ps ≡ [] → ⊥ = λ empty. true≢false (sym (c.is_empty.ensures.1 empty) ∙ c.if-is_empty.false) in
    view-Object c.put.new.map ∙ rw (c.in_ok-put.ensures.ok, none, view-Array c.in_ok-written.written, c.in_ok-written.ensures.value, c.as_slice.ensures) (paths_put ps some)

pub returns-clause-no_float : goal.returns-clause-no_float
returns-clause-no_float c = ap has_float (returns-clause-value c) ∙ mask_float c.args.paths.now

pub returns-clause-reads_back : goal.returns-clause-reads_back
returns-clause-reads_back c = λ place.
    let held = subst (AllByRecursion IsPathHeld) c.as_slice.ensures c.in_ok-written.ensures.held in
    ap (λ d. mask_at d place) (returns-clause-value c) ∙ mask_again c.args.paths.now place held
