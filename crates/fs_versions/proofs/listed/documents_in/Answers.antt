use Rattle.std.proofs.Common.{◌≡◌, map, ap, ◌∙◌, subst}
use Rattle.std.specs.Prelude.{IfOk, IfSome}
use Rattle.std.specs.List.{filter}
use Rattle.fs_path.specs.NameOrder.{name_cmp}
use Rattle.fs_path.specs.Scope.{covers}
use Rattle.fs_value.proofs.Rising.{rising_entries}
use Rattle.fs_versions.specs.Between.{LieBetween}
use Rattle.fs_versions.specs.Listed.{all_shown}
use Rattle.fs_versions.specs.Sound.{lists_of}
use Rattle.fs_versions.proofs.Bounds.{all_between}
use Rattle.fs_versions.proofs.Listing.{shown_among}
use Rattle.fs_versions.proofs.listed.documents_in.Goals as goal

pub returns-in-Some : goal.returns-in-Some
returns-in-Some c =
    let scope = c.args.scope.now in
    let es = c.args.chains.now.entries in
    let lies = subst (λ o. IfSome o (λ b. LieBetween scope es b.start b.end)) c.in-Some.is c.in_ok-range.ensures in
    subst (λ ds. IfOk c.shown_in.result (λ v. map (λ d. d.now) v.items ≡ ds))
    (ap (λ fs. all_shown c.args.time (lists_of fs)) (ap (filter (λ e. covers scope e.0)) (c.range.ensures.between tt) ∙ lies.all)
    ∙ shown_among (covers scope) c.args.time es (rising_entries name_cmp es c.range.ensures.ordered))
    c.shown_in.ensures

pub returns-in-None : goal.returns-in-None
returns-in-None c =
    let scope = c.args.scope.now in
    let es = c.args.chains.now.entries in
    subst (λ ds. IfOk c.shown_in-in-None.result (λ v. map (λ d. d.now) v.items ≡ ds))
    (ap (λ fs. all_shown c.args.time (lists_of (filter (λ e. covers scope e.0) fs))) (c.range-in-None.ensures.between tt ∙ all_between es)
    ∙ shown_among (covers scope) c.args.time es (rising_entries name_cmp es c.range-in-None.ensures.ordered))
    c.shown_in-in-None.ensures
