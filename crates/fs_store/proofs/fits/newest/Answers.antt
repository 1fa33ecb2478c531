use Rattle.std.proofs.Common.{◌≡◌, ◌+◌, ◌-◌, ◌<◌, Option, length, take, sym, ap, ◌∙◌, subst, arith}
use Rattle.std.specs.Borrow.{Bor}
use Rattle.std.specs.FinMap.{find}
use Rattle.std.specs.Option.{option_copied}
use Rattle.fs_path.specs.NameOrder.{name_cmp}
use Rattle.fs_write.specs.Batch.{changed_to, changes_by_name}
use Rattle.fs_write.specs.declared.change.Change.{Change}
use Rattle.fs_write.specs.declared.timed_change.TimedChange.{TimedChange}
use Rattle.fs_versions.specs.Chain.{last_document}
use Rattle.fs_versions.specs.Chains.{chain_of}
use Rattle.fs_versions.proofs.TreeLaws.{Rise}
use Rattle.fs_store.specs.Held.{NamesRise}
use Rattle.fs_store.specs.Stored.{all_installed}
use Rattle.fs_store.proofs.Fitting.{newest_more}
use Rattle.fs_store.proofs.fits.newest.Goals as goal

pub change_of-requires : goal.change_of-requires
change_of-requires c =
    let commits = c.args.commits.now in
    let place = length commits - 1 - c.loop-i.i in
    let within : place < length commits = omega arith in
    let rising : NamesRise commits = c.requires in
    let rise = subst (λ (y : TimedChange). Rise y.changes) (sym c.index-commits-count.is) (rising place c.index-commits-count.result within) in
    subst Rise (sym c.as_slice.ensures) rise

pub returns-in-Some : goal.returns-in-Some
returns-in-Some c =
    let v = c.args.versions.now.chains in
    let commits = c.args.commits.now in
    let name = c.args.name.now in
    let place = length commits - 1 - c.loop-i.i in
    let x = c.index-commits-count.result in
    let within : place < length commits = omega arith in
    let count : place + 1 ≡ length commits - c.loop-i.i = omega arith in
    let rising : NamesRise commits = c.requires in
    let rise = subst (λ (y : TimedChange). Rise y.changes) (sym c.index-commits-count.is) (rising place x within) in
    let prior = last_document (chain_of (all_installed v (take place commits)) name) in
    let found = ap (λ cs. find name_cmp name (changes_by_name cs)) (sym c.as_slice.ensures) ∙ sym c.change_of.ensures ∙ ap (λ (o : Option (Bor Change)). option_copied o) c.in-Some.is in
    c.as_ref.ensures.value
    ∙ sym (ap (λ o. changed_to o prior) found)
    ∙ sym (newest_more commits place x within c.index-commits-count.is v name rise)
    ∙ ap (λ k. last_document (chain_of (all_installed v (take k commits)) name)) count
    ∙ sym c.loop-i.invariant

pub loop-i-preserved : goal.loop-i-preserved
loop-i-preserved c =
    let v = c.args.versions.now.chains in
    let commits = c.args.commits.now in
    let name = c.args.name.now in
    let place = length commits - 1 - c.loop-i.i in
    let x = c.index-commits-count.result in
    let within : place < length commits = omega arith in
    let count : length commits - c.loop-i.i ≡ place + 1 = omega arith in
    let left : place ≡ length commits - (c.loop-i.i + 1) = omega arith in
    let rising : NamesRise commits = c.requires in
    let rise = subst (λ (y : TimedChange). Rise y.changes) (sym c.index-commits-count.is) (rising place x within) in
    let prior = last_document (chain_of (all_installed v (take place commits)) name) in
    let none = ap (λ cs. find name_cmp name (changes_by_name cs)) (sym c.as_slice.ensures) ∙ sym c.change_of.ensures ∙ ap (λ (o : Option (Bor Change)). option_copied o) c.in_default.is in
    c.loop-i.invariant
    ∙ ap (λ k. last_document (chain_of (all_installed v (take k commits)) name)) count
    ∙ newest_more commits place x within c.index-commits-count.is v name rise
    ∙ ap (λ o. changed_to o prior) none
    ∙ ap (λ k. last_document (chain_of (all_installed v (take k commits)) name)) left
