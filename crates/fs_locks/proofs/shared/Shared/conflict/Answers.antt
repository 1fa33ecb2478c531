use Rattle.std.proofs.Common.{ℕ, ◌+◌, ◌<◌, ◌≤◌, List, Option, length, get_or, take, sym, subst, ap, ◌∙◌}
use Rattle.std.specs.Prelude.{◌≡◌, IsTrue}
use Rattle.std.specs.List.{list_any}
use Rattle.fs_path.specs.declared.name.DocName.{DocName}
use Rattle.fs_locks.specs.Holds.{IsLeastOther}
use Rattle.fs_locks.specs.Shares.{is_shared}
use Rattle.fs_locks.proofs.Searching.{among_more, among_all}
use Rattle.fs_locks.proofs.shared.Shared.conflict.Goals as goal

pub loop-name-preserved : goal.loop-name-preserved
loop-name-preserved c =
    let shares = c.args.self.now in
    let names = c.args.names.now in
    let k = c.loop-name.name-index in
    let name = c.name-item.result in
    let within : k < length names = subst (λ (ns : List DocName). k < length ns) c.as_slice-name-items.ensures c.loop-name-test.true in
    let is : name ≡ get_or names k name = c.name-item.is ∙ ap (λ (ns : List DocName). get_or ns k name) c.as_slice-name-items.ensures in
    subst (λ (first : Option ℕ). IsLeastOther (λ i. IsTrue (list_any (is_shared shares i) (take (k + 1) names))) c.args.by first) (sym c.lesser-first.ensures)
    (among_more (is_shared shares) names k name c.args.by c.loop-name.first c.first_touched.result within is c.loop-name.invariant c.first_touched.ensures)

pub returns : goal.returns
returns c =
    let names = c.args.names.now in
    let k = c.loop-name.name-index in
    let over : length names ≤ k = subst (λ (ns : List DocName). length ns ≤ k) c.as_slice-name-items.ensures c.loop-name-test.false in
    among_all (is_shared c.args.self.now) names k c.args.by c.loop-name.first over c.loop-name.invariant
