use Rattle.std.proofs.Common.{ℕ, ap, ◌∙◌, subst}
use Rattle.std.specs.FinMap.{FinMap, from_entries, get}
use Rattle.std.specs.Ordering.{nat_cmp}
use Rattle.std.proofs.lemmas.Cmp.{nat_cmp_total}
use Rattle.fs_value.proofs.Tree.{get_tree}
use Rattle.fs_pairs.specs.Pairs.{AreDistinct}
use Rattle.fs_pairs.proofs.Pairing.{distinct}
use Rattle.fs_pairs.proofs.pairs.Pairs.get.Goals as goal

pub returns-clause-value : goal.returns-clause-value
returns-clause-value c =
    c.copied.ensures ∙ c.get.ensures.value ∙ get_tree nat_cmp_total c.self.inside.numbers.entries c.args.key
    ∙ ap (λ (m : FinMap nat_cmp ℕ). get m c.args.key) c.self.view_is

pub returns-clause-distinct : goal.returns-clause-distinct
returns-clause-distinct c =
    let s = c.self.inside in
    subst AreDistinct c.self.view_is (distinct (from_entries s.numbers.entries) (from_entries s.keys.entries) c.self.invariant)
