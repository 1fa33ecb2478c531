use Rattle.std.proofs.Common.{◌≡◌, ℕ, Some, sym, ap, ◌∙◌, subst}
use Rattle.std.specs.FinMap.{FinMap, from_entries, get, nat_cmp-IsAntisymmetric, remove}
use Rattle.std.specs.Ordering.{nat_cmp}
use Rattle.std.proofs.lemmas.Cmp.{nat_cmp_total}
use Rattle.fs_value.proofs.Tree.{get_tree, remove_tree}
use Rattle.fs_pairs.specs.Pairs.{AreKeysOf}
use Rattle.fs_pairs.proofs.Pairing.{fewer_keys}
use Rattle.fs_pairs.proofs.pairs.Pairs.remove.Goals as goal

pub invariant_of-self : goal.invariant_of-self
invariant_of-self c =
    let s = c.self.inside in
    let key = c.args.key in
    let numbers : FinMap nat_cmp ℕ = from_entries s.numbers.entries in
    let keys : FinMap nat_cmp ℕ = from_entries s.keys.entries in
    let numbered : from_entries {R = nat_cmp} c.remove.new.self.entries ≡ remove numbers key = remove_tree nat_cmp_total nat_cmp-IsAntisymmetric s.numbers.entries c.remove.new.self.entries key c.remove.ensures.updates.0 in
    let own : get numbers key ≡ Some c.in-Some.number = sym (get_tree nat_cmp_total s.numbers.entries key) ∙ sym c.in-Some.ensures.value in
    subst (λ m. AreKeysOf m (from_entries c.remove-in-Some.new.self.entries)) (sym numbered)
    (subst (AreKeysOf (remove numbers key)) (sym (remove_tree nat_cmp_total nat_cmp-IsAntisymmetric s.keys.entries c.remove-in-Some.new.self.entries c.in-Some.number c.remove-in-Some.ensures.updates.0)) (fewer_keys numbers keys key c.in-Some.number own c.self.invariant))

pub returns-in-Some : goal.returns-in-Some
returns-in-Some c =
    remove_tree nat_cmp_total nat_cmp-IsAntisymmetric c.self.inside.numbers.entries c.remove.new.self.entries c.args.key c.remove.ensures.updates.0
    ∙ ap (λ (m : FinMap nat_cmp ℕ). remove m c.args.key) c.self.view_is

pub returns-in_default : goal.returns-in_default
returns-in_default c =
    remove_tree nat_cmp_total nat_cmp-IsAntisymmetric c.self.inside.numbers.entries c.remove.new.self.entries c.args.key c.remove.ensures.updates.0
    ∙ ap (λ (m : FinMap nat_cmp ℕ). remove m c.args.key) c.self.view_is
