use Rattle.std.proofs.Common.{◌≡◌, ℕ, rules, cond, true, List, Some, None, is_some, sym, ap, ◌∙◌, subst}
use Rattle.std.specs.BTreeMap.{is_at}
use Rattle.std.specs.FinMap.{FinMap, from_entries, get, insert, nat_cmp-IsAntisymmetric}
use Rattle.std.specs.Map.{lookup}
use Rattle.std.specs.Ordering.{nat_cmp}
use Rattle.std.proofs.lemmas.Cmp.{nat_cmp_total}
use Rattle.fs_value.proofs.Tree.{get_tree, insert_tree}
use Rattle.fs_local.specs.State.{Targets}
use Rattle.fs_local.specs.Told.{current_at}
use Rattle.fs_local.specs.declared.listened.Listened.{Listened}
use Rattle.fs_client.specs.Listed.{AreSmall}
use Rattle.fs_client.proofs.Small.{small_insert}
use Rattle.fs_client.proofs.targets.Targets.make_current.Goals as goal

pub returns-in_default : goal.returns-in_default
returns-in_default c =
    let es = c.self.inside.listened.entries in
    let rest : FinMap nat_cmp Listened → Targets = λ m. record { listened = m; token = c.self.inside.token; causes = from_entries c.self.inside.causes.entries; last = c.self.inside.last; limit = c.self.inside.limit } in
    let stays : c.get_mut.follows.lender-at-none.entries ≡ es = search rules in
    let none : get (from_entries {R = nat_cmp} es) c.args.id ≡ None = sym (get_tree nat_cmp_total es c.args.id) ∙ sym c.in_default.ensures.value in
    ap (λ (fs : List (ℕ × Listened)). rest (from_entries fs)) stays
    ∙ c.self.view_is
    ∙ ap (λ o. current_at o c.args.id c.args.self.now) (sym none ∙ ap (λ (t : Targets). get t.listened c.args.id) c.self.view_is)

abbrev IsPut : List (ℕ × Listened) → List (ℕ × Listened) → ℕ → Listened → Type 0
IsPut es fs id l = (q : ℕ) → lookup (is_at (nat_cmp q)) fs ≡ cond (is_at (nat_cmp id) q) (Some l) (lookup (is_at (nat_cmp q)) es)

pub invariant_of-self-2 : goal.invariant_of-self-2
invariant_of-self-2 c =
    let es = c.self.inside.listened.entries in
    let one : Listened = record { target = c.in-Some.listened.now.target; shown = c.in-Some.listened.now.shown; current = c.mark.new.current } in
    let fs = (c.get_mut.follows.lender one).entries in
    let put : IsPut es fs c.args.id one = search rules in
    let there : get (from_entries {R = nat_cmp} es) c.args.id ≡ Some c.in-Some.listened.now = sym (get_tree nat_cmp_total es c.args.id) ∙ sym c.in-Some.ensures.value in
    subst AreSmall (sym (insert_tree nat_cmp_total nat_cmp-IsAntisymmetric es fs c.args.id one put))
    (small_insert (from_entries es) c.args.id one (c.self.invariant c.args.id (ap is_some there)) c.self.invariant)

pub returns : goal.returns
returns c =
    let es = c.self.inside.listened.entries in
    let l = c.in-Some.listened.now in
    let one : Listened = record { target = l.target; shown = l.shown; current = c.mark.new.current } in
    let fs = (c.get_mut.follows.lender one).entries in
    let put : IsPut es fs c.args.id one = search rules in
    let there : get (from_entries {R = nat_cmp} es) c.args.id ≡ Some l = sym (get_tree nat_cmp_total es c.args.id) ∙ sym c.in-Some.ensures.value in
    let rest : FinMap nat_cmp Listened → Targets = λ m. record { listened = m; token = c.self.inside.token; causes = from_entries c.self.inside.causes.entries; last = c.self.inside.last; limit = c.self.inside.limit } in
    ap rest (insert_tree nat_cmp_total nat_cmp-IsAntisymmetric es fs c.args.id one put)
    ∙ ap (λ b. rest (insert (from_entries es) c.args.id (record { target = l.target; shown = l.shown; current = b }))) c.mark.ensures
    ∙ ap (λ (t : Targets). record t { listened = insert t.listened c.args.id (record { target = l.target; shown = l.shown; current = true }) }) c.self.view_is
    ∙ ap (λ o. current_at o c.args.id c.args.self.now) (sym there ∙ ap (λ (t : Targets). get t.listened c.args.id) c.self.view_is)
