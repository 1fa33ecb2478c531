use Rattle.std.proofs.Common.{◌≡◌, ℕ, List, Option, Some, None, sym, ap, ◌∙◌, subst}
use Rattle.std.specs.FinMap.{FinMap, entries, from_entries, get, insert, nat_cmp-IsAntisymmetric, remove}
use Rattle.std.specs.Option.{option_map_or}
use Rattle.std.specs.Ordering.{nat_cmp}
use Rattle.std.proofs.lemmas.Cmp.{nat_cmp_total}
use Rattle.fs_value.proofs.Tree.{insert_tree, remove_tree}
use Rattle.fs_pairs.specs.Pairs.{AreKeysOf, key_of}
use Rattle.fs_pairs.proofs.Pairing.{another, given_and_taken_back, looked_up, more_keys, removed_late, taken_over, unused_by_all}
use Rattle.fs_pairs.proofs.pairs.Pairs.give.Goals as goal

-- what want of memory for the second map leaves
taken_back : (numbers more back : FinMap nat_cmp ℕ) (key number : ℕ) → more ≡ insert numbers key number → back ≡ remove more key → get numbers key ≡ None → back ≡ numbers
taken_back numbers more back key number more_is back_is absent =
    back_is ∙ ap (λ (m : FinMap nat_cmp ℕ). remove m key) more_is ∙ given_and_taken_back numbers key number absent

pub invariant_of-self-in-Err : goal.invariant_of-self-in-Err
invariant_of-self-in-Err c =
    let s = c.self.inside in
    let numbers : FinMap nat_cmp ℕ = from_entries s.numbers.entries in
    let keys : FinMap nat_cmp ℕ = from_entries s.keys.entries in
    let numbered : from_entries {R = nat_cmp} c.insert.new.self.entries ≡ insert numbers c.args.key c.args.number = insert_tree nat_cmp_total nat_cmp-IsAntisymmetric s.numbers.entries c.insert.new.self.entries c.args.key c.args.number c.in_ok-insert.ensures.updates.0 in
    let removed : from_entries {R = nat_cmp} c.remove.new.self.entries ≡ remove (from_entries c.insert.new.self.entries) c.args.key = remove_tree nat_cmp_total nat_cmp-IsAntisymmetric c.insert.new.self.entries c.remove.new.self.entries c.args.key c.remove.ensures.updates.0 in
    let same : from_entries {R = nat_cmp} c.insert-2.new.self.entries ≡ keys = ap (λ (es : List (ℕ × ℕ)). from_entries {R = nat_cmp} es) c.in-Err.ensures.err in
    let back = taken_back numbers (from_entries c.insert.new.self.entries) (from_entries c.remove.new.self.entries) c.args.key c.args.number numbered removed (ap (λ (m : FinMap nat_cmp ℕ). get m c.args.key) c.self.view_is ∙ c.requires) in
    subst (λ m. AreKeysOf m (from_entries c.insert-2.new.self.entries)) (sym back) (subst (AreKeysOf numbers) (sym same) c.self.invariant)

pub returns-in-Err-clause-err : goal.returns-in-Err-clause-err
returns-in-Err-clause-err c =
    let s = c.self.inside in
    let numbers : FinMap nat_cmp ℕ = from_entries s.numbers.entries in
    let numbered : from_entries {R = nat_cmp} c.insert.new.self.entries ≡ insert numbers c.args.key c.args.number = insert_tree nat_cmp_total nat_cmp-IsAntisymmetric s.numbers.entries c.insert.new.self.entries c.args.key c.args.number c.in_ok-insert.ensures.updates.0 in
    let removed : from_entries {R = nat_cmp} c.remove.new.self.entries ≡ remove (from_entries c.insert.new.self.entries) c.args.key = remove_tree nat_cmp_total nat_cmp-IsAntisymmetric c.insert.new.self.entries c.remove.new.self.entries c.args.key c.remove.ensures.updates.0 in
    taken_back numbers (from_entries c.insert.new.self.entries) (from_entries c.remove.new.self.entries) c.args.key c.args.number numbered removed (ap (λ (m : FinMap nat_cmp ℕ). get m c.args.key) c.self.view_is ∙ c.requires)
    ∙ c.self.view_is

pub invariant_of-self-in-Some : goal.invariant_of-self-in-Some
invariant_of-self-in-Some c =
    let s = c.self.inside in
    let numbers : FinMap nat_cmp ℕ = from_entries s.numbers.entries in
    let keys : FinMap nat_cmp ℕ = from_entries s.keys.entries in
    let key = c.args.key in
    let number = c.args.number in
    let former = c.in-Some.former in
    let absent : get numbers key ≡ None = ap (λ (m : FinMap nat_cmp ℕ). get m key) c.self.view_is ∙ c.requires in
    let held : get keys number ≡ Some former = looked_up numbers keys c.self.invariant number ∙ ap (λ (m : FinMap nat_cmp ℕ). key_of number (entries m)) c.self.view_is ∙ sym c.key_of-former.ensures ∙ c.in-Some.is in
    let numbered : from_entries {R = nat_cmp} c.insert.new.self.entries ≡ insert numbers key number = insert_tree nat_cmp_total nat_cmp-IsAntisymmetric s.numbers.entries c.insert.new.self.entries key number c.in_ok-insert.ensures.updates.0 in
    let owned : from_entries {R = nat_cmp} c.insert-2.new.self.entries ≡ insert keys number key = insert_tree nat_cmp_total nat_cmp-IsAntisymmetric s.keys.entries c.insert-2.new.self.entries number key c.in_default.ensures.updates.0 in
    let removed : from_entries {R = nat_cmp} c.remove-in-Some.new.self.entries ≡ remove (from_entries c.insert.new.self.entries) former = remove_tree nat_cmp_total nat_cmp-IsAntisymmetric c.insert.new.self.entries c.remove-in-Some.new.self.entries former c.remove-in-Some.ensures.updates.0 in
    let over = removed ∙ ap (λ (m : FinMap nat_cmp ℕ). remove m former) numbered ∙ removed_late numbers key number former (another numbers keys key number former absent held c.self.invariant) in
    subst (λ m. AreKeysOf m (from_entries c.insert-2.new.self.entries)) (sym over)
    (subst (AreKeysOf (insert (remove numbers former) key number)) (sym owned) (taken_over numbers keys key number former absent held c.self.invariant))

pub invariant_of-self-in_default-former : goal.invariant_of-self-in_default-former
invariant_of-self-in_default-former c =
    let s = c.self.inside in
    let numbers : FinMap nat_cmp ℕ = from_entries s.numbers.entries in
    let keys : FinMap nat_cmp ℕ = from_entries s.keys.entries in
    let key = c.args.key in
    let number = c.args.number in
    let absent : get numbers key ≡ None = ap (λ (m : FinMap nat_cmp ℕ). get m key) c.self.view_is ∙ c.requires in
    let none : get keys number ≡ None = looked_up numbers keys c.self.invariant number ∙ ap (λ (m : FinMap nat_cmp ℕ). key_of number (entries m)) c.self.view_is ∙ sym c.key_of-former.ensures ∙ c.in_default-former.is in
    let numbered : from_entries {R = nat_cmp} c.insert.new.self.entries ≡ insert numbers key number = insert_tree nat_cmp_total nat_cmp-IsAntisymmetric s.numbers.entries c.insert.new.self.entries key number c.in_ok-insert.ensures.updates.0 in
    let owned : from_entries {R = nat_cmp} c.insert-2.new.self.entries ≡ insert keys number key = insert_tree nat_cmp_total nat_cmp-IsAntisymmetric s.keys.entries c.insert-2.new.self.entries number key c.in_default.ensures.updates.0 in
    subst (λ m. AreKeysOf m (from_entries c.insert-2.new.self.entries)) (sym numbered)
    (subst (AreKeysOf (insert numbers key number)) (sym owned) (more_keys numbers keys key number absent (unused_by_all numbers keys number none c.self.invariant) c.self.invariant))

pub returns-in-Some-clause-ok : goal.returns-in-Some-clause-ok
returns-in-Some-clause-ok c =
    let s = c.self.inside in
    let numbers : FinMap nat_cmp ℕ = from_entries s.numbers.entries in
    let keys : FinMap nat_cmp ℕ = from_entries s.keys.entries in
    let key = c.args.key in
    let number = c.args.number in
    let former = c.in-Some.former in
    let absent : get numbers key ≡ None = ap (λ (m : FinMap nat_cmp ℕ). get m key) c.self.view_is ∙ c.requires in
    let held : get keys number ≡ Some former = looked_up numbers keys c.self.invariant number ∙ ap (λ (m : FinMap nat_cmp ℕ). key_of number (entries m)) c.self.view_is ∙ sym c.key_of-former.ensures ∙ c.in-Some.is in
    let numbered : from_entries {R = nat_cmp} c.insert.new.self.entries ≡ insert numbers key number = insert_tree nat_cmp_total nat_cmp-IsAntisymmetric s.numbers.entries c.insert.new.self.entries key number c.in_ok-insert.ensures.updates.0 in
    let removed : from_entries {R = nat_cmp} c.remove-in-Some.new.self.entries ≡ remove (from_entries c.insert.new.self.entries) former = remove_tree nat_cmp_total nat_cmp-IsAntisymmetric c.insert.new.self.entries c.remove-in-Some.new.self.entries former c.remove-in-Some.ensures.updates.0 in
    removed ∙ ap (λ (m : FinMap nat_cmp ℕ). remove m former) numbered
    ∙ removed_late numbers key number former (another numbers keys key number former absent held c.self.invariant)
    ∙ ap (λ (m : FinMap nat_cmp ℕ). insert (remove m former) key number) c.self.view_is
    ∙ ap (λ (o : Option ℕ). insert (option_map_or (remove c.args.self.now) o c.args.self.now) key number) (sym c.in-Some.is ∙ c.key_of-former.ensures)

pub returns-in_default-former-clause-ok : goal.returns-in_default-former-clause-ok
returns-in_default-former-clause-ok c =
    let s = c.self.inside in
    let numbers : FinMap nat_cmp ℕ = from_entries s.numbers.entries in
    let key = c.args.key in
    let number = c.args.number in
    let numbered : from_entries {R = nat_cmp} c.insert.new.self.entries ≡ insert numbers key number = insert_tree nat_cmp_total nat_cmp-IsAntisymmetric s.numbers.entries c.insert.new.self.entries key number c.in_ok-insert.ensures.updates.0 in
    numbered ∙ ap (λ (m : FinMap nat_cmp ℕ). insert m key number) c.self.view_is
    ∙ ap (λ (o : Option ℕ). insert (option_map_or (remove c.args.self.now) o c.args.self.now) key number) (sym c.in_default-former.is ∙ c.key_of-former.ensures)
