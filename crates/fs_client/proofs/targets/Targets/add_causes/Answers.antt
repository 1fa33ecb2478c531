use Rattle.std.proofs.Common.{◌≡◌, ℕ, ◌+◌, List, ◌∷◌, drop, get_or, sym, ap, ◌∙◌, add-one, drop-cons}
use Rattle.std.specs.FinMap.{from_entries, insert, nat_cmp-IsAntisymmetric}
use Rattle.std.specs.Ordering.{nat_cmp}
use Rattle.std.proofs.lemmas.Cmp.{nat_cmp_total}
use Rattle.fs_value.proofs.Tree.{insert_tree}
use Rattle.fs_client.specs.Listed.{caused}
use Rattle.fs_client.proofs.Refusing.{caused_next, caused_past}
use Rattle.fs_client.proofs.targets.Targets.add_causes.Goals.{then-has+in_ok-copy+in_ok-insert, else-has}
use Rattle.fs_client.proofs.targets.Targets.add_causes.Goals as goal

pub loop-id-preserved : goal.loop-id-preserved
loop-id-preserved c = λ q.
    let targets = c.args.self.now.listened in
    let cause = c.args.cause.now in
    let ids = c.args.ids.now in
    let i = c.loop-id.id-index in
    let id = get_or ids i 0 in
    let later = drop (i + 1) ids in
    let left : drop i ids ≡ id ∷ later = drop-cons ids i 0 c.loop-id-test.true ∙ ap (λ (k : ℕ). id ∷ drop k ids) (sym (add-one i)) in
    let before : caused targets (id ∷ later) cause c.loop-id.causes.entries q ≡ caused targets ids cause c.args.causes.now.entries q =
    ap (λ (ks : List ℕ). caused targets ks cause c.loop-id.causes.entries q) (sym left) ∙ c.loop-id.invariant q in
    elim c.if-has.branch [
      | then-has+in_ok-copy+in_ok-insert w ↦
          let inserted : from_entries {R = nat_cmp} c.if-has.causes.entries ≡ insert (from_entries c.loop-id.causes.entries) id cause =
          ap (λ (m : _). from_entries {R = nat_cmp} m.entries) w.causes-is
          ∙ insert_tree nat_cmp_total nat_cmp-IsAntisymmetric c.loop-id.causes.entries w.insert.new.self.entries id w.in_ok-copy.field-0 w.in_ok-insert.ensures.updates.0
          ∙ ap (insert (from_entries c.loop-id.causes.entries) id) w.in_ok-copy.ensures in
          caused_next targets cause id later c.loop-id.causes.entries c.if-has.causes.entries q (sym c.has.ensures.value ∙ w.if-has.true) inserted ∙ before
      | else-has w ↦
          ap (λ (m : _). caused targets later cause m.entries q) w.causes-is
          ∙ caused_past targets cause id later c.loop-id.causes.entries q (sym c.has.ensures.value ∙ w.if-has.false) ∙ before
    ]
