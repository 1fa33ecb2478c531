use Rattle.std.proofs.Common.{◌≡◌, Bool, true, false, refl, sym, ◌∙◌}
use Rattle.std.specs.BTreeSet.{contains}
use Rattle.fs_path.specs.NameOrder.{name_cmp}
use Rattle.fs_target.proofs.Looking.{alike_next}
use Rattle.fs_target.proofs.told.names_of.Goals as goal

pub loop-look-preserved : goal.loop-look-preserved
loop-look-preserved c = λ time are name none rest.
    let ensures = c.in_ok-add_names.ensures in
    let was : contains name_cmp c.loop-look.names name ≡ false = not_yet _ _ (ensures.kept name) none in
    c.loop-look.invariant time are name was
    (alike_next time name c.args.looks.now c.loop-look.look-index c.look-item.result c.loop-look-test.true are c.look-item.is (λ is. ensures.all time name is none) rest)
  where
    not_yet : (old new : Bool) → (old ≡ true → new ≡ true) → new ≡ false → old ≡ false
    not_yet false new kept none = refl
    not_yet true new kept none = absurd (let both : true ≡ false = sym (kept refl) ∙ none in cc)
