use Rattle.std.proofs.Common.{◌≡◌, ℤ, false, drop}
use Rattle.std.specs.BTreeSet.{contains}
use Rattle.fs_path.specs.NameOrder.{name_cmp}
use Rattle.fs_path.specs.declared.name.DocName.{DocName}
use Rattle.fs_target.specs.Looks.{AreAlike, AreAt, all_views}
use Rattle.fs_target.proofs.told.names_of.Given as goal

-- of those so far each has the same at a name that isn't there
abbrev pub invariant-loop-look : goal.invariant-loop-look
invariant-loop-look l = (time : ℤ) → AreAt time l.looks → (name : DocName) → contains name_cmp l.names name ≡ false
    → AreAlike name (all_views time (drop l.look-index l.looks)) → AreAlike name (all_views time l.looks)
