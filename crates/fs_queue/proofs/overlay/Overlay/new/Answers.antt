use Rattle.std.proofs.Common.{None, sym, ap, ◌∙◌, subst}
use Rattle.std.specs.FinMap.{from_entries, get, get-empty}
use Rattle.fs_path.specs.NameOrder.{name_cmp}
use Rattle.fs_write.specs.Batch.{Bears}
use Rattle.fs_queue.specs.Overlay.{laid}
use Rattle.fs_queue.proofs.overlay.Overlay.new.Goals as goal

pub invariant_of-result : goal.invariant_of-result
invariant_of-result c = λ q.
    subst (λ o. Bears (laid o None) q)
    (sym (ap (λ es. get (from_entries {R = name_cmp} es) q) c.new.ensures.empty ∙ get-empty name_cmp q)) tt
