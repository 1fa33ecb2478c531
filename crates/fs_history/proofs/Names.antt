-- A name below all others isn't among them.
use Rattle.std.proofs.Common.{◌≡◌, cond, List, [], ◌∷◌, Some, None, refl, ap, ◌∙◌}
use Rattle.std.specs.Prelude.{IsTrue}
use Rattle.std.specs.FinMap.{find}
use Rattle.std.specs.FinMap.Entries.{below_all}
use Rattle.fs_path.specs.NameOrder.{name_cmp}
use Rattle.fs_path.specs.declared.name.DocName.{DocName}
use Rattle.fs_path.proofs.Orders.{below_less}

pub none_below : {X : Type 0} (k : DocName) (es : List (DocName × X)) → IsTrue (below_all name_cmp k es) → find name_cmp k es ≡ None
none_below k [] below = refl
none_below k (e ∷ es) below =
    let both = below_less (name_cmp k e.0) (below_all name_cmp k es) below in
    ap (λ b. cond b (Some e.1) (find name_cmp k es)) both.0 ∙ none_below k es both.1
