-- The documents of a store bear the names of their chains.
use Rattle.std.proofs.Common.{◌≡◌, ℤ, Bool, true, false, cond, List, [], ◌∷◌, Option, Some, None, refl, sym, ap, ◌∙◌, subst}
use Rattle.std.specs.Prelude.{⊤, unwrap_or}
use Rattle.std.specs.FinMap.{empty, find, get, get-empty}
use Rattle.std.specs.List.{All}
use Rattle.std.specs.Ordering.{eq_by_cmp}
use Rattle.std.proofs.lemmas.List.Elements.{All-nil, All-head, All-tail}
use Rattle.fs_path.specs.NameOrder.{name_cmp, name_is}
use Rattle.fs_path.specs.declared.name.DocName.{DocName}
use Rattle.fs_write.specs.Batch.{Bears, IsNamed, changes_by_name}
use Rattle.fs_write.specs.declared.change.Change.{Change}
use Rattle.fs_write.specs.declared.timed_change.TimedChange.{TimedChange}
use Rattle.fs_versions.specs.Chains.{Chains, chain_of, installed, Compacts}
use Rattle.fs_versions.proofs.Cutting.{all_left}
use Rattle.fs_store.specs.Stored.{all_installed}
use Rattle.fs_store.specs.Fits.{IsNext, AreAllNext, AreNext}
use Rattle.fs_store.specs.Held.{AreNamed}
use Rattle.fs_store.proofs.Installing.{chain_installed, all_extended}

abbrev BearsAfter : DocName → Option Change → Type 0
BearsAfter q None = ⊤
BearsAfter q (Some c) = Bears c.after q

bears_next : (q : DocName) (c : Change) (found : Option Change) (b : Bool) → (b ≡ true → q ≡ c.name) → IsNamed c → BearsAfter q found → BearsAfter q (cond b (Some c) found)
bears_next q c found true same named more = subst (Bears c.after) (sym (same refl)) named.1
bears_next q c found false same named more = more

bears_found : (v : Chains) (cs : List Change) (q : DocName) → All (IsNext v) cs → BearsAfter q (find name_cmp q (changes_by_name cs))
bears_found v [] q next = tt
bears_found v (c ∷ cs) q next =
    bears_next q c (find name_cmp q (changes_by_name cs)) (eq_by_cmp name_cmp q c.name) (name_is q c.name)
    (All-head (IsNext v) c cs next).named (bears_found v cs q (All-tail (IsNext v) c cs next))

pub named_installed : (v : Chains) (cs : List Change) (t : ℤ) → AreAllNext v cs → AreNamed v → AreNamed (installed v cs t)
named_installed v cs t next named q =
    subst (All (λ w. Bears w.after q)) (sym (chain_installed v cs t q next.rise))
    (all_extended (λ w. Bears w.after q) t (find name_cmp q (changes_by_name cs)) (chain_of v q) (named q)
    (λ c is. subst (BearsAfter q) is (bears_found v cs q next.next)))

pub named_all : (v : Chains) (cs : List TimedChange) → AreNext v cs → AreNamed v → AreNamed (all_installed v cs)
named_all v [] next named = named
named_all v (c ∷ cs) next named = named_all (installed v c.changes c.time) cs next.1 (named_installed v c.changes c.time next.0 named)

pub named_cut : (old new : Chains) (floor : ℤ) → Compacts old new floor → AreNamed old → AreNamed new
named_cut old new floor done named q =
    subst (All (λ w. Bears w.after q)) (sym (done.chains q)) (all_left (λ w. Bears w.after q) floor (chain_of old q) (named q))

pub named_empty : (v : Chains) → v.by_name ≡ empty → AreNamed v
named_empty v none q =
    subst (All (λ w. Bears w.after q)) (sym (ap (λ m. unwrap_or (get m q) []) none ∙ ap (λ o. unwrap_or o []) (get-empty name_cmp q))) (All-nil (λ w. Bears w.after q))
