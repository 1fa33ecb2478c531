use Rattle.std.proofs.Common.{◌≡◌, Some, map, refl, sym, ap, ◌∙◌, subst, arith}
use Rattle.std.specs.List.{AllByRecursion}
use Rattle.std.specs.Vec.{with_items}
use Rattle.std.proofs.lemmas.List.{with_items_is}
use Rattle.fs_target.specs.Collections.{HasAll}
use Rattle.fs_target.specs.Entries.{Rises, gone_to}
use Rattle.fs_target.specs.Held.{raised_at}
use Rattle.fs_target.specs.Prepared.{AreReady, IsNext, Prepared, held_in}
use Rattle.fs_target.specs.Seen.{held_of, seen}
use Rattle.fs_target.proofs.Collected.{all_kept}
use Rattle.fs_target.proofs.Holding.{held_raised}
use Rattle.fs_target.proofs.Raising.{all_gone, rises_gone}
use Rattle.fs_target.proofs.awake.Awake.go_to.Goals as goal

-- what contracts see of the entries in the end
entries_gone : (c : goal.After-self-2-1) → map seen (with_items c.self.inside.entries c.go_all.new.entries).items ≡ map (gone_to c.args.time) c.self.inside.entries.items
entries_gone c =
    ap (map seen) (with_items_is c.self.inside.entries c.go_all.new.entries (omega arith))
    ∙ c.go_all.ensures
    ∙ ap (map (gone_to c.args.time)) c.as_mut_slice.ensures.value

pub invariant_of-self : goal.invariant_of-self
invariant_of-self c =
    let t = c.self.inside in
    let es = t.entries.items in (
      c.self.invariant.0,
      (
        subst Rises (sym (entries_gone c)) (rises_gone c.args.time es c.self.invariant.1.0),
        subst (HasAll t.collections.ids) (sym (entries_gone c)) (all_kept t.collections.ids (gone_to c.args.time) es (λ e. refl) c.self.invariant.1.1),
      ),
    )

pub returns-clause-held : goal.returns-clause-held
returns-clause-held c = λ ready.
    let t = c.self.inside in
    let time = c.args.time in
    let are : AllByRecursion (IsNext time) t.entries.items = subst (λ (v : Prepared). AreReady time v) (sym c.self.view_is) ready in
    ap (held_of t.shards t.limit (Some time)) (entries_gone c ∙ all_gone time t.entries.items are)
    ∙ held_raised t.shards t.limit t.raised time (map seen t.entries.items) c.self.invariant.1.0
    ∙ ap (raised_at time) (ap held_in c.self.view_is)

pub returns-clause-each : goal.returns-clause-each
returns-clause-each c = entries_gone c ∙ ap (λ (v : Prepared). map (gone_to c.args.time) v.entries) c.self.view_is
