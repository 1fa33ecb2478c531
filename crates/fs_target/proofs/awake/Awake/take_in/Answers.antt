use Rattle.std.proofs.Common.{◌≡◌, map, refl, sym, ap, ◌∙◌, subst, arith}
use Rattle.std.specs.List.{AllByRecursion}
use Rattle.std.specs.Vec.{with_items}
use Rattle.std.proofs.lemmas.List.{with_items_is}
use Rattle.fs_target.specs.Collections.{HasAll}
use Rattle.fs_target.specs.Entries.{Rises, taken}
use Rattle.fs_target.specs.Held.{fed}
use Rattle.fs_target.specs.Prepared.{ArePrepared, IsPrepared, Prepared, held_in}
use Rattle.fs_target.specs.Seen.{held_of, seen}
use Rattle.fs_target.proofs.Collected.{all_kept}
use Rattle.fs_target.proofs.Feeding.{all_fed, rises_taken}
use Rattle.fs_target.proofs.Holding.{held_fed}
use Rattle.fs_target.proofs.awake.Awake.take_in.Goals as goal

-- what contracts see of the entries in the end
entries_taken : (c : goal.After-self-1) → map seen (with_items c.self.inside.entries c.take_all.new.entries).items
    ≡ map (taken c.args.shard c.args.to) c.self.inside.entries.items
entries_taken c =
    ap (map seen) (with_items_is c.self.inside.entries c.take_all.new.entries (omega arith))
    ∙ c.take_all.ensures
    ∙ ap (map (taken c.args.shard c.args.to)) c.as_mut_slice.ensures.value

pub invariant_of-self : goal.invariant_of-self
invariant_of-self c =
    let t = c.self.inside in
    let es = t.entries.items in (
      c.self.invariant.0,
      (
        subst Rises (sym (entries_taken c)) (rises_taken c.args.shard c.args.to es c.self.invariant.1.0),
        subst (HasAll t.collections.ids) (sym (entries_taken c)) (all_kept t.collections.ids (taken c.args.shard c.args.to) es (λ e. refl) c.self.invariant.1.1),
      ),
    )

pub returns : goal.returns
returns c = λ es ready.
    let t = c.self.inside in
    let shard = c.args.shard in
    let to = c.args.to in
    let are : AllByRecursion (IsPrepared shard es) t.entries.items = subst (λ (v : Prepared). ArePrepared shard es v) (sym c.self.view_is) ready in
    ap (held_of t.shards t.limit t.raised) (entries_taken c ∙ all_fed shard es to t.entries.items are)
    ∙ held_fed t.shards t.limit t.raised shard es to (map seen t.entries.items) c.self.invariant.1.0
    ∙ ap (fed shard es to) (ap held_in c.self.view_is)
