use Rattle.std.proofs.Common.{◌≡◌, map, refl, sym, ap, ◌∙◌, subst, arith}
use Rattle.std.specs.Vec.{with_items}
use Rattle.std.proofs.lemmas.List.{with_items_is}
use Rattle.fs_target.specs.Collections.{HasAll}
use Rattle.fs_target.specs.Entries.{Rises}
use Rattle.fs_target.specs.Prepared.{held_in}
use Rattle.fs_target.specs.Seen.{held_of, seen}
use Rattle.fs_target.specs.Still.{entry_at, seen_at, standing}
use Rattle.fs_target.proofs.Collected.{all_kept}
use Rattle.fs_target.proofs.Stands.{rises_at, written}
use Rattle.fs_target.proofs.awake.Awake.write_positions.Goals as goal

-- what contracts see of the entries in the end
entries_written : (c : goal.After-self-1) → map seen (with_items c.self.inside.entries c.write_all.new.entries).items
    ≡ map seen (map (entry_at c.args.positions.now) c.self.inside.entries.items)
entries_written c =
    ap (map seen) (with_items_is c.self.inside.entries c.write_all.new.entries (omega arith))
    ∙ c.write_all.ensures
    ∙ ap (map (λ e. seen_at c.args.positions.now (seen e))) c.as_mut_slice.ensures.value
    ∙ written c.args.positions.now c.self.inside.entries.items

pub invariant_of-self : goal.invariant_of-self
invariant_of-self c =
    let t = c.self.inside in
    let ps = c.args.positions.now in
    let es = t.entries.items in (
      c.self.invariant.0,
      (
        subst Rises (sym (entries_written c)) (rises_at ps es c.self.invariant.1.0),
        subst (HasAll t.collections.ids) (sym (entries_written c ∙ sym (written ps es))) (all_kept t.collections.ids (λ e. seen_at ps (seen e)) es (λ e. refl) c.self.invariant.1.1),
      ),
    )

pub returns : goal.returns
returns c =
    let t = c.self.inside in
    ap (held_of t.shards t.limit t.raised) (entries_written c) ∙ ap (λ v. held_in (standing c.args.positions.now v)) c.self.view_is
