use Rattle.std.proofs.Common.{List, map, sym, ap, ◌∙◌}
use Rattle.fs_listen.specs.Cuts.{least}
use Rattle.fs_target.specs.Held.{position_of, positions_in}
use Rattle.fs_target.specs.Prepared.{held_in}
use Rattle.fs_target.specs.Seen.{Seen, seen}
use Rattle.fs_target.specs.declared.entry.Entry.{Entry}
use Rattle.fs_target.proofs.Stands.{positions_held}
use Rattle.fs_target.proofs.awake.Awake.least_in.Goals as goal

pub returns : goal.returns
returns c =
    let t = c.self.inside in
    c.least_in.ensures
    ∙ ap (λ (es : List Entry). least (map (λ (s : Seen). position_of c.args.shard s.listened.loaded) (map seen es))) c.as_slice.ensures.value
    ∙ ap least (sym (positions_held t.shards t.limit t.raised c.args.shard (map seen t.entries.items) c.self.invariant.1.0))
    ∙ ap (λ v. least (positions_in c.args.shard (held_in v))) c.self.view_is
