use Rattle.std.proofs.Common.{ℤ, List, map, Option, refl, ap, ◌∙◌}
use Rattle.std.specs.Option.{option_map}
use Rattle.fs_listen.specs.Cuts.{least, least_before}
use Rattle.fs_target.specs.Held.{position_of}
use Rattle.fs_target.specs.Seen.{Seen, loaded_in, seen}
use Rattle.fs_target.specs.declared.entry.Entry.{Entry}
use Rattle.fs_target.proofs.Joined.{joined_all, joined_more, least_alone, least_thrice}
use Rattle.fs_target.proofs.cuts.least_in.Goals as goal

pub loop-entry-preserved : goal.loop-entry-preserved
loop-entry-preserved c =
    let l = c.loop-entry in
    let one : Entry → Option ℤ = λ e. position_of c.args.shard (option_map loaded_in e.loaded) in
    let all : List Entry → Option ℤ = λ es. least (map (λ (s : Seen). position_of c.args.shard s.listened.loaded) (map seen es)) in
    joined_more least_before least_thrice least_alone all one (λ e es. refl) refl (all c.args.entries.now) l.least c.lesser-least.result c.args.entries.now
    l.entry-index c.entry-item.result c.loop-entry-test.true l.invariant c.entry-item.is (c.lesser-least.ensures ∙ ap (least_before l.least) c.position_of.ensures)

pub returns : goal.returns
returns c =
    let l = c.loop-entry in
    let one : Entry → Option ℤ = λ e. position_of c.args.shard (option_map loaded_in e.loaded) in
    let all : List Entry → Option ℤ = λ es. least (map (λ (s : Seen). position_of c.args.shard s.listened.loaded) (map seen es)) in
    joined_all least_before least_thrice least_alone all one (λ e es. refl) refl (all c.args.entries.now) l.least c.args.entries.now l.entry-index
    c.loop-entry-test.false l.invariant
