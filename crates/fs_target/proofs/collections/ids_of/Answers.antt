use Rattle.std.proofs.Common.{subst}
use Rattle.std.specs.List.{AllByRecursion}
use Rattle.std.proofs.lemmas.List.{take_all}
use Rattle.fs_target.specs.Collections.{HasThoseOf}
use Rattle.fs_target.specs.Seen.{Seen, seen}
use Rattle.fs_target.specs.declared.entry.Entry.{Entry}
use Rattle.fs_target.proofs.Each.{each_in_map, each_more, each_weaker}
use Rattle.fs_target.proofs.collections.ids_of.Goals as goal

pub loop-entry-preserved : goal.loop-entry-preserved
loop-entry-preserved c =
    let l = c.loop-entry in
    let ids = c.put.new.ids in
    each_more (λ (e : Entry). HasThoseOf ids e.target) c.args.entries.now l.entry-index c.entry-item.result c.loop-entry-test.true c.entry-item.is
    (each_weaker (λ (e : Entry). HasThoseOf l.ids e.target) (λ (e : Entry). HasThoseOf ids e.target) (λ e has d is. c.put.ensures.kept _ (has d is)) _ l.invariant)
    c.in_ok-put.ensures.put

pub returns : goal.returns
returns c =
    let l = c.loop-entry in
    each_in_map seen (λ (s : Seen). HasThoseOf l.ids s.listened.target) c.args.entries.now
    (subst (AllByRecursion (λ (e : Entry). HasThoseOf l.ids e.target)) (take_all l.entry-index c.args.entries.now c.loop-entry-test.false) l.invariant)
