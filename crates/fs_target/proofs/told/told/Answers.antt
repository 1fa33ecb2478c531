use Rattle.std.proofs.Common.{◌++◌, sym, ap, ◌∙◌}
use Rattle.std.specs.List.{flat_map}
use Rattle.std.proofs.lemmas.List.{append-nil}
use Rattle.fs_target.specs.Looks.{all_views, told_at}
use Rattle.fs_target.proofs.Telling.{all_told, told_next}
use Rattle.fs_target.proofs.told.told.Goals as goal

pub loop-name-preserved : goal.loop-name-preserved
loop-name-preserved c =
    told_next (told_at c.args.time (all_views c.args.time c.args.looks.now)) c.loop-name.messages.items _ _ _ c.in-Some.name.now c.loop-name.name-iterator c.next.new.self
    c.in_ok-push.ensures c.in_ok-told_of.ensures c.in-Some.ensures.steps c.loop-name.invariant

pub returns : goal.returns
returns c =
    let vs = all_views c.args.time c.args.looks.now in
    let given = c.into_iter-name-iterator.ensures.into_iter_gives in
    sym (append-nil c.loop-name.messages.items)
    ∙ ap (λ ns. c.loop-name.messages.items ++ flat_map (told_at c.args.time vs) ns) (sym c.in-None.ensures.steps.0)
    ∙ c.loop-name.invariant
    ∙ ap (flat_map (told_at c.args.time vs)) given.0
    ∙ all_told c.args.time vs c.in_ok-names.names.keys given.4 (c.in_ok-names.ensures c.args.time c.requires.latest)
