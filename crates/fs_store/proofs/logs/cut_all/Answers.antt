use Rattle.std.proofs.Common.{◌<◌, List, length, get_or, map, sym, ap, ◌∙◌, arith}
use Rattle.std.proofs.Math.ListN.{set}
use Rattle.std.proofs.lemmas.List.{get_or-map, length-map, map-set}
use Rattle.std.proofs.lemmas.List.Edits.{map_over_more}
use Rattle.fs_store.specs.Logged.{noted_after}
use Rattle.fs_store.specs.declared.log.Log.{Log}
use Rattle.fs_store.specs.declared.noted.Noted.{Noted}
use Rattle.fs_store.proofs.logs.cut_all.Goals as goal

entries_of : Log → List Noted
entries_of l = l.entries

pub loop-i-preserved : goal.loop-i-preserved
unfolding entries_of
loop-i-preserved c =
    let l = c.loop-i in
    let x = c.index-logs-i.result in
    let xs = map entries_of c.args.logs.now in
    let ys = map entries_of l.logs in
    let a = entries_of (get_or l.logs l.i x) in
    let here : l.i < length l.logs = omega arith in
    let within : l.i < length xs = omega (arith, length-map c.args.logs.now entries_of) in
    map-set entries_of l.logs l.i c.cut.new.self
    ∙ ap (λ ns. set ys l.i ns) c.cut.ensures
    ∙ map_over_more (noted_after c.args.floor) xs ys l.i a within l.invariant (sym (get_or-map entries_of l.logs l.i x a here))
