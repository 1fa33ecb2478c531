use Rattle.std.proofs.Common.{◌≡◌, ◌+◌, List, ◌∷◌, ◌∙◌, drop, map, sym, ap, arith}
use Rattle.std.proofs.lemmas.List.{drop_all, drop_more, with_items_is}
use Rattle.fs_target.specs.Seen.{seen}
use Rattle.fs_target.specs.Still.{all_joined, joined, nones}
use Rattle.fs_target.specs.declared.entry.Entry.{Entry}
use Rattle.fs_target.proofs.InShards.{nones_joined}
use Rattle.fs_target.proofs.still.all_joined.Goals as goal

pub loop-entry-init : goal.loop-entry-init
loop-entry-init c = ap (λ ps. all_joined ps (map seen c.args.entries.now)) c.in_ok-positions.ensures

pub loop-entry-preserved : goal.loop-entry-preserved
loop-entry-preserved c =
    let l = c.loop-entry in
    let es = c.args.entries.now in
    let e = c.entry-item.result in
    let rest = map seen (drop (l.entry-index + 1) es) in
    let had = l.positions.items in
    let joins = c.join_loaded.ensures ∙ ap (joined _) c.as_mut_slice.ensures.value in
    let now = with_items_is l.positions c.join_loaded.new.positions (omega arith) ∙ joins in
    let head : map seen (drop l.entry-index es) ≡ seen e ∷ rest =
    ap (map seen) (drop_more es l.entry-index e c.loop-entry-test.true) ∙ ap (λ (d : Entry). seen d ∷ rest) (sym c.entry-item.is) in
    ap (λ ps. all_joined ps rest) now
    ∙ sym (ap (all_joined had) head)
    ∙ l.invariant
    ∙ ap (λ ps. all_joined ps (map seen es)) (sym (nones_joined _ had) ∙ sym (ap nones now))

pub returns : goal.returns
returns c =
    let l = c.loop-entry in
    sym (ap (λ (ds : List Entry). all_joined l.positions.items (map seen ds)) (drop_all l.entry-index c.args.entries.now c.loop-entry-test.false)) ∙ l.invariant
