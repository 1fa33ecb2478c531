use Rattle.std.proofs.Common.{◌≡◌, ◌+◌, ◌<◌, List, ◌∷◌, length, drop, get_or, map, sym, ap, ◌∙◌, refl, subst, arith, add-one, drop-cons}
use Rattle.std.proofs.Math.ListN.{set}
use Rattle.std.proofs.Math.Seq.{map-set_same}
use Rattle.std.proofs.lemmas.List.{drop-set-lt}
use Rattle.std.specs.Prelude.{ℕ}
use Rattle.fs_write.specs.declared.change.Change.{Change}
use Rattle.fs_versions.proofs.TreeLaws.{IsLeft, before_first, left_first, left_next, room_first}
use Rattle.fs_versions.proofs.install.install.Goals as goal

pub loop-i-init : goal.loop-i-init
loop-i-init c = record {
  left = left_first c.args.chains.now.entries c.args.changes.now c.args.time c.requires.rising c.requires.room c.requires.earlier;
  names = refl;
}

-- the change at a place is the first of those that are left
here : (cs : List Change) (i : ℕ) (x : Change) → i < length cs → x ≡ get_or cs i x → drop i cs ≡ get_or cs i x ∷ drop (i + 1) cs
here cs i x within is = drop-cons cs i x within ∙ ap (λ k. get_or cs i x ∷ drop k cs) (sym (add-one i))

pub put-requires-clause-earlier : goal.put-requires-clause-earlier
put-requires-clause-earlier c =
    let l = c.loop-i in
    let x = c.index-changes-i.result in
    let left = subst (λ cs. IsLeft c.args.chains.now.entries l.chains.entries c.args.changes.now cs c.args.time) (here l.changes l.i x (omega arith) c.index-changes-i.is) l.invariant.left in
    before_first _ _ _ _ _ _ left

pub put-requires-clause-room : goal.put-requires-clause-room
put-requires-clause-room c =
    let l = c.loop-i in
    let x = c.index-changes-i.result in
    let left = subst (λ cs. IsLeft c.args.chains.now.entries l.chains.entries c.args.changes.now cs c.args.time) (here l.changes l.i x (omega arith) c.index-changes-i.is) l.invariant.left in
    let some = room_first _ _ _ _ _ _ left in
    omega arith

pub loop-i-preserved : goal.loop-i-preserved
loop-i-preserved c =
    let l = c.loop-i in
    let x = c.index-changes-i.result in
    let y = c.put.new.change in
    let at = get_or l.changes l.i x in
    let left = subst (λ cs. IsLeft c.args.chains.now.entries l.chains.entries c.args.changes.now cs c.args.time) (here l.changes l.i x (omega arith) c.index-changes-i.is) l.invariant.left in
    record {
      left = subst (λ cs. IsLeft c.args.chains.now.entries c.put.new.chains.entries c.args.changes.now cs c.args.time) (sym (drop-set-lt (l.i + 1) l.changes l.i y (omega arith)))
          (left_next _ _ c.put.new.chains.entries _ at (drop (l.i + 1) l.changes) c.args.time left c.put.ensures.chain);
      names = map_names y x l.changes l.i c.put.ensures.named ∙ l.invariant.names;
    }
  where
    map_names : (y x : Change) (cs : List Change) (i : ℕ) → y.name ≡ (get_or cs i x).name → map (λ (d : Change). d.name) (set cs i y) ≡ map (λ (d : Change). d.name) cs
    map_names y x cs i same = map-set_same (λ (d : Change). d.name) cs i y x same
