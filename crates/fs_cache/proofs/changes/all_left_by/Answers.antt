use Rattle.std.proofs.Common.{◌||◌, sym, ap, ◌∙◌, subst}
use Rattle.std.specs.Prelude.{IsSome}
use Rattle.std.specs.BTreeMap.{get}
use Rattle.std.specs.List.{list_any}
use Rattle.std.specs.Map.Iter.{deref}
use Rattle.std.proofs.lemmas.Map.Views.{All-turn}
use Rattle.fs_path.specs.NameOrder.{name_cmp, name_eq}
use Rattle.fs_cache.specs.Cached.{left_by}
use Rattle.fs_cache.specs.Places.{is_left}
use Rattle.fs_cache.proofs.Leaving.{AreLeft, left_put, left_stays, staged_left}
use Rattle.fs_cache.proofs.changes.all_left_by.Goals as goal

pub loop-name-preserved-in-loop-name : goal.loop-name-preserved-in-loop-name
loop-name-preserved-in-loop-name c =
    let l = c.loop-name in
    let gone = c.args.gone.now in
    let places = c.args.places.now in
    let changes = c.args.changes.now.entries in
    let begun = c.into_iter-name-iterator.ensures.into_iter_gives ∙ c.keys-name-items.ensures.rest in
    left_put gone places.entries changes l.all.entries c.into_iter-name-iterator.result c.in-Some.name.now c.next.new.self
    (subst (AreLeft gone places.entries changes l.all.entries c.into_iter-name-iterator.result) c.in-Some.ensures.steps l.invariant)
    c.insert.new.places.entries c.in_ok-next.next c.in_ok-insert.ensures.ok
    (c.in_ok-next.ensures ∙ ap (left_by gone) c.staged-had.ensures)
    (All-turn deref (λ k. IsSome (get name_cmp places k)) _ _ _ _ _ _ _ c.keys-name-items.ensures.found begun l.yielded_by c.in-Some.is c.next.ensures.steps)

pub loop-name-preserved : goal.loop-name-preserved
loop-name-preserved c =
    let l = c.loop-name in
    let gone = c.args.gone.now in
    let places = c.args.places.now.entries in
    let changes = c.args.changes.now.entries in
    let first = c.into_iter-name-iterator.result in
    left_stays gone places changes l.all.entries first c.in-Some.name.now c.next.new.self
    (subst (AreLeft gone places changes l.all.entries first) c.in-Some.ensures.steps l.invariant)
    (λ i. sym c.if-contains_key.ensures i || (sym (c.if-is_left.ensures ∙ ap (is_left gone) c.staged-had.ensures) i))

pub returns-clause-staged : goal.returns-clause-staged
returns-clause-staged c =
    let gone = c.args.gone.now in
    let places = c.args.places.now.entries in
    let changes = c.args.changes.now.entries in
    let first = c.into_iter-name-iterator.result in
    staged_left gone places changes c.loop-name.all.entries first
    (subst (AreLeft gone places changes c.loop-name.all.entries first) c.in-None.ensures.steps.0 c.loop-name.invariant)
    (λ q. c.keys-name-items.ensures.has q ∙ ap (list_any (name_eq q)) (sym c.into_iter-name-iterator.ensures.into_iter_gives))
    c.requires
