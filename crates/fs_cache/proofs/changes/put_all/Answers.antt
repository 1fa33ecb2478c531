use Rattle.std.proofs.Common.{Option, refl, sym, ap, ◌∙◌, subst}
use Rattle.std.specs.Prelude.{IsTrue}
use Rattle.std.specs.FinMap.{is_sorted}
use Rattle.fs_path.specs.NameOrder.{name_cmp}
use Rattle.fs_path.specs.declared.name.DocName.{DocName}
use Rattle.fs_value.proofs.Rising.{rising_entries}
use Rattle.fs_cache.specs.Places.{HavePlaces, Places, staged_in}
use Rattle.fs_cache.specs.declared.cached.CachedDocument.{CachedDocument}
use Rattle.fs_cache.proofs.Kept.{rest_rises}
use Rattle.fs_cache.proofs.Taking.{first_has_place, others_have_places, staged_put}
use Rattle.fs_cache.proofs.changes.put_all.Goals as goal

pub loop-name-init : goal.loop-name-init
loop-name-init c =
    let begun = c.into_iter-name-iterator.ensures.into_iter_gives in
    record {
      staged = refl;
      placed = subst (HavePlaces c.args.places.now.entries) (sym begun.0) c.requires;
      rise = subst (λ (es : Places). IsTrue (is_sorted name_cmp es)) (sym begun.0) (rising_entries name_cmp c.args.changes.entries begun.5);
    }

pub put-requires : goal.put-requires
put-requires c =
    let l = c.loop-name in
    first_has_place l.places.entries l.places.entries (c.in-Some.name, c.in-Some.next) c.next.new.self (subst (HavePlaces l.places.entries) c.in-Some.ensures.steps l.invariant.placed)

pub loop-name-preserved : goal.loop-name-preserved
loop-name-preserved c =
    let l = c.loop-name in
    let e : DocName × Option CachedDocument = (c.in-Some.name, c.in-Some.next) in
    let old = l.places.entries in
    let new = c.put.new.places.entries in
    let rest = c.next.new.self in
    let steps = c.in-Some.ensures.steps in
    let rise = subst (λ (es : Places). IsTrue (is_sorted name_cmp es)) steps l.invariant.rise in
    record {
      staged = staged_put old new e rest rise c.put.ensures.value ∙ ap (staged_in old) (sym steps) ∙ l.invariant.staged;
      placed = others_have_places old new e rest rise c.put.ensures.others (subst (HavePlaces old) steps l.invariant.placed);
      rise = rest_rises e rest rise;
    }
