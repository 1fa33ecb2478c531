use Rattle.std.proofs.Common.{◌≡◌, ◌+◌, [], ◌∷◌, ◌++◌, Bool, ◌&&◌, Ok, drop, sym, ap, ◌∙◌, arith, rules}
use mathlib.Core.List.{map-append}
use Rattle.std.proofs.lemmas.List.{drop_more}
use Rattle.std.proofs.lemmas.List.Folds.{list_all-append}
use Rattle.std.proofs.Math.Bool.{and-true}
use Rattle.std.specs.List.{list_all}
use Rattle.serde_json.specs.View.{view as json, items_view}
use Rattle.fs_path.specs.Place.{item_place}
use Rattle.fs_path.specs.Way.{place_of}
use Rattle.fs_write.specs.declared.transform.Transform.{Transform}
use Rattle.fs_writejson.specs.Transform.{transform_at}
use Rattle.fs_json.specs.Walk.{each_at}
use Rattle.fs_json.proofs.Walks.{behind, next_one}
use Rattle.fs_writejson.proofs.transform.read_items.Goals as goal

pub loop-i-preserved : goal.loop-i-preserved
loop-i-preserved c =
    let items = c.args.items.now in
    let place = place_of c.args.way.now in
    let i = c.loop-i.i in
    let x = c.index-items-i.result in
    let l = c.loop-i.invariant in
    let one : Transform × Bool = (c.in_ok-transform.transform, c.in_ok-transform.has_number) in
    let here : drop i items ≡ x ∷ drop (i + 1) items = drop_more items i x (omega arith) ∙ ap (λ y. y ∷ drop (i + 1) items) (sym c.index-items-i.is) in
    let read : transform_at (json x) (item_place place i) ≡ Ok one = search rules in
    let step = next_one transform_at l.done (json x) (items_view (drop (i + 1) items)) i place one read in
    record {
      done = l.done ++ one ∷ [];
      transforms = c.in_ok-push.ensures.ok ∙ ap (λ ts. ts ++ one.0 ∷ []) l.transforms ∙ sym (map-append (λ t. t.0) l.done (one ∷ []));
      numeric = ap (λ b. b && one.1) l.numeric ∙ ap (λ b. list_all (λ t. t.1) l.done && b) (sym (and-true one.1)) ∙ sym (list_all-append (λ t. t.1) l.done (one ∷ []));
      reading = sym step ∙ ap (λ ys. behind l.done (each_at transform_at (items_view ys) i place)) (sym here) ∙ l.reading;
    }
