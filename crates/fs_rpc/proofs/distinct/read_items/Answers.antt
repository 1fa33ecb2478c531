use Rattle.std.proofs.Common.{◌≡◌, ◌+◌, ◌∷◌, Ok, drop, sym, ap, ◌∙◌, arith, rules}
use Rattle.std.proofs.lemmas.List.{drop_more}
use Rattle.serde_json.specs.View.{view as json, items_view}
use Rattle.fs_path.specs.Place.{item_place}
use Rattle.fs_path.specs.Way.{place_of}
use Rattle.fs_json.specs.Paths.{document_name_at}
use Rattle.fs_json.specs.Walk.{each_at}
use Rattle.fs_rpc.proofs.Once.{with_once, once_more}
use Rattle.fs_rpc.proofs.distinct.read_items.Goals as goal

pub loop-i-preserved : goal.loop-i-preserved
loop-i-preserved c =
    let items = c.args.items.now in
    let place = place_of c.args.way.now in
    let read = document_name_at c.args.root.now in
    let i = c.loop-i.i in
    let x = c.index-items-i.result in
    let seen = c.loop-i.seen.keys in
    let here : drop i items ≡ x ∷ drop (i + 1) items = drop_more items i x (omega arith) ∙ ap (λ y. y ∷ drop (i + 1) items) (sym c.index-items-i.is) in
    let found : read (json x) (item_place place i) ≡ Ok c.in_ok-name.name = search rules in
    let rest = each_at read (items_view (drop (i + 1) items)) (i + 1) place in
    let step : with_once seen (each_at read (items_view (x ∷ drop (i + 1) items)) i place) ≡ with_once c.insert.new.self.keys rest =
    rw (found, c.in_ok-insert.ensures.keys) (once_more seen c.in_ok-name.name rest) in
    sym step ∙ ap (λ ys. with_once seen (each_at read (items_view ys) i place)) (sym here) ∙ c.loop-i.invariant
