use Rattle.std.proofs.Common.{◌≡◌, ◌++◌, ◌∷◌, [], map, take, sym, ap, ◌∙◌, subst}
use Rattle.std.proofs.lemmas.Iterator.Consumers.{YieldsList-end, YieldsList-from_deque}
use Rattle.std.proofs.lemmas.List.{append-nil, append_assoc, map-append, take_all}
use Rattle.fs_queue.specs.Overlay.{IsOverlay}
use Rattle.fs_queue.proofs.Laying.{batches_more, batches_of, none_laid}
use Rattle.fs_queue.proofs.queue.Queue.lay.Goals as goal

pub loop-a-init : goal.loop-a-init
loop-a-init g c =
    let docs = g.S.Shelf.docs c.args.shelf.now in
    subst (IsOverlay docs []) (sym c.new-overlay.ensures) (none_laid docs)

pub loop-a-preserved : goal.loop-a-preserved
loop-a-preserved g c =
    let done = c.deref-a-items.result.now in
    let i = c.loop-a.a-index in
    subst (λ bs. IsOverlay (g.S.Shelf.docs c.args.shelf.now) bs c.add.new.self) (sym (batches_more done i c.a-item.result c.loop-a-test.true c.a-item.is))
    (c.in_ok-add.ensures (batches_of (take i done)) c.loop-a.invariant)

pub loop-batch-init : goal.loop-batch-init
loop-batch-init g c =
    let done = c.deref-a-items.result.now in
    let all : take c.loop-a.a-index done ≡ c.args.self.now.acknowledged =
    take_all c.loop-a.a-index done c.loop-a-test.false ∙ c.deref-a-items.ensures.value ∙ ap (λ q. q.acknowledged) c.self.view_is in
    subst (λ bs. IsOverlay (g.S.Shelf.docs c.args.shelf.now) bs c.loop-a.overlay) (ap batches_of all ∙ sym (append-nil (batches_of c.args.self.now.acknowledged))) c.loop-a.invariant

pub loop-batch-preserved : goal.loop-batch-preserved
loop-batch-preserved g c =
    let front = batches_of c.args.self.now.acknowledged in
    let so_far = c.loop-batch.yielded in
    let b = c.in-Some.batch in
    subst (λ bs. IsOverlay (g.S.Shelf.docs c.args.shelf.now) bs c.add-in-loop-batch.new.self)
    (append_assoc front (map (λ x. x.now) so_far) (b.now ∷ []) ∙ ap (λ bs. front ++ bs) (sym (map-append (λ x. x.now) so_far (b ∷ []))))
    (c.in_ok-add-2.ensures (front ++ map (λ x. x.now) so_far) c.loop-batch.invariant)

pub returns : goal.returns
returns g c =
    let begun = c.into_iter-batch-iterator.ensures.into_iter_gives.0 in
    let end = YieldsList-end (YieldsList-from_deque c.self.inside.unanswered.items begun) c.loop-batch.yielded _ c.loop-batch.yielded_by _ _ c.in-None.is c.next.ensures.steps in
    subst (λ bs. IsOverlay (g.S.Shelf.docs c.args.shelf.now) (batches_of c.args.self.now.acknowledged ++ bs) c.loop-batch.overlay)
    (end.0 ∙ ap (λ q. q.unanswered) c.self.view_is) c.loop-batch.invariant
