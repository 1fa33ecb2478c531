use Rattle.std.proofs.Common.{◌≡◌, ◌+◌, [], ◌∷◌, ◌++◌, cond, map, take, sym, ap, ◌∙◌, subst, append-nil, vec_len}
use Rattle.std.specs.List.{All, filter}
use Rattle.fs_query.specs.DocumentOrder.{orders_cmp}
use Rattle.fs_query.specs.Found.{IsHeld, IsKeyed, KeepsFirst, documents_of, is_asked, most_of}
use Rattle.fs_query.proofs.Foremost.{filter_more, keeps_more, keeps_then}
use Rattle.fs_query.proofs.OrderLaws.{orders_total}
use Rattle.fs_query.proofs.answers.found_in.Goals as goal
use Rattle.fs_query.proofs.answers.found_in.Goals.{then-is_asked+in_ok-push_found, else-is_asked}

pub loop-d-preserved : goal.loop-d-preserved
loop-d-preserved c =
    let q = c.args.q.now in
    let order = orders_cmp c.args.orders.now in
    let total = orders_total c.args.orders.now in
    let docs = c.args.docs.now in
    let k = c.loop-d.d-index in
    let d = c.d-item.result.now in
    let all = filter (is_asked q) (map (λ e. e.now) (take k docs)) in
    let kept = documents_of c.loop-d.found.items in
    let more : filter (is_asked q) (map (λ e. e.now) (take (k + 1) docs)) ≡ all ++ cond (is_asked q d) (d ∷ []) [] =
    filter_more (λ e. e.now) (is_asked q) docs k c.d-item.result c.loop-d-test.true c.d-item.is in
    elim c.if-is_asked.branch [
      | then-is_asked+in_ok-push_found w ↦
          let new = documents_of w.push_found.new.found.items in
          let one : KeepsFirst order (most_of q) (kept ++ d ∷ []) new =
          subst (λ m. KeepsFirst order m (kept ++ d ∷ []) new) c.most_of-most.ensures
          (subst (λ e. KeepsFirst order c.most_of-most.result (kept ++ e ∷ []) new) w.found_at.ensures.document w.in_ok-push_found.ensures.kept) in
          let grown : KeepsFirst order (most_of q) (all ++ d ∷ []) new =
          keeps_then order total (most_of q) (all ++ d ∷ []) (kept ++ d ∷ []) new (keeps_more order total (most_of q) all kept d c.loop-d.invariant.kept) one in
          record {
            keyed = subst (λ v. All (IsKeyed c.args.orders.now) v.items) (sym w.found-is) w.in_ok-push_found.ensures.keyed;
            kept =
                subst (λ ds. KeepsFirst order (most_of q) ds (documents_of c.if-is_asked.found.items)) (sym (more ∙ ap (λ b. all ++ cond b (d ∷ []) []) (sym w.if-is_asked.ensures)))
                (subst (λ v. KeepsFirst order (most_of q) (all ++ d ∷ []) (documents_of v.items)) (sym w.found-is) grown);
            held =
                subst (λ v. IsHeld (most_of q) (vec_len v)) (sym w.found-is)
                (subst (λ m. IsHeld m (vec_len c.loop-d.found) → IsHeld m (vec_len w.push_found.new.found)) c.most_of-most.ensures w.in_ok-push_found.ensures.held c.loop-d.invariant.held);
          }
      | else-is_asked w ↦
          record {
            keyed = subst (λ v. All (IsKeyed c.args.orders.now) v.items) (sym w.found-is) c.loop-d.invariant.keyed;
            kept =
                subst (λ ds. KeepsFirst order (most_of q) ds (documents_of c.if-is_asked.found.items)) (sym (more ∙ ap (λ b. all ++ cond b (d ∷ []) []) (sym w.if-is_asked.ensures) ∙ append-nil all))
                (subst (λ v. KeepsFirst order (most_of q) all (documents_of v.items)) (sym w.found-is) c.loop-d.invariant.kept);
            held = subst (λ v. IsHeld (most_of q) (vec_len v)) (sym w.found-is) c.loop-d.invariant.held;
          }
    ]
