use Rattle.std.proofs.Common.{◌≡◌, ℕ, ℤ, ◌+◌, List, ◌∷◌, [], ◌++◌, Option, Some, None, if◌then◌else◌, map, sym, ap, ◌∙◌, arith}
use Rattle.std.specs.List.{range_with_len}
use Rattle.std.proofs.lemmas.List.FromFn.{map-range_with_len_more}
use Rattle.fs_listen.specs.Listening.{has_shard}
use Rattle.fs_target.proofs.positions.positions_at.Goals as goal

-- the position in one shard more
one_more : (at : ℕ → Option ℤ) (n : ℕ) (ps qs : List (Option ℤ)) (p : Option ℤ) → ps ≡ map at (range_with_len 0 n) → p ≡ at n → qs ≡ ps ++ p ∷ []
    → qs ≡ map at (range_with_len 0 (n + 1))
one_more at n ps qs p so_far is with_it =
    with_it ∙ ap (λ rs. rs ++ p ∷ []) so_far ∙ ap (λ r. map at (range_with_len 0 n) ++ r ∷ []) is ∙ sym (map-range_with_len_more at 0 n n (omega arith))

pub loop-shard-preserved : goal.loop-shard-preserved
loop-shard-preserved c =
    one_more (λ (s : ℕ). if has_shard c.args.shards c.args.target.now s then Some c.args.time else None) c.loop-shard.shard c.loop-shard.positions.items
    c.push.new.self.items c.position_at.result c.loop-shard.invariant c.position_at.ensures c.in_ok-push.ensures.items
