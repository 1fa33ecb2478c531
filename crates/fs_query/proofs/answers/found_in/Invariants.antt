use Rattle.std.proofs.Common.{map, take, vec_len}
use Rattle.std.specs.List.{All, filter}
use Rattle.fs_query.specs.DocumentOrder.{orders_cmp}
use Rattle.fs_query.specs.Found.{IsHeld, IsKeyed, KeepsFirst, documents_of, is_asked, most_of}
use Rattle.fs_query.proofs.answers.found_in.Given as goal

-- the first of the documents so far
abbrev pub invariant-loop-d : goal.invariant-loop-d
invariant-loop-d l =
    record {
      keyed : All (IsKeyed l.orders) l.found.items;
      kept : KeepsFirst (orders_cmp l.orders) (most_of l.q) (filter (is_asked l.q) (map (λ d. d.now) (take l.d-index l.docs))) (documents_of l.found.items);
      held : IsHeld (most_of l.q) (vec_len l.found);
    }
