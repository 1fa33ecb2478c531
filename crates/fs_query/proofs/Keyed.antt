-- Documents that stand with what is at the first field of the order are compared as by the whole order.
use Rattle.std.proofs.Common.{◌≡◌, ◌+◌, List, [], ◌∷◌, get_or, refl, sym, ap, ◌∙◌, arith}
use Rattle.std.specs.Prelude.{option_map}
use Rattle.std.specs.List.{All}
use Rattle.std.specs.List.Sorted.{IsSorted}
use Rattle.std.specs.Ordering.{is_lt, ordering_then}
use Rattle.std.specs.Cmp.{IsTotalOrder}
use Rattle.std.proofs.lemmas.Cmp.{on_total, then_total}
use Rattle.fs_query.specs.DocumentOrder.{turned, found_cmp, orders_cmp}
use Rattle.fs_query.specs.Found.{IsKeyed, keyed_cmp, documents_of}
use Rattle.fs_query.specs.Seen.{seen}
use Rattle.fs_query.specs.declared.found.Found.{Found}
use Rattle.fs_query.specs.declared.order.Order.{Order}
use Rattle.fs_query.proofs.OrderLaws.{found_by_total, orders_total}
use Rattle.fs_path.proofs.FieldOrder.{sorted_map}

pub keyed_total : (os : List Order) → IsTotalOrder (keyed_cmp os)
keyed_total [] = on_total (λ (f : Found). f.document.now) (orders_total [])
keyed_total (o ∷ os) = then_total (on_total (λ (f : Found). option_map seen f.first) (found_by_total o)) (on_total (λ (f : Found). f.document.now) (orders_total os))

keyed_is : (os : List Order) (a b : Found) → IsKeyed os a → IsKeyed os b → keyed_cmp os a b ≡ orders_cmp os a.document.now b.document.now
keyed_is [] a b k l = refl
keyed_is (o ∷ os) a b k l = λ i. ordering_then (turned o.descending (found_cmp (k i) (l i))) (orders_cmp os a.document.now b.document.now)

-- a sort by what stands with them is one of the documents
pub keyed_sorted : (os : List Order) (fs : List Found) → All (IsKeyed os) fs → IsSorted (keyed_cmp os) fs → IsSorted (orders_cmp os) (documents_of fs)
keyed_sorted os fs keyed up =
    sorted_map (λ f. f.document.now) (λ a b. is_lt (orders_cmp os a b)) fs
    (λ k d low within. ap is_lt (sym (keyed_is os (get_or fs (k + 1) d) (get_or fs k d) (keyed (k + 1) d within) (keyed k d (omega arith)))) ∙ up k d low within)
