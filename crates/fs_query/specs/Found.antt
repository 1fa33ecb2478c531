-- Only private clauses cite this: documents that fit, each with what stands at the first field of the order, of which only
-- the first may be kept.
use Rattle.std.specs.Prelude.{⊤, ◌≡◌, ℕ, ◌+◌, ◌*◌, ◌≤◌, Bool, ◌&&◌, List, [], ◌∷◌, ◌++◌, Option, Some, None, map, option_map, take}
use Rattle.std.specs.List.{IsDistinct}
use Rattle.std.specs.List.Sorted.{IsPermutation}
use Rattle.std.specs.Ordering.{eq_by_cmp, ordering_then}
use Rattle.std.specs.declared.cmp.Ordering.{Ordering}
use Rattle.std.specs.declared.cmp.Ordering.TheVariants.{Equal}
use Rattle.fs_value.specs.Data.{Data}
use Rattle.fs_value.specs.declared.document.Document.{Document}
use Rattle.fs_query.specs.Answer.{count_of, is_between}
use Rattle.fs_query.specs.AnswerTo.{in_rise}
use Rattle.fs_query.specs.Asked.{Asked}
use Rattle.fs_query.specs.DocumentOrder.{turned, found_cmp, orders_cmp}
use Rattle.fs_query.specs.Field.{value_at}
use Rattle.fs_query.specs.Fits.{fits}
use Rattle.fs_query.specs.Seen.{seen}
use Rattle.fs_query.specs.declared.found.Found.{Found}
use Rattle.fs_query.specs.declared.order.Order.{Order}

-- ---- with what stands at the first field

abbrev pub first_of : List Order → Document → Option Data
first_of [] d = None
first_of (o ∷ os) d = value_at o.path d

abbrev pub IsKeyed : List Order → Found → Type 0
IsKeyed os f = option_map seen f.first ≡ first_of os f.document.now

-- the order of documents, by what stands with them
abbrev pub keyed_cmp : List Order → Found → Found → Ordering
keyed_cmp [] a b = Equal
keyed_cmp (o ∷ os) a b = ordering_then (turned o.descending (found_cmp (option_map seen a.first) (option_map seen b.first))) (orders_cmp os a.document.now b.document.now)

abbrev pub documents_of : List Found → List Document
documents_of fs = map (λ f. f.document.now) fs

-- ---- those that fit and stand between the cursors

abbrev pub is_asked : Asked → Document → Bool
is_asked q d = fits q d && is_between q d

-- ---- of which only the first are kept

-- how many of the first are asked for, those that the offset leaves out among them
abbrev pub most_of : Asked → Option ℕ
most_of q = option_map (λ limit. count_of q.offset + count_of limit) q.limit

-- where so many are asked for, this many are at most twice as many and one
abbrev pub IsHeld : Option ℕ → ℕ → Type 0
IsHeld None held = ⊤
IsHeld (Some n) held = held ≤ 2 * n + 1

abbrev pub few : {X : Type 0} → Option ℕ → List X → List X
few None xs = xs
few (Some n) xs = take n xs

-- what is kept of all has as many of the first as are asked for
pub record KeepsFirst {X : Type 0} (c : X → X → Ordering) (most : Option ℕ) (all kept : List X) : Type 0 where
  pub left : List X
  pub moved : IsPermutation all (kept ++ left)
  pub first : IsDistinct (eq_by_cmp c) all → few most (in_rise c kept) ≡ few most (in_rise c all)
