-- The answer to a query over the documents of one moment: the documents that fit, each once, in the query's order; of these
-- what the cursors keep; of these, behind the first `offset`, the first `limit`.
--
--     over c/a {n: 1}, c/b {n: 2}, c/d {n: 2}, c/e {n: 3} and c/f {m: 1}, by n, startAt [2], offset 1, limit 1
--     fit and ordered   c/a, c/b, c/d, c/e
--     kept              c/b, c/d, c/e
--     the answer        c/d
-- (Cloud Firestore documentation, "Order and limit data", "Paginate data with query cursors"; v1 reference,
-- "StructuredQuery".)
use Rattle.std.specs.Prelude.{◌≡◌, ℕ, ℤ, pos, negsuc, IsTrue, Bool, true, ◌&&◌, ◌↔◌, List, [], ◌∷◌, Option, Some, None, take, drop, if◌then◌else◌}
use Rattle.std.specs.List.{Contains, filter}
use Rattle.std.specs.List.Sorted.{IsStrictlySortedBy}
use Rattle.std.specs.Ordering.{ordering_then, is_lt, is_le, is_gt, is_ge}
use Rattle.std.specs.declared.cmp.Ordering.{Ordering}
use Rattle.std.specs.declared.cmp.Ordering.TheVariants.{Equal}
use Rattle.fs_value.specs.Data.{Data}
use Rattle.fs_value.specs.declared.document.Document.{Document}
use Rattle.fs_query.specs.Asked.{Asked}
use Rattle.fs_query.specs.DocumentOrder.{turned, found_cmp, orders_cmp}
use Rattle.fs_query.specs.Field.{value_at}
use Rattle.fs_query.specs.Fits.{fits}
use Rattle.fs_query.specs.Normal.{whole_order}
use Rattle.fs_query.specs.declared.cursor.Cursor.{Cursor}
use Rattle.fs_query.specs.declared.order.Order.{Order}

-- ---- the documents that fit, in order

-- each is before the next, and they are the documents that fit
pub record AreFitting (q : Asked) (docs all : List Document) : Type 0 where
  pub rise : IsStrictlySortedBy (orders_cmp (whole_order q)) all
  pub fitting : (d : Document) → Contains all d ↔ (Contains docs d × IsTrue (fits q d))

-- ---- cursors

-- a document beside values for the first fields of the order
abbrev pub place_cmp : List Order → List Data → Document → Ordering
place_cmp [] vs d = Equal
place_cmp (o ∷ os) [] d = Equal
place_cmp (o ∷ os) (v ∷ vs) d = ordering_then (turned o.descending (found_cmp (value_at o.path d) (Some v))) (place_cmp os vs d)

-- it isn't before the place where the documents start: `before` is at the values, and otherwise behind them
abbrev pub is_behind_start : List Order → Option Cursor → Document → Bool
is_behind_start os None d = true
is_behind_start os (Some c) d = if c.before then is_ge (place_cmp os c.values d) else is_gt (place_cmp os c.values d)

-- it isn't behind the place where they end: `before` is before the values, and otherwise behind them
abbrev pub is_before_end : List Order → Option Cursor → Document → Bool
is_before_end os None d = true
is_before_end os (Some c) d = if c.before then is_lt (place_cmp os c.values d) else is_le (place_cmp os c.values d)

abbrev pub is_between : Asked → Document → Bool
is_between q d = is_behind_start (whole_order q) q.start d && is_before_end (whole_order q) q.end d

-- ---- offset and limit

-- a number of documents. A query with one below 0 is refused
abbrev pub count_of : ℤ → ℕ
count_of (pos n) = n
count_of (negsuc n) = 0

abbrev pub limited : Option ℤ → List Document → List Document
limited None ds = ds
limited (Some n) ds = take (count_of n) ds

abbrev pub cut : Asked → List Document → List Document
cut q all = limited q.limit (drop (count_of q.offset) (filter (is_between q) all))

-- ---- the answer

pub record IsAnswer (q : Asked) (docs answer : List Document) : Type 0 where
  pub all : List Document
  pub are_fitting : AreFitting q docs all
  pub is_cut : answer ≡ cut q all
