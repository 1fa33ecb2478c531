-- The answer to a query as it may be made: each document that fits is put at its place, and the list is cut. That it is the
-- answer is a law.
use Rattle.std.specs.Prelude.{List, [], ◌∷◌}
use Rattle.std.specs.List.{filter}
use Rattle.std.specs.Ordering.{match_ordering}
use Rattle.std.specs.declared.cmp.Ordering.{Ordering}
use Rattle.fs_value.specs.declared.document.Document.{Document}
use Rattle.fs_query.specs.Answer.{cut}
use Rattle.fs_query.specs.Asked.{Asked}
use Rattle.fs_query.specs.DocumentOrder.{orders_cmp}
use Rattle.fs_query.specs.Fits.{fits}
use Rattle.fs_query.specs.Normal.{whole_order}

-- an element at its place in a list that is in order, unless one that ties with it is there
abbrev pub put_in : {X : Type 0} → (X → X → Ordering) → X → List X → List X
put_in c x [] = x ∷ []
put_in c x (y ∷ ys) = match_ordering (c x y) (x ∷ y ∷ ys) (y ∷ ys) (y ∷ put_in c x ys)

abbrev pub in_rise : {X : Type 0} → (X → X → Ordering) → List X → List X
in_rise c [] = []
in_rise c (x ∷ xs) = put_in c x (in_rise c xs)

abbrev pub answer_to : Asked → List Document → List Document
answer_to q docs = cut q (in_rise (orders_cmp (whole_order q)) (filter (fits q) docs))
