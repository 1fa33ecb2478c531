-- Places in a request.
use Rattle.std.specs.Prelude.{ℕ, List, [], ◌∷◌, ◌++◌, decimal}

-- a member of the object at a place: `commit.writes`; a member of the request itself: `commit`
abbrev pub member_place : List ℕ → List ℕ → List ℕ
member_place [] name = name
member_place (b ∷ bs) name = (b ∷ bs) ++ 46 ∷ name

-- an item of the list at a place, counted from 0: `commit.writes[0]`
abbrev pub item_place : List ℕ → ℕ → List ℕ
item_place place i = place ++ 91 ∷ (decimal i ++ 93 ∷ [])
