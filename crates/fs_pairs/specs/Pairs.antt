-- Keys and numbers, one to one.
--
--     4 has 1, 7 has 2       the number of 4 is 1, and the key of 2 is 7
use Rattle.std.specs.Prelude.{◌≡◌, ◌==◌, ℕ, List, [], ◌∷◌, Option, Some, None, if◌then◌else◌}
use Rattle.std.specs.FinMap.{FinMap, entries, get, remove}
use Rattle.std.specs.Option.{option_map_or}
use Rattle.std.specs.Ordering.{nat_cmp}

-- the key of a number
abbrev pub key_of : ℕ → List (ℕ × ℕ) → Option ℕ
key_of number [] = None
key_of number (e ∷ es) = if e.1 == number then Some e.0 else key_of number es

-- whoever has a number has none
abbrev pub freed : FinMap nat_cmp ℕ → ℕ → FinMap nat_cmp ℕ
freed numbers number = option_map_or (remove numbers) (key_of number (entries numbers)) numbers

-- always: no two keys have one number
abbrev pub AreDistinct : FinMap nat_cmp ℕ → Type 0
AreDistinct numbers = (one other number : ℕ) → get numbers one ≡ Some number → get numbers other ≡ Some number → one ≡ other

-- Only the model of pairs cites this: by the numbers the keys of those that have them.
abbrev pub AreKeysOf : FinMap nat_cmp ℕ → FinMap nat_cmp ℕ → Type 0
AreKeysOf numbers keys = (key number : ℕ) → (get numbers key ≡ Some number → get keys number ≡ Some key) × (get keys number ≡ Some key → get numbers key ≡ Some number)
