-- Field paths: names joined by dots. A simple name stands as it is; any other stands in backquotes, with a backslash
-- before each backquote and backslash of the name. (v1 reference, "StructuredQuery.FieldReference", `fieldPath`.)
use Rattle.std.specs.Prelude.{◌≡◌, ℕ, ◌+◌, ◌<◌, ◌≤◌, true, ◌||◌, List, [], ◌∷◌, ◌++◌, length, map, take, Result, Ok, Err, if◌then◌else◌, ◌==◌, ◌⊎◌}
use Rattle.std.specs.List.{flat_map, join_with_byte}
use Rattle.fs_path.specs.declared.error.PathError.{PathError}
use Rattle.fs_path.specs.declared.error.PathError.TheVariants.{BadQuote}
use Rattle.fs_path.specs.FieldName.{is_name_start, is_name_byte, is_simple}

-- ---- how a field path is written

-- a byte inside backquotes
abbrev pub escaped : ℕ → List ℕ
escaped b = if b == 96 || b == 92 then 92 ∷ b ∷ [] else b ∷ []

abbrev pub quoted : List ℕ → List ℕ
quoted name = 96 ∷ (flat_map escaped name ++ 96 ∷ [])

abbrev pub name_text : List ℕ → List ℕ
name_text name = if is_simple name then name else quoted name

-- the one text that is printed of a field path
abbrev pub field_text : List (List ℕ) → List ℕ
field_text names = join_with_byte 46 (map name_text names)

-- ---- which texts are read as a field path

-- a simple name as it is, and any name in backquotes
abbrev pub IsNameText : List ℕ → List ℕ → Type 0
IsNameText name text = ((is_simple name ≡ true) × (text ≡ name)) ⊎ (text ≡ quoted name)

-- such names with a dot between each two
abbrev pub IsFieldText : List (List ℕ) → List ℕ → Type 0
IsFieldText [] text = ⊥
IsFieldText (name ∷ []) text = IsNameText name text
IsFieldText (name ∷ next ∷ names) text = (front : List ℕ) × (rest : List ℕ) × IsNameText name front × (text ≡ front ++ 46 ∷ rest) × IsFieldText (next ∷ names) rest

-- what some field path begins with
abbrev pub BeginsField : List ℕ → Type 0
BeginsField front = (names : List (List ℕ)) × (rest : List ℕ) × IsFieldText names (front ++ rest)

-- no longer front of the text begins a field path
pub record IsLongestFront (text : List ℕ) (at : ℕ) : Type 0 where
  pub within : at ≤ length text
  pub begins : BeginsField (take at text)
  pub longest : (n : ℕ) → at < n → n ≤ length text → BeginsField (take n text) → ⊥

-- ---- what is read of a text: its names, or how far it may be a field path

-- read from a place on, with the names so far, and the name so far where one has begun
abbrev mutual
  -- a name begins
  pub at_name : List (List ℕ) → ℕ → List ℕ → Result (List (List ℕ)) PathError
  at_name names at [] = Err (BadQuote at)
  at_name names at (b ∷ bs) =
      if b == 96 then in_quotes names [] (at + 1) bs
      else (if is_name_start b then in_simple names (b ∷ []) (at + 1) bs else Err (BadQuote at))

  -- a simple name goes on
  pub in_simple : List (List ℕ) → List ℕ → ℕ → List ℕ → Result (List (List ℕ)) PathError
  in_simple names name at [] = Ok (names ++ name ∷ [])
  in_simple names name at (b ∷ bs) =
      if b == 46 then at_name (names ++ name ∷ []) (at + 1) bs
      else (if is_name_byte b then in_simple names (name ++ b ∷ []) (at + 1) bs else Err (BadQuote at))

  -- between backquotes
  pub in_quotes : List (List ℕ) → List ℕ → ℕ → List ℕ → Result (List (List ℕ)) PathError
  in_quotes names name at [] = Err (BadQuote at)
  in_quotes names name at (b ∷ bs) =
      if b == 96 then behind_quotes names name (at + 1) bs
      else (if b == 92 then behind_backslash names name (at + 1) bs else in_quotes names (name ++ b ∷ []) (at + 1) bs)

  pub behind_backslash : List (List ℕ) → List ℕ → ℕ → List ℕ → Result (List (List ℕ)) PathError
  behind_backslash names name at [] = Err (BadQuote at)
  behind_backslash names name at (b ∷ bs) = if b == 96 || b == 92 then in_quotes names (name ++ b ∷ []) (at + 1) bs else Err (BadQuote at)

  pub behind_quotes : List (List ℕ) → List ℕ → ℕ → List ℕ → Result (List (List ℕ)) PathError
  behind_quotes names name at [] = Ok (names ++ name ∷ [])
  behind_quotes names name at (b ∷ bs) = if b == 46 then at_name (names ++ name ∷ []) (at + 1) bs else Err (BadQuote at)

abbrev pub field_of : List ℕ → Result (List (List ℕ)) PathError
field_of text = at_name [] 0 text
