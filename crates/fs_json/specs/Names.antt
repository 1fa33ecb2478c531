-- The two spellings of a member's name (proto3 JSON, "JSON Options": lowerCamelCase, and the original field name).
use Rattle.std.specs.Prelude.{ℕ, Bool, ◌||◌, List, [], ◌∷◌, ◌++◌, codes, if◌then◌else◌}
use Rattle.std.specs.Char.{is_ascii_uppercase, to_ascii_lowercase}
use Rattle.std.specs.Str.{bytes_eq}

-- The snake_case spelling of a name in lowerCamelCase: each upper-case letter becomes `_` and its lower case, so that
-- of `readTime` is `read_time`.
abbrev pub snake_of : List ℕ → List ℕ
snake_of [] = []
snake_of (c ∷ cs) = if is_ascii_uppercase c then codes "_" ++ to_ascii_lowercase c ∷ snake_of cs else c ∷ snake_of cs

-- whether the key is one of the two spellings of the name
abbrev pub spells : List ℕ → List ℕ → Bool
spells name key = bytes_eq name key || bytes_eq (snake_of name) key
