-- The sessions of a script that are open, by the names that it gives them, in the order of opening.
use Rattle.std.specs.Prelude.{ℕ, ◌+◌, List, [], ◌∷◌, Option, Some, None, option_map, ◌==◌, if◌then◌else◌}
use Rattle.std.specs.Str.{bytes_eq}
use Rattle.fs_replay.specs.declared.directory.Named.{Named}

abbrev pub number_of : List ℕ → List Named → Option ℕ
number_of name [] = None
number_of name (n ∷ ns) = if bytes_eq n.name name then Some n.number else number_of name ns

-- the name of the session of a number
abbrev pub name_of : ℕ → List Named → Option (List ℕ)
name_of number [] = None
name_of number (n ∷ ns) = if n.number == number then Some n.name else name_of number ns

abbrev pub without : List ℕ → List Named → List Named
without name [] = []
without name (n ∷ ns) = if bytes_eq n.name name then ns else n ∷ without name ns

-- for private clauses: the place of a name
abbrev pub place_in : List ℕ → List Named → Option ℕ
place_in name [] = None
place_in name (n ∷ ns) = if bytes_eq n.name name then Some 0 else option_map (λ place. place + 1) (place_in name ns)
