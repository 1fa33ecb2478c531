-- A text that is read from slash to slash.
use Rattle.std.specs.Prelude.{ℕ, ◌+◌, List, [], ◌∷◌, Option, Some, None, length}
use Rattle.fs_path.specs.Segment.{segments}

-- the segments that are left: after the last there is no text
abbrev pub rest_segments : Option (List ℕ) → List (List ℕ)
rest_segments None = []
rest_segments (Some text) = segments text

-- how much of the text is left
abbrev pub left : Option (List ℕ) → ℕ
left None = 0
left (Some text) = length text + 1

-- what is left, behind its slash
abbrev pub after_slash : Option (List ℕ) → List ℕ
after_slash None = []
after_slash (Some text) = 47 ∷ text
