-- The limits of writes.
use Rattle.std.specs.Prelude.{ℕ}

-- the most names that a transform's path may have. A value there nests far deeper than a document may
abbrev pub longest_transform_path : ℕ
longest_transform_path = 127

-- the most writes that a commit may have
abbrev pub most_writes : ℕ
most_writes = 500
