-- How much a run reads, and how much it writes at a time.
use Rattle.std.specs.Prelude.{ℕ}

-- the longest line that is read, in bytes without its newline
abbrev pub longest_line : ℕ
longest_line = 10485760

-- so many bytes end a run, and no more are taken
abbrev pub longest_input : ℕ
longest_input = 4294967296

-- for private clauses: output that has so many bytes goes to the sink, so that fewer wait behind each line
abbrev pub piece_size : ℕ
piece_size = 65536
