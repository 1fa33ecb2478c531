-- Only private clauses cite this: what the ids of a path break, gathered id by id.
use Rattle.std.specs.Prelude.{ℕ, ◌+◌, false, ◌&&◌, ◌||◌, List, Some, None, is_none, length, if◌then◌else◌}
use Rattle.fs_path.specs.Findings.{Findings}
use Rattle.fs_path.specs.Segment.{is_empty, is_reserved, is_dots, is_long}

abbrev pub before_all : Findings
before_all = record { count = 0; empty = false; reserved = false; dots = false; long = None }

-- one id more
abbrev pub noted : Findings → List ℕ → Findings
noted s id = record {
  count = s.count + 1;
  empty = s.empty || is_empty id;
  reserved = s.reserved || is_reserved id;
  dots = s.dots || is_dots id;
  long = if is_long id && is_none s.long then Some (length id) else s.long;
}
