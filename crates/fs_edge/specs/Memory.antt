-- What objects in memory hold.
use Rattle.std.specs.Prelude.{ℕ, List}
use Rattle.fs_edge.specs.declared.memory.pace.Pace.{Pace}
use Rattle.fs_edge.specs.Link.{Hearing}

-- a source: the bytes that are left, the paces of its next reads, and its counts of faults and of told ends
pub record SourceState : Type 0 where
  pub left : List ℕ
  pub paces : List Pace
  pub faults : ℕ
  pub ends : ℕ

-- a sink: the bytes that it took, the paces of its next writes, and its count of faults
pub record SinkState : Type 0 where
  pub given : List ℕ
  pub paces : List Pace
  pub faults : ℕ

-- a link: what it will hear, what was sent over it, the paces of its next calls, and its count of faults
pub record LinkState : Type 0 where
  pub to_hear : List Hearing
  pub sent : List (List ℕ)
  pub paces : List Pace
  pub faults : ℕ
