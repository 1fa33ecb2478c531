-- Paces of calls on objects in memory. Each call uses up one: of the list [AtMost(2), Fail], a source of `abcde` that is
-- read into a buffer of four bytes gives `ab` and has [Fail] left, then fails and has [] left, and then gives `cde`.
use Rattle.std.specs.Prelude.{◌≡◌, ℕ, ◌<◌, min, List, [], ◌∷◌, Bool, true, nat_lt, nat_eq, ◌&&◌, if◌then◌else◌, ◌⊎◌}
use Rattle.fs_edge.specs.declared.memory.pace.Pace.{Pace}
use Rattle.fs_edge.specs.declared.memory.pace.Pace.TheVariants.{Free, AtMost, Fail}
use Rattle.fs_edge.specs.declared.source.Took.{Took}
use Rattle.fs_edge.specs.declared.source.Took.TheVariants as took
use Rattle.fs_edge.specs.declared.sink.Gave.{Gave}
use Rattle.fs_edge.specs.declared.sink.Gave.TheVariants as gave

-- the pace of the next call; after the last they are free
abbrev pub next_pace : List Pace → Pace
next_pace [] = Free
next_pace (pace ∷ paces) = pace

-- a read that gives no byte would tell the end, so a source's pace lets at least one through
abbrev pub lets_through : Pace → Bool
lets_through Free = true
lets_through (AtMost n) = nat_lt 0 n
lets_through Fail = true

abbrev pub all_let_through : List Pace → Bool
all_let_through [] = true
all_let_through (pace ∷ paces) = lets_through pace && all_let_through paces

-- how many bytes a call moves of those that it could
abbrev pub moved_of : Pace → ℕ → ℕ
moved_of Free there = there
moved_of (AtMost most) there = min there most
moved_of Fail there = 0

-- What a read gives that does not fail and may move so many bytes, where so many are left, into a buffer with so much
-- room. Into no room it gives none, and where none are left it tells the end.
abbrev pub took_of : ℕ → ℕ → ℕ → Took
took_of left room moved = if nat_eq room 0 then took.Bytes 0 else (if nat_eq left 0 then took.End else took.Bytes moved)

-- what a read gives at a pace
abbrev pub paced_read : Pace → ℕ → ℕ → Took
paced_read Free left room = took_of left room (moved_of Free (min left room))
paced_read (AtMost most) left room = took_of left room (moved_of (AtMost most) (min left room))
paced_read Fail left room = took.Failed

-- what a write gives that may move so many bytes of a piece of so many: to take none of a piece that has some is to fail
abbrev pub gave_of : ℕ → ℕ → Gave
gave_of size moved = if nat_lt 0 size && nat_eq moved 0 then gave.Failed else gave.Bytes moved

-- what a write of so many bytes gives at a pace, where there is memory
abbrev pub paced_write : Pace → ℕ → Gave
paced_write Free size = gave_of size (moved_of Free size)
paced_write (AtMost most) size = gave_of size (moved_of (AtMost most) size)
paced_write Fail size = gave.Failed

-- A write goes by its pace, or fails for want of memory for the bytes that it would take.
abbrev pub IsPacedWrite : Pace → ℕ → Gave → Type 0
IsPacedWrite pace size given = (given ≡ paced_write pace size) ⊎ ((given ≡ gave.Failed) × (0 < moved_of pace size))
