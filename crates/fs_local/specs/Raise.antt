-- A client takes a snapshot where it is told NO_CHANGE: if each target that it listens to was told whole on this link, and the time isn't below
-- that of its last snapshot. What is staged is what it has then, and the batches that were committed by then are covered.
use Rattle.std.specs.Prelude.{ℕ, ℤ, int_le, Bool, true, ◌&&◌, List, Option, Some, None, if◌then◌else◌}
use Rattle.std.specs.FinMap.{values}
use Rattle.std.specs.List.{list_all}
use Rattle.fs_cache.specs.Cached.{taken_at}
use Rattle.fs_queue.specs.Queue.{covered_to}
use Rattle.fs_local.specs.Connect.{each}
use Rattle.fs_local.specs.State.{Client, Link, Targets}
use Rattle.fs_local.specs.declared.listened.Listened.{Listened}

abbrev pub is_from : Option ℤ → ℤ → Bool
is_from None time = true
is_from (Some snapshot) time = int_le snapshot time

abbrev pub all_current : Targets → Bool
all_current ts = list_all (λ (l : Listened). l.current) (values ts.listened)

abbrev pub may_raise : ℤ → Client → Bool
may_raise time c = is_from c.cache.snapshot time && all_current c.targets

abbrev pub now_shown : Listened → Listened
now_shown l = record l { shown = true }

-- it has all of them, by a token
abbrev pub with_snapshot : List ℕ → Targets → Targets
with_snapshot token ts = record (each now_shown ts) { token = Some token }

abbrev pub raised_link : Option Link → Option Link
raised_link None = None
raised_link (Some link) = Some (record link { raised = true })

abbrev pub raised : ℤ → List ℕ → Client → Client
raised time token c = record c {
  cache = taken_at time c.cache;
  targets = with_snapshot token c.targets;
  queue = covered_to time c.queue;
  hand = record c.hand { link = raised_link c.hand.link };
}

abbrev pub told_unchanged : ℤ → List ℕ → Client → Client
told_unchanged time token c = if may_raise time c then raised time token c else c
