-- Targets that stand still: each is loaded and current, nothing is staged, and those that have a shard are at one position there. What is
-- taken in of a shard that concerns none of them then moves that position, and no target is looked at.
--
--     two shards; 1 is the query of c, in shard 1, and 2 the documents c/a and d/a, in both
--                                positions of 1, 2 that are kept     of the shards     as contracts see them
--     both raised at 5           none and 5, 5 and 5                 5, 5              none and 5, 5 and 5
--     shard 0 taken in up to 8   none and 5, 5 and 5                 8, 5              none and 5, 8 and 5
--     3 is added                 none and 5, 8 and 5                 no longer still   none and 5, 8 and 5
-- (Only private clauses cite this.)
use Rattle.std.specs.Prelude.{◌≡◌, ℤ, pos, Bool, true, false, ◌&&◌, List, [], ◌∷◌, Option, Some, None, map}
use Rattle.std.specs.List.{AllByRecursion, flat_map}
use Rattle.std.specs.Option.{option_map}
use Rattle.std.specs.Vec.{with_items}
use Rattle.fs_listen.specs.Cuts.{greatest, greatest_before, is_behind, is_from, positions_of, times_of}
use Rattle.fs_listen.specs.Listening.{Listened, Loaded, with_loaded}
use Rattle.fs_query.specs.declared.target.Target.{Target}
use Rattle.fs_target.specs.Entries.{Rises}
use Rattle.fs_target.specs.Kept.{Kept, shown_of}
use Rattle.fs_target.specs.Prepared.{AreReady, Prepared}
use Rattle.fs_target.specs.Ready.{next_at}
use Rattle.fs_target.specs.Seen.{Seen, seen}
use Rattle.fs_target.specs.Staged.{behind}
use Rattle.fs_target.specs.declared.entry.Entry.{Entry}
use Rattle.fs_target.specs.declared.entry.Loaded as entry
use Rattle.fs_target.specs.declared.still.Next.{Next}
use Rattle.fs_target.specs.declared.still.Still.{Still}

-- ---- the positions of a target, by those of the shards

abbrev pub in_own : Option ℤ → Option ℤ → Option ℤ
in_own None position = None
in_own (Some time) position = position

-- those of the shards that it has
abbrev pub in_all : List (Option ℤ) → List (Option ℤ) → List (Option ℤ)
in_all [] positions = []
in_all (o ∷ os) [] = None ∷ in_all os []
in_all (o ∷ os) (p ∷ ps) = in_own o p ∷ in_all os ps

abbrev pub listened_at : List (Option ℤ) → Listened → Listened
listened_at positions l = record l { loaded = with_loaded (λ (m : Loaded). record m { positions = in_all m.positions positions }) l.loaded }

abbrev pub seen_at : List (Option ℤ) → Seen → Seen
seen_at positions s = record s { listened = listened_at positions s.listened }

-- an entry that stands still as what it stands for, with nothing to come but what it shows
abbrev pub loaded_at : List (Option ℤ) → Target → entry.Loaded → entry.Loaded
loaded_at positions t l = record l {
  positions = with_items l.positions (in_all l.positions.items positions);
  kept = record { kept = l.kept.kept; coming = []; next = next_at (pos 0) t l.kept.kept };
}

abbrev pub entry_at : List (Option ℤ) → Entry → Entry
entry_at positions e = record e { loaded = option_map (loaded_at positions e.target) e.loaded }

abbrev pub standing : List (Option ℤ) → Prepared → Prepared
standing positions v = record v { entries = map (entry_at positions) v.entries }

-- what contracts see
abbrev pub as_awake : Option Still → Prepared → Prepared
as_awake None v = v
as_awake (Some s) v = standing s.positions.items v

-- ---- the positions of the shards, by those of the targets

abbrev pub first_of : Option ℤ → Option ℤ → Option ℤ
first_of None other = other
first_of (Some time) other = Some time

-- where there is none, that of a target
abbrev pub joined : List (Option ℤ) → List (Option ℤ) → List (Option ℤ)
joined [] positions = positions
joined (o ∷ os) [] = []
joined (o ∷ os) (p ∷ ps) = first_of p o ∷ joined os ps

abbrev pub all_joined : List (Option ℤ) → List Seen → List (Option ℤ)
all_joined positions [] = positions
all_joined positions (s ∷ ss) = all_joined (joined (positions_of s.listened.loaded) positions) ss

abbrev pub nones : List (Option ℤ) → List (Option ℤ)
nones positions = map (λ _. None) positions

-- the greatest time that a token shows, or that a target was loaded at
abbrev pub base_in : List Seen → Option ℤ
base_in ss = greatest (flat_map (λ (s : Seen). times_of s.listened) ss)

-- the positions are in shards that some target has, and the base is that of all
pub record AreOf (s : Still) (ss : List Seen) : Type 0 where
  pub had : in_all (all_joined (nones s.positions.items) ss) s.positions.items ≡ s.positions.items
  pub base : s.base ≡ base_in ss
  pub rise : Rises ss

-- ---- those that stand still

abbrev pub IsStillWith : Target → Option Loaded → Option Kept → Type 0
IsStillWith t None k = ⊥
IsStillWith t (Some l) None = ⊥
IsStillWith t (Some l) (Some k) = (l.current ≡ true) × ((k.staged ≡ []) × (k.sent ≡ shown_of t k.docs))

abbrev pub IsStill : Seen → Type 0
IsStill s = IsStillWith s.listened.target s.listened.loaded s.kept

pub record AreStill (s : Still) (v : Prepared) : Type 0 where
  pub each : AllByRecursion IsStill (map seen v.entries)
  pub of : AreOf s (map seen v.entries)

-- ---- those that will once they are raised at a time

abbrev pub WillBeWith : ℤ → List (Option ℤ) → Option Loaded → Option Kept → Type 0
WillBeWith time positions None k = ⊥
WillBeWith time positions (Some l) None = ⊥
WillBeWith time positions (Some l) (Some k) = (in_all l.positions positions ≡ l.positions) × (behind time k.staged ≡ [])

abbrev pub WillBe : ℤ → List (Option ℤ) → Seen → Type 0
WillBe time positions s = WillBeWith time positions s.listened.loaded s.kept

pub record WillStand (time : ℤ) (s : Still) (v : Prepared) : Type 0 where
  pub each : AllByRecursion (WillBe time s.positions.items) (map seen v.entries)
  pub of : AreOf s (map seen v.entries)

pub record IsNextStill (n : Next) (v : Prepared) : Type 0 where
  pub ready : AreReady n.time v
  pub stand : WillStand n.time n.still v

-- ---- whether they can be raised, by their least position, their base and the last raise

abbrev pub is_ready_still : Option ℤ → Option ℤ → Option ℤ → Bool
is_ready_still None base raised = false
is_ready_still (Some time) base raised = is_from (greatest_before raised base) time && is_behind raised time
