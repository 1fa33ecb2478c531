-- How far the targets of a session are together, and whether it can be raised. (The example of `Listening` shows both.)
use Rattle.std.specs.Prelude.{ℕ, ℤ, int_lt, int_le, Bool, true, false, not, ◌&&◌, ◌||◌, List, [], ◌∷◌, Option, Some, None, if◌then◌else◌}
use Rattle.std.specs.FinMap.{entries, values}
use Rattle.std.specs.List.{list_any, flat_map}
use Rattle.fs_listen.specs.Listening.{Loaded, Listened, Listening}
use Rattle.fs_listen.specs.declared.cut.Cut.{Cut}
use Rattle.fs_listen.specs.declared.cut.Cut.TheVariants.{At, Loading, NoTarget}

-- ---- of times that may be there

abbrev pub lesser_of : ℤ → Option ℤ → ℤ
lesser_of t None = t
lesser_of t (Some u) = if int_lt u t then u else t

abbrev pub least_before : Option ℤ → Option ℤ → Option ℤ
least_before None least = least
least_before (Some t) least = Some (lesser_of t least)

abbrev pub least : List (Option ℤ) → Option ℤ
least [] = None
least (t ∷ ts) = least_before t (least ts)

abbrev pub greater_of : ℤ → Option ℤ → ℤ
greater_of t None = t
greater_of t (Some u) = if int_lt t u then u else t

abbrev pub greatest_before : Option ℤ → Option ℤ → Option ℤ
greatest_before None greatest = greatest
greatest_before (Some t) greatest = Some (greater_of t greatest)

abbrev pub greatest : List (Option ℤ) → Option ℤ
greatest [] = None
greatest (t ∷ ts) = greatest_before t (greatest ts)

-- ---- the cut

abbrev pub positions_of : Option Loaded → List (Option ℤ)
positions_of None = []
positions_of (Some l) = l.positions

abbrev pub load_time : Option Loaded → Option ℤ
load_time None = None
load_time (Some l) = Some l.time

abbrev pub is_loaded : Option Loaded → Bool
is_loaded None = false
is_loaded (Some l) = true

abbrev pub is_current : Option Loaded → Bool
is_current None = false
is_current (Some l) = l.current

-- the first that isn't loaded
abbrev pub first_loading : List (ℕ × Listened) → Option ℕ
first_loading [] = None
first_loading (e ∷ es) = if is_loaded e.1.loaded then first_loading es else Some e.0

-- the least position of all targets
abbrev pub least_position : Listening → Option ℤ
least_position s = least (flat_map (λ (l : Listened). positions_of l.loaded) (values s.targets))

abbrev pub cut_at : Option ℤ → Cut
cut_at None = NoTarget
cut_at (Some t) = At t

abbrev pub cut_behind : Option ℕ → Option ℤ → Cut
cut_behind (Some id) position = Loading id
cut_behind None position = cut_at position

abbrev pub cut : Listening → Cut
cut s = cut_behind (first_loading (entries s.targets)) (least_position s)

-- the time below which no raise is: the greatest of the last raise, of what tokens show, and of what targets were loaded at
abbrev pub times_of : Listened → List (Option ℤ)
times_of l = l.token ∷ load_time l.loaded ∷ []

abbrev pub base : Listening → Option ℤ
base s = greatest (s.raised ∷ flat_map times_of (values s.targets))

-- ---- a raise

abbrev pub is_from : Option ℤ → ℤ → Bool
is_from None t = true
is_from (Some s) t = int_le s t

abbrev pub is_behind : Option ℤ → ℤ → Bool
is_behind None t = true
is_behind (Some s) t = int_lt s t

abbrev pub some_new : Listening → Bool
some_new s = list_any (λ (l : Listened). not (is_current l.loaded)) (values s.targets)

-- it can be raised where it is at a time that isn't below the base, and either that is a later one or a target is new
abbrev pub is_ready_at : Listening → Cut → Bool
is_ready_at s (At t) = is_from (base s) t && (is_behind s.raised t || some_new s)
is_ready_at s (Loading id) = false
is_ready_at s NoTarget = false

abbrev pub is_ready : Listening → Bool
is_ready s = is_ready_at s (cut s)
