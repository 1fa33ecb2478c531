-- What a client makes of what it is told of targets. Those that it doesn't listen to don't count: of a message that names others too, it stages
-- what concerns its own.
use Rattle.std.specs.Prelude.{ℕ, true, List, [], ◌∷◌, Option, Some, None}
use Rattle.std.specs.FinMap.{contains_key, get, insert, remove}
use Rattle.std.specs.List.{filter}
use Rattle.fs_query.specs.declared.listen.Cause.{Cause}
use Rattle.fs_query.specs.declared.listen.ListenMessage.{ListenMessage}
use Rattle.fs_query.specs.declared.listen.ListenMessage.TheVariants as message
use Rattle.fs_cache.specs.Cached.{Cached, changed, forgotten}
use Rattle.fs_local.specs.Raise.{told_unchanged}
use Rattle.fs_local.specs.State.{Client, Targets}
use Rattle.fs_local.specs.declared.listened.Listened.{Listened}

-- of some ids those that are listened to
abbrev pub own : Targets → List ℕ → List ℕ
own ts ids = filter (contains_key ts.listened) ids

abbrev pub own_part : Targets → ListenMessage → ListenMessage
own_part ts (message.Add ids) = message.Add (own ts ids)
own_part ts (message.Remove ids cause) = message.Remove (own ts ids) cause
own_part ts (message.Reset ids) = message.Reset (own ts ids)
own_part ts (message.Current ids time token) = message.Current (own ts ids) time token
own_part ts (message.NoChange time token) = message.NoChange time token
own_part ts (message.Changed d ids left) = message.Changed d (own ts ids) (own ts left)
own_part ts (message.Deleted name time left) = message.Deleted name time (own ts left)
own_part ts (message.Removed name time left) = message.Removed name time (own ts left)

-- what it has is told anew
abbrev pub staged : ListenMessage → Client → Client
staged m c = record c { cache = changed (own_part c.targets m) c.cache }

-- ---- targets that were told whole

abbrev pub current_at : Option Listened → ℕ → Targets → Targets
current_at None id ts = ts
current_at (Some l) id ts = record ts { listened = insert ts.listened id (record l { current = true }) }

abbrev pub with_current : List ℕ → Targets → Targets
with_current [] ts = ts
with_current (id ∷ ids) ts = with_current ids (current_at (get ts.listened id) id ts)

-- ---- targets that the server refused: they are listened to no longer

abbrev pub refused_at : Option Listened → ℕ → Cause → Targets → Targets
refused_at None id cause ts = ts
refused_at (Some l) id cause ts = record ts { listened = remove ts.listened id; causes = insert ts.causes id cause }

abbrev pub refused_targets : List ℕ → Cause → Targets → Targets
refused_targets [] cause ts = ts
refused_targets (id ∷ ids) cause ts = refused_targets ids cause (refused_at (get ts.listened id) id cause ts)

abbrev pub all_forgotten : List ℕ → Cached → Cached
all_forgotten [] c = c
all_forgotten (id ∷ ids) c = all_forgotten ids (forgotten id c)

abbrev pub told_removed : List ℕ → Option Cause → Client → Client
told_removed ids None c = staged (message.Remove ids None) c
told_removed ids (Some cause) c = record c { cache = all_forgotten (own c.targets ids) c.cache; targets = refused_targets ids cause c.targets }

-- ---- all of them

abbrev pub told : ListenMessage → Client → Client
told (message.Add ids) c = c
told (message.Remove ids cause) c = told_removed ids cause c
told (message.Reset ids) c = staged (message.Reset ids) c
told (message.Current ids time token) c = record c { targets = with_current ids c.targets }
told (message.NoChange time token) c = told_unchanged time token c
told (message.Changed d ids left) c = staged (message.Changed d ids left) c
told (message.Deleted name time left) c = staged (message.Deleted name time left) c
told (message.Removed name time left) c = staged (message.Removed name time left) c
