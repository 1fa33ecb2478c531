-- The runs of one session: what may happen to its targets and to the history beside them, in any order, and all that the session was told.
--
--     event                       the session was told
--     added 1 is the query of c   ADD 1
--     released c/a {n: 1} at 1
--     loaded 1 at 1
--     raised                      c/a {n: 1} for 1, CURRENT 1 at 1, NO_CHANGE at 1
--     released c/a {n: 2} at 2
--     raised
--     matched 0 up to 2
--     raised                      c/a {n: 2} for 1, NO_CHANGE at 2
use Rattle.std.specs.Prelude.{◌≡◌, ℕ, ℤ, int_lt, ◌<ℤ◌, ◌≤ℤ◌, ⊤, Bool, false, List, [], ◌∷◌, ◌++◌, Option, Some, None, IfSome, if◌then◌else◌}
use Rattle.std.specs.FinMap.{get}
use Rattle.std.specs.List.{AllByRecursion}
use Rattle.fs_query.specs.declared.listen.Cause.{Cause}
use Rattle.fs_query.specs.declared.listen.ListenMessage.{ListenMessage}
use Rattle.fs_query.specs.declared.listen.ListenMessage.TheVariants as message
use Rattle.fs_history.specs.declared.batch.Batch.{Batch}
use Rattle.fs_listen.specs.Cuts.{cut, is_ready}
use Rattle.fs_listen.specs.Listening.{Listened, Listening, none_listened, added, removed, loaded, matched, raised_to}
use Rattle.fs_listen.specs.Raised.{raised}
use Rattle.fs_listen.specs.declared.cut.Cut.{Cut}
use Rattle.fs_listen.specs.declared.cut.Cut.TheVariants.{At, Loading, NoTarget}
use Rattle.fs_query.specs.declared.target.Target.{Target}

pub record World : Type 0 where
  pub history : List Batch
  -- the time up to which the history is known
  pub released : ℤ
  -- the time from which on it is kept
  pub floor : ℤ
  pub listening : Listening
  -- all that the session was told
  pub said : List ListenMessage

pub data Event : Type 0 where
  adds : ℕ → Target → Option ℤ → Event
  -- a target that isn't there is refused
  refuses : ℕ → Cause → Event
  removes : ℕ → Event
  loads : ℕ → ℤ → Event
  matches : ℕ → ℤ → Event
  raises : Event
  releases : List Batch → ℤ → Event
  compacts : ℤ → Event

-- ---- what each of them does

abbrev pub with_told : Listening → List ListenMessage → World → World
with_told s ms w = record w { listening = s; said = w.said ++ ms }

-- a load resets exactly where the token is from before the floor
abbrev pub is_lost : ℤ → Option ℤ → Bool
is_lost floor None = false
is_lost floor (Some token) = int_lt token floor

abbrev pub reset_of : ℕ → Bool → List ListenMessage
reset_of id reset = if reset then message.Reset (id ∷ []) ∷ [] else []

abbrev pub token_of_target : Option Listened → Option ℤ
token_of_target None = None
token_of_target (Some l) = l.token

abbrev pub loading : ℕ → ℕ → ℤ → Bool → World → World
loading shards id time reset w = with_told (loaded shards id time reset w.listening) (reset_of id reset) w

abbrev pub raising_at : Bool → Cut → World → World
raising_at ready (At time) w = if ready then with_told (raised_to time w.listening) (raised w.history time w.listening) w else w
raising_at ready (Loading id) w = w
raising_at ready NoTarget w = w

abbrev pub raising : World → World
raising w = raising_at (is_ready w.listening) (cut w.listening) w

abbrev pub after : ℕ → Event → World → World
after shards (adds id t token) w = with_told (added id t token w.listening) (message.Add (id ∷ []) ∷ []) w
after shards (refuses id cause) w = record w { said = w.said ++ message.Remove (id ∷ []) (Some cause) ∷ [] }
after shards (removes id) w = with_told (removed id w.listening) (message.Remove (id ∷ []) None ∷ []) w
after shards (loads id time) w = loading shards id time (is_lost w.floor (token_of_target (get w.listening.targets id))) w
after shards (matches shard to) w = record w { listening = matched shard to w.listening }
after shards raises w = raising w
after shards (releases bs to) w = record w { history = bs ++ w.history; released = to }
after shards (compacts to) w = record w { floor = to }

-- ---- when they may happen

abbrev pub IsNotLoaded : Option Listened → Type 0
IsNotLoaded l = IfSome l (λ l. l.loaded ≡ None)

-- a token is of a time that was released, a target is loaded at one, and a shard is matched up to one; what is released is later
abbrev pub May : Event → World → Type 0
May (adds id t token) w = (get w.listening.targets id ≡ None) × IfSome token (λ k. k ≤ℤ w.released)
May (refuses id cause) w = get w.listening.targets id ≡ None
May (removes id) w = ⊤
May (loads id time) w = IsNotLoaded (get w.listening.targets id) × (w.floor ≤ℤ time) × (time ≤ℤ w.released)
May (matches shard to) w = to ≤ℤ w.released
May raises w = ⊤
May (releases bs to) w = AllByRecursion (λ b. w.released <ℤ b.time) bs × (w.released ≤ℤ to)
May (compacts to) w = (w.floor ≤ℤ to) × (to ≤ℤ w.released)

-- ---- runs

abbrev pub after_all : ℕ → List Event → World → World
after_all shards [] w = w
after_all shards (e ∷ es) w = after_all shards es (after shards e w)

abbrev pub MayAll : ℕ → List Event → World → Type 0
MayAll shards [] w = ⊤
MayAll shards (e ∷ es) w = May e w × MayAll shards es (after shards e w)

-- a session that was told nothing, beside any history
abbrev pub begun : List Batch → ℤ → ℤ → World
begun h released floor = record { history = h; released = released; floor = floor; listening = none_listened; said = [] }
