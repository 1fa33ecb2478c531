-- What a session listens to, with what is kept of it.
use Rattle.std.specs.Prelude.{◌≡◌, ℕ, ℤ, int_lt, ◌==◌, Bool, List, [], ◌∷◌, Option, Some, None, map, refl, if◌then◌else◌}
use Rattle.std.specs.Coded.{Coded, code_by, coded×, coded_ℕ, coded_option}
use Rattle.std.specs.FinMap.{FinMap, code, empty, entries, get, insert, remove}
use Rattle.std.specs.List.{AllByRecursion, filter_map}
use Rattle.std.specs.Option.{option_and_then}
use Rattle.std.specs.Ordering.{nat_cmp}
use Rattle.fs_query.specs.declared.target.Target.{Target}
use Rattle.fs_value.specs.declared.document.Document.{Document}
use Rattle.fs_listen.specs.Codes.{listening_code}
use Rattle.fs_listen.specs.Listening.{Listening}
use Rattle.fs_target.specs.Held.{Held, fed, kept_code, none_held, position_in, raised_at, with_loaded, with_target, without_target}
use Rattle.fs_target.specs.Keeps.{Keeps}
use Rattle.fs_target.specs.Kept.{Kept}
use Rattle.fs_target.specs.Prepared.{held_in}
use Rattle.fs_target.specs.declared.event.TimedEvent.{TimedEvent}
use Rattle.fs_machine.specs.Listeners.{Listener}
use Rattle.fs_machine.specs.Past.{Past}
use Rattle.fs_machine.specs.declared.config.Config.{Config}
use Rattle.fs_machine.specs.declared.limits.Limits.{Limits}
use Rattle.fs_pairs.specs.Pairs.{key_of}
use Rattle.fs_sessions.specs.declared.listeners.Ear.{Ear}

pub record Heard : Type 0 where
  -- the number of the session
  pub session : ℕ
  pub held : Held
  -- those of its targets, by their ids
  pub numbers : FinMap nat_cmp ℕ

-- it is stored as the tuple of its parts
abbrev pub held_code : Coded Held
held_code =
    code_by (ℕ × (ℕ × (Listening × FinMap nat_cmp (Option Kept)))) (coded× coded_ℕ (coded× coded_ℕ (coded× listening_code (code coded_ℕ (coded_option kept_code)))))
    (λ h. (h.shards, (h.limit, (h.listening, h.kept)))) (λ p. record { shards = p.0; limit = p.1.0; listening = p.1.1.0; kept = p.1.1.1 }) (λ _. refl)

abbrev pub heard_code : Coded Heard
heard_code =
    code_by (ℕ × (Held × FinMap nat_cmp ℕ)) (coded× coded_ℕ (coded× held_code (code coded_ℕ coded_ℕ)))
    (λ h. (h.session, (h.held, h.numbers))) (λ p. record { session = p.0; held = p.1.0; numbers = p.1.1 }) (λ _. refl)

abbrev pub heard_of : Ear → Heard
heard_of e = record { session = e.session; held = held_in e.targets; numbers = e.numbers }

-- what is told of it
abbrev pub listener_of : Heard → Listener
listener_of h = record { session = h.session; listening = h.held.listening; numbers = h.numbers }

abbrev pub listeners_of : List Heard → List Listener
listeners_of hs = map listener_of hs

-- ---- one of them

-- that of a session, if it is open
abbrev pub heard_in : ℕ → List Heard → Option Heard
heard_in session [] = None
heard_in session (h ∷ hs) = if h.session == session then Some h else heard_in session hs

-- with another for a session, if it is open
abbrev pub with_heard : ℕ → (Heard → Heard) → List Heard → List Heard
with_heard session change [] = []
with_heard session change (h ∷ hs) = if h.session == session then change h ∷ hs else h ∷ with_heard session change hs

-- without it
abbrev pub without_heard : ℕ → List Heard → List Heard
without_heard session [] = []
without_heard session (h ∷ hs) = if h.session == session then hs else h ∷ without_heard session hs

-- ---- what happens to one

abbrev pub opened_ear : ℕ → ℕ → ℕ → Heard
opened_ear session shards limit = record { session = session; held = none_held shards limit; numbers = empty }

abbrev pub heard_adding : ℕ → ℕ → Target → Option ℤ → Heard → Heard
heard_adding id number t token h = record h { held = with_target id t token h.held; numbers = insert h.numbers id number }

abbrev pub heard_removing : ℕ → Heard → Heard
heard_removing id h = record h { held = without_target id h.held; numbers = remove h.numbers id }

abbrev pub heard_loading : ℕ → List Document → Bool → List Document → ℤ → Heard → Heard
heard_loading id sent reset docs time h = record h { held = with_loaded id sent reset docs time h.held }

abbrev pub heard_raised : ℤ → Heard → Heard
heard_raised time h = record h { held = raised_at time h.held }

-- ---- matched

-- an event of its target, behind what that was told
abbrev pub picked_as : ℕ → Option ℤ → TimedEvent → Option TimedEvent
picked_as id None e = None
picked_as id (Some position) e = if int_lt position e.time then Some (record e { target = id }) else None

abbrev pub picked : ℕ → Heard → TimedEvent → Option TimedEvent
picked shard h e = option_and_then (λ id. picked_as id (position_in shard (get h.held.listening.targets id)) e) (key_of e.target (entries h.numbers))

abbrev pub heard_fed : ℕ → List TimedEvent → ℤ → Heard → Heard
heard_fed shard es to h = record h { held = fed shard (filter_map (picked shard h) es) to h.held }

-- ---- always

-- none has a number that isn't there
abbrev pub AreNumbered : Listening → FinMap nat_cmp ℕ → Type 0
AreNumbered s numbers = (id : ℕ) → get s.targets id ≡ None → get numbers id ≡ None

-- what is kept of its targets is what the history has
pub record IsHeard (config : Config) (limits : Limits) (p : Past) (h : Heard) : Type 0 where
  pub keeps : Keeps p.history p.released h.held
  pub shards : h.held.shards ≡ config.shards
  pub limit : h.held.limit ≡ limits.targets
  pub numbered : AreNumbered h.held.listening h.numbers

abbrev pub AreHeard : Config → Limits → Past → List Heard → Type 0
AreHeard config limits p hs = AllByRecursion (IsHeard config limits p) hs
