-- What is held of the targets of a session: how many shards and how many targets there may be, the targets themselves with how far
-- each is, and what is kept of those that are loaded.
use Rattle.std.specs.Prelude.{◌≡◌, ℕ, nat_le, nat_lt, ℤ, int_lt, Bool, true, false, ◌&&◌, List, [], Option, Some, None, map, refl, if◌then◌else◌, is_some, slice_index_or, ◌==◌}
use Rattle.std.specs.Coded.{Coded, code_by, coded×, coded_list}
use Rattle.std.specs.Ordering.{nat_cmp}
use Rattle.std.specs.FinMap.{FinMap, code, empty, entries, from_entries, get, insert, keys, len, remove}
use Rattle.std.specs.List.{filter, find}
use Rattle.std.specs.Option.{option_map}
use Rattle.fs_path.specs.contracts.name.DocName as name
use Rattle.fs_path.specs.declared.name.DocName.{DocName}
use Rattle.fs_value.specs.contracts.document.Document as document
use Rattle.fs_value.specs.declared.document.Document.{Document}
use Rattle.fs_write.specs.Batch.{Docs, docs_of}
use Rattle.fs_listen.specs.Listening.{Loaded, Listened, Listening, added, loaded, matched, none_listened, raised_to, removed}
use Rattle.fs_listen.specs.View.{is_listened}
use Rattle.fs_query.specs.declared.target.Target.{Target}
use Rattle.fs_target.specs.Kept.{Kept, kept_at}
use Rattle.fs_target.specs.Staged.{put_events}
use Rattle.fs_target.specs.contracts.event.TimedEvent as event
use Rattle.fs_target.specs.declared.error.TargetError.{TargetError}
use Rattle.fs_target.specs.declared.error.TargetError.TheVariants as error
use Rattle.fs_target.specs.declared.event.TimedEvent.{TimedEvent}

pub record Held : Type 0 where
  pub shards : ℕ
  pub limit : ℕ
  pub listening : Listening
  -- by the ids of targets, none of one that isn't loaded
  pub kept : FinMap nat_cmp (Option Kept)

-- ---- what is kept of one is stored as the tuple of its parts

abbrev pub docs_code : Coded Docs
docs_code = code name.the_row.coded document.the_row.coded

abbrev pub kept_code : Coded Kept
kept_code =
    code_by (Docs × (Docs × List TimedEvent)) (coded× docs_code (coded× docs_code (coded_list event.the_row.coded)))
    (λ k. (k.sent, (k.docs, k.staged))) (λ p. record { sent = p.0; docs = p.1.0; staged = p.1.1 }) (λ _. refl)

-- ---- what happens to them

abbrev pub none_held : ℕ → ℕ → Held
none_held shards limit = record { shards = shards; limit = limit; listening = none_listened; kept = empty }

abbrev pub with_target : ℕ → Target → Option ℤ → Held → Held
with_target id t token h = record h { listening = added id t token h.listening; kept = insert h.kept id None }

abbrev pub without_target : ℕ → Held → Held
without_target id h = record h { listening = removed id h.listening; kept = remove h.kept id }

-- loaded with the view that was sent and all documents that it listens to
abbrev pub with_loaded : ℕ → List Document → Bool → List Document → ℤ → Held → Held
with_loaded id sent reset docs time h = record h {
  listening = loaded h.shards id time reset h.listening;
  kept = insert h.kept id (Some (record { sent = docs_of sent; docs = docs_of docs; staged = [] }));
}

-- ---- one of them

-- why a target isn't added, if it isn't
abbrev pub refusal : ℕ → Held → Option TargetError
refusal id h =
    if nat_le h.limit (len h.listening.targets) then Some (error.TooMany h.limit)
    else (if is_some (get h.listening.targets id) then Some (error.InUse id) else None)

abbrev pub IsUnloaded : Option Listened → Type 0
IsUnloaded None = ⊥
IsUnloaded (Some l) = l.loaded ≡ None

-- no target listens to a document of this name
abbrev pub IsListenedByNone : DocName → Held → Type 0
IsListenedByNone name h = (id : ℕ) (l : Listened) (d : Document) → get h.listening.targets id ≡ Some l → d.name ≡ name → is_listened l.target d ≡ false

-- the events that are staged of one that is loaded
abbrev pub staged_of : Option (Option Kept) → Option (List TimedEvent)
staged_of None = None
staged_of (Some k) = option_map (λ (m : Kept). m.staged) k

abbrev pub is_above : Option ℕ → ℕ → Bool
is_above None k = true
is_above (Some id) k = nat_lt id k

-- of rising ids the first, or the first above one
abbrev pub id_after : Option ℕ → List ℕ → Option ℕ
id_after id ids = find (is_above id) ids

-- ---- feeding

-- the events of a target behind its position in a shard, and none where it has none there
abbrev pub events_behind : ℕ → Option ℤ → List TimedEvent → List TimedEvent
events_behind id None es = []
events_behind id (Some position) es = filter (λ (e : TimedEvent). (e.target == id) && int_lt position e.time) es

abbrev pub position_of : ℕ → Option Loaded → Option ℤ
position_of shard None = None
position_of shard (Some l) = slice_index_or l.positions shard None

abbrev pub position_in : ℕ → Option Listened → Option ℤ
position_in shard None = None
position_in shard (Some l) = position_of shard l.loaded

-- of all of them, by their ids
abbrev pub positions_in : ℕ → Held → List (Option ℤ)
positions_in shard h = map (λ (id : ℕ). position_in shard (get h.listening.targets id)) (keys h.listening.targets)

abbrev pub kept_fed : List TimedEvent → Option Kept → Option Kept
kept_fed es None = None
kept_fed es (Some k) = Some (record k { staged = put_events es k.staged })

abbrev pub each_kept : (ℕ → Option Kept → Option Kept) → FinMap nat_cmp (Option Kept) → FinMap nat_cmp (Option Kept)
each_kept change ks = from_entries (map (λ (e : ℕ × Option Kept). (e.0, change e.0 e.1)) (entries ks))

abbrev pub fed : ℕ → List TimedEvent → ℤ → Held → Held
fed shard es to h = record h {
  listening = matched shard to h.listening;
  kept = each_kept (λ id k. kept_fed (events_behind id (position_in shard (get h.listening.targets id)) es) k) h.kept;
}

-- ---- raising

abbrev pub kept_raised : ℤ → Option Listened → Option Kept → Option Kept
kept_raised time None k = k
kept_raised time (Some l) None = None
kept_raised time (Some l) (Some k) = Some (kept_at time l.target k)

abbrev pub raised_at : ℤ → Held → Held
raised_at time h = record h {
  listening = raised_to time h.listening;
  kept = each_kept (λ id k. kept_raised time (get h.listening.targets id) k) h.kept;
}
