-- The places of entries by rising ids, and what happens to entries. (Only private clauses cite this.)
use Rattle.std.specs.Prelude.{◌≡◌, ℕ, ℤ, ◌<◌, ◌≤◌, IsTrue, List, [], ◌∷◌, ◌++◌, Option, Some, None, alloc_error, length, map, not, slice_index_or, true}
use Rattle.std.specs.FinMap.{is_sorted}
use Rattle.std.specs.List.{filter, filter_map, find}
use Rattle.std.specs.Option.{option_map}
use Rattle.std.specs.Ordering.{eq_by_cmp, nat_cmp}
use Rattle.std.specs.declared.cmp.Ordering.TheVariants.{Less, Greater}
use Rattle.fs_token.specs.Token.{token_of}
use Rattle.fs_query.specs.declared.listen.ListenMessage.{ListenMessage}
use Rattle.fs_query.specs.declared.listen.ListenMessage.TheVariants as message
use Rattle.fs_listen.specs.Cuts.{is_current}
use Rattle.fs_listen.specs.Listening.{Listened, made_current, moved, with_loaded}
use Rattle.fs_listen.specs.Sent.{current_from}
use Rattle.fs_listen.specs.Told.{Views, told}
use Rattle.fs_target.specs.Held.{events_behind, kept_fed, kept_raised, position_in}
use Rattle.fs_target.specs.Kept.{Kept, docs_at}
use Rattle.fs_target.specs.Ready.{Ready, sent_of}
use Rattle.fs_target.specs.Seen.{Seen, listed_in, loaded_in, seen}
use Rattle.fs_target.specs.Staged.{behind, put_events}
use Rattle.fs_target.specs.declared.entry.Entry.{Entry}
use Rattle.fs_target.specs.declared.error.TargetError.{TargetError}
use Rattle.fs_target.specs.declared.error.TargetError.TheVariants as error
use Rattle.fs_target.specs.declared.entry.Loaded as entry
use Rattle.fs_target.specs.declared.event.TimedEvent.{TimedEvent}

abbrev pub ids_of : List Seen → List ℕ
ids_of ss = map (λ (s : Seen). s.id) ss

-- by rising ids
abbrev pub Rises : List Seen → Type 0
Rises ss = IsTrue (is_sorted nat_cmp (map listed_in ss))

-- ---- the place of an id

-- it is there
pub record IsThereAt (id : ℕ) (ss : List Seen) (i : ℕ) : Type 0 where
  pub within : i < length ss
  pub same : (s : Seen) → (slice_index_or ss i s).id ≡ id

-- it isn't, and comes behind those before the place
pub record IsAbsentAt (id : ℕ) (ss : List Seen) (i : ℕ) : Type 0 where
  pub within : i ≤ length ss
  pub before : (k : ℕ) (s : Seen) → k < i → nat_cmp (slice_index_or ss k s).id id ≡ Less
  pub after : (k : ℕ) (s : Seen) → i ≤ k → k < length ss → nat_cmp (slice_index_or ss k s).id id ≡ Greater

-- why a target isn't put in: it is refused, or there is no memory
abbrev pub IsKeptOut : Option TargetError → TargetError → Type 0
IsKeptOut None e = e ≡ error.Memory alloc_error
IsKeptOut (Some refusal) e = e ≡ refusal

abbrev pub found : ℕ → List Seen → Option Seen
found id ss = find (λ (s : Seen). eq_by_cmp nat_cmp id s.id) ss

-- ---- feeding

-- after what is ready was taken in
abbrev pub kept_taken : Ready → Kept
kept_taken k = record k.kept { staged = put_events k.coming k.kept.staged }

abbrev pub taken : ℕ → ℤ → Entry → Seen
taken shard to e = record {
  id = e.id;
  listened = record { target = e.target; token = e.token; loaded = option_map (λ (l : entry.Loaded). moved shard to (loaded_in l)) e.loaded };
  kept = option_map (λ (l : entry.Loaded). kept_taken l.kept) e.loaded;
}

-- a target that was fed events
abbrev pub fed_in : ℕ → List TimedEvent → ℤ → Seen → Seen
fed_in shard es to s = record {
  id = s.id;
  listened = record s.listened { loaded = with_loaded (moved shard to) s.listened.loaded };
  kept = kept_fed (events_behind s.id (position_in shard (Some s.listened)) es) s.kept;
}

-- ---- raising

-- the view that was sent of it, and that which is ready
abbrev pub views_in : ℤ → Entry → Option Views
views_in time e = option_map (λ (l : entry.Loaded). record { id = e.id; sent = l.kept.kept.sent; new = sent_of l.kept.next (docs_at time l.kept.kept) }) e.loaded

-- what is told by the views that are ready
abbrev pub new_ids : List (ℕ × Listened) → List ℕ
new_ids ts = map (λ (e : ℕ × Listened). e.0) (filter (λ (e : ℕ × Listened). not (is_current e.1.loaded)) ts)

abbrev pub messages_in : ℤ → List Entry → List ListenMessage
messages_in time es =
    told (λ _. true) time (filter_map (views_in time) es)
    ++ (current_from time (new_ids (map listed_in (map seen es))) ++ message.NoChange time (token_of time) ∷ [])

-- after it went to that time
abbrev pub kept_gone : ℤ → Ready → Kept
kept_gone time k = record { sent = sent_of k.next (docs_at time k.kept); docs = docs_at time k.kept; staged = behind time k.kept.staged }

abbrev pub gone_to : ℤ → Entry → Seen
gone_to time e = record {
  id = e.id;
  listened = record { target = e.target; token = e.token; loaded = option_map (λ (l : entry.Loaded). made_current (loaded_in l)) e.loaded };
  kept = option_map (λ (l : entry.Loaded). kept_gone time l.kept) e.loaded;
}

-- a target that was raised
abbrev pub raised_in : ℤ → Seen → Seen
raised_in time s = record {
  id = s.id;
  listened = record s.listened { loaded = with_loaded made_current s.listened.loaded };
  kept = kept_raised time (Some s.listened) s.kept;
}
