-- The write streams of a database, and which session owns which.
--
--     session 4 opens, session 7 opens         4 owns stream 1, 7 owns stream 2
--     a batch of stream 1 is finished          stream 1 has one finished, and keeps its response
--     session 4 leaves                         nobody owns stream 1; all else of it stays
--     session 9 resumes stream 2               9 owns it, and 7 owns none
-- (v1 reference, "Write": the stream is named by `streamId`, and what was received of it by `streamToken`.)
use Rattle.std.specs.Prelude.{ℕ, zero, suc, true, false, List, [], ◌∷◌, ◌++◌, Option, Some, None, length, refl, slice_index_or, slice_set}
use Rattle.std.specs.Coded.{Coded, code_by, coded×, coded_list, coded_ℕ}
use Rattle.std.specs.FinMap.{FinMap, code, empty, get, insert, remove}
use Rattle.std.specs.Option.{option_map}
use Rattle.std.specs.Ordering.{nat_cmp}
use Rattle.fs_pairs.specs.Pairs.{freed}
use Rattle.fs_stream.specs.contracts.stream.Stream as stream
use Rattle.fs_stream.specs.declared.kept.Kept.{Kept}
use Rattle.fs_stream.specs.declared.stream.Stream.{Stream}
use Rattle.fs_stream.specs.declared.take.Take.{Take}
use Rattle.fs_stream.specs.declared.take.Take.TheVariants.{New, Repeat, InProgress}

pub record Streams : Type 0 where
  -- stream 1 first
  pub opened : List Stream
  -- by a session the stream that it owns
  pub owners : FinMap nat_cmp ℕ
  -- so many may be opened
  pub limit : ℕ

-- they are stored as the tuple of their parts
abbrev pub streams_code : Coded Streams
streams_code =
    code_by (List Stream × (FinMap nat_cmp ℕ × ℕ)) (coded× (coded_list stream.the_row.coded) (coded× (code coded_ℕ coded_ℕ) coded_ℕ))
    (λ s. (s.opened, (s.owners, s.limit)))
    (λ p. record { opened = p.0; owners = p.1.0; limit = p.1.1 })
    (λ _. refl)

abbrev pub none_opened : ℕ → Streams
none_opened limit = record { opened = []; owners = empty; limit = limit }

-- one that is opened just now
abbrev pub fresh : Stream
fresh = record { finished = 0; kept = None; busy = false }

-- the stream of a number
abbrev pub stream_of : ℕ → Streams → Stream
stream_of zero m = fresh
stream_of (suc i) m = slice_index_or m.opened i fresh

-- the stream that a session owns, and how many of its batches are finished
abbrev pub owned_by : ℕ → Streams → Option (ℕ × ℕ)
owned_by session m = option_map (λ n. (n, (stream_of n m).finished)) (get m.owners session)

-- ---- what becomes of them

abbrev pub opened_by : ℕ → Streams → Streams
opened_by session m = record m { opened = m.opened ++ fresh ∷ []; owners = insert m.owners session (suc (length m.opened)) }

-- a session owns a stream from now on, and who owned it owns none
abbrev pub handed_to : ℕ → ℕ → Streams → Streams
handed_to session n m = record m { owners = insert (freed m.owners n) session n }

abbrev pub with_stream : ℕ → Stream → Streams → Streams
with_stream zero s m = m
with_stream (suc i) s m = record m { opened = slice_set m.opened i s }

-- a new batch is in progress from now on
abbrev pub taken : Take → Streams → Streams
taken (New n) m = with_stream n (record (stream_of n m) { busy = true }) m
taken (Repeat kept) m = m
taken (InProgress n) m = m

-- the batch in progress is finished, and its response is kept
abbrev pub finished_by : Kept → Stream → Stream
finished_by kept s = record { finished = suc s.finished; kept = Some kept; busy = false }

abbrev pub finished_with : ℕ → Kept → Streams → Streams
finished_with n kept m = with_stream n (finished_by kept (stream_of n m)) m

abbrev pub left_by : ℕ → Streams → Streams
left_by session m = record m { owners = remove m.owners session }
