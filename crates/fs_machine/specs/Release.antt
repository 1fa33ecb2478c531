-- What is released: the accepted commits before which none is pending any more. They enter the history in the order of their
-- times, readers see them, their replies go to the outboxes, and those of streams are finished, all at once.
use Rattle.std.specs.Prelude.{ℤ, pos, ◌-ℤ◌, Bool, not, ◌&&◌, int_le, List, [], ◌∷◌, map, unwrap_or, if◌then◌else◌}
use Rattle.std.specs.List.{filter}
use Rattle.fs_history.specs.declared.batch.Batch.{Batch}
use Rattle.fs_request.specs.declared.message.Message.TheVariants as message
use Rattle.fs_machine.specs.Past.{Past, is_pending}
use Rattle.fs_machine.specs.declared.unreleased.Unreleased.{Unreleased}
use Rattle.fs_machine.specs.Sessions.{delivered}
use Rattle.fs_machine.specs.State.{Machine}
use Rattle.fs_machine.specs.Stream.{Desk, batch_finished, desk_of, kept_of, with_desk}
use Rattle.fs_machine.specs.declared.asker.Asker.{Asker}
use Rattle.fs_machine.specs.declared.asker.Asker.TheVariants as asker
use Rattle.fs_machine.specs.declared.committed.Committed.{Committed}

-- the time up to which none is pending: one below the first that is, or the last that was issued
abbrev pub free_to : ℤ → List Unreleased → ℤ
free_to last [] = last
free_to last (u ∷ us) = if is_pending u then u.batch.time -ℤ pos 1 else free_to last us

-- it is accepted, at this time or before
abbrev pub is_freed : ℤ → Unreleased → Bool
is_freed to u = not (is_pending u) && int_le u.batch.time to

abbrev pub freed : ℤ → List Unreleased → List Unreleased
freed to us = filter (is_freed to) us

abbrev pub kept_back : ℤ → List Unreleased → List Unreleased
kept_back to us = filter (λ u. not (is_freed to u)) us

-- the history with these commits, the first of them first
abbrev pub joined : List Batch → List Unreleased → List Batch
joined h [] = h
joined h (u ∷ us) = joined (u.batch ∷ h) us

abbrev pub released_to : ℤ → Past → Past
released_to to p = record p { history = joined p.history (freed to p.unreleased); unreleased = kept_back to p.unreleased; released = to }

abbrev pub past_released : Past → Past
past_released p = released_to (free_to p.last p.unreleased) p

-- an accepted commit, by what it is answered
abbrev pub as_committed : Unreleased → Committed
as_committed u = record { asker = u.asker; time = u.batch.time; results = unwrap_or u.results [] }

-- the session that asked for it is told, or its stream has finished it
abbrev pub answered_to : Committed → Asker → Desk → Desk
answered_to c (asker.Session session request) d = (d.0, delivered session (message.Commit request c.time c.results) d.1)
answered_to c (asker.Stream n) d = batch_finished n (kept_of d.0 n c) d

-- these, the first of them first
abbrev pub all_answered : List Committed → Desk → Desk
all_answered [] d = d
all_answered (c ∷ cs) d = all_answered cs (answered_to c c.asker d)

-- what a release lets out
abbrev pub let_out : Past → List Unreleased
let_out p = freed (free_to p.last p.unreleased) p.unreleased

abbrev pub committed_out : Past → List Committed
committed_out p = map as_committed (let_out p)

abbrev pub released : Machine → Machine
released m = with_desk (record m { past = past_released m.past }) (all_answered (committed_out m.past) (desk_of m))
