-- What a target shows: its view over the documents of a moment. It is the answer to its query, or the documents that there are of its
-- names.
--
--     documents                            c/a {n: 1}, c/b {n: 3}, c/d {n: 2}, d/a {n: 4}
--     the query of c by n, limit 2         c/a {n: 1}, c/d {n: 2}
--     the documents c/b, d/a and d/x       c/b {n: 3}, d/a {n: 4}
-- (v1 reference, `Target`.)
use Rattle.std.specs.Prelude.{ℤ, pos, int_le, Bool, true, ◌&&◌, List, Option, Some, None, is_none, map}
use Rattle.std.specs.FinMap.{empty, values}
use Rattle.fs_path.specs.declared.name.DocName.{DocName}
use Rattle.fs_value.specs.declared.document.Document.{Document}
use Rattle.fs_write.specs.Batch.{Docs}
use Rattle.fs_query.specs.AnswerTo.{answer_to}
use Rattle.fs_query.specs.Asked.{Asked}
use Rattle.fs_query.specs.Fits.{fits}
use Rattle.fs_history.specs.History.{at}
use Rattle.fs_history.specs.declared.batch.Batch.{Batch}
use Rattle.fs_match.specs.Event.{is_among}
use Rattle.fs_match.specs.Followed.{docs_fitting}
use Rattle.fs_query.specs.declared.target.Target.{Target}
use Rattle.fs_query.specs.declared.target.Target.TheVariants as target

-- a document that it listens to: it fits the query (cursors, offset and limit aside), or its name is among the names
abbrev pub is_listened : Target → Document → Bool
is_listened (target.Query q) d = fits q d
is_listened (target.Documents names) d = is_among names d

-- the names that it shows: those of the answer to the query, or those that it is of
abbrev pub shown_names : Target → Docs → List DocName
shown_names (target.Query q) docs = map (λ (d : Document). d.name) (answer_to q (values docs))
shown_names (target.Documents names) docs = names

-- its view: the documents that there are of these
abbrev pub view : Target → Docs → Docs
view t docs = docs_fitting (is_among (shown_names t docs)) docs

-- its view at a time of a history, and nothing at none
abbrev pub view_at : Target → List Batch → Option ℤ → Docs
view_at t h None = empty
view_at t h (Some time) = view t (at h time)

-- ---- where it is all that it listens to

-- no cursor, offset or limit cuts the query
abbrev pub is_whole_query : Asked → Bool
is_whole_query q = is_none q.start && (is_none q.end && (int_le q.offset (pos 0) && is_none q.limit))

abbrev pub is_whole : Target → Bool
is_whole (target.Query q) = is_whole_query q
is_whole (target.Documents names) = true
