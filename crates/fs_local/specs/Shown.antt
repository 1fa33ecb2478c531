-- What a client shows of a target: the answer to its query over the documents that it has, with the writes of the batches that aren't covered
-- made on them in order, whichever targets the documents came with; of a target of names, the documents that there are then.
use Rattle.std.specs.Prelude.{ℕ, Bool, not, ◌&&◌, false, List, map, Option, Some, None, option_map}
use Rattle.std.specs.FinMap.{get, values}
use Rattle.std.specs.List.{filter}
use Rattle.fs_path.specs.declared.name.DocName.{DocName}
use Rattle.fs_value.specs.declared.document.Document.{Document}
use Rattle.fs_write.specs.Batch.{Docs}
use Rattle.fs_query.specs.AnswerTo.{answer_to}
use Rattle.fs_query.specs.declared.target.Target.{Target}
use Rattle.fs_query.specs.declared.target.Target.TheVariants as target
use Rattle.fs_match.specs.Event.{is_among}
use Rattle.fs_match.specs.Followed.{docs_fitting}
use Rattle.fs_cache.specs.Cached.{documents}
use Rattle.fs_queue.specs.Overlay.{overlay}
use Rattle.fs_queue.specs.Queue.{batches, is_named}
use Rattle.fs_queue.specs.declared.batch.LocalBatch.{LocalBatch}
use Rattle.fs_local.specs.State.{Client, Link}
use Rattle.fs_local.specs.declared.listened.Listened.{Listened}
use Rattle.fs_local.specs.declared.view.View.{View}

-- over the documents of a moment: by the query's order, or by rising names
abbrev pub shown : Target → Docs → List Document
shown (target.Query q) docs = answer_to q (values docs)
shown (target.Documents names) docs = values (docs_fitting (is_among names) docs)

-- its documents with what it wrote
abbrev pub overlaid : Client → Docs
overlaid c = overlay (documents c.cache) (batches c.queue)

abbrev pub pending_of : List LocalBatch → List Document → List DocName
pending_of bs ds = filter (λ name. is_named name bs) (map (λ (d : Document). d.name) ds)

abbrev pub is_raised : Option Link → Bool
is_raised None = false
is_raised (Some link) = link.raised

-- the last snapshot was taken on the present link, and has the target
abbrev pub is_live : Option Link → Listened → Bool
is_live link l = is_raised link && l.shown

abbrev pub view_of_target : Client → Listened → View
view_of_target c l = record {
  snapshot = c.cache.snapshot;
  from_cache = not (is_live c.hand.link l);
  documents = shown l.target (overlaid c);
  pending = pending_of (batches c.queue) (shown l.target (overlaid c));
}

abbrev pub view_of : ℕ → Client → Option View
view_of id c = option_map (view_of_target c) (get c.targets.listened id)
