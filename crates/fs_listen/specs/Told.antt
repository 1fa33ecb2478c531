-- What is told of names, by the views that were sent and those that are new: at most one message a name, which tells it of all targets.
--
--     target 1 is the query of c with n >= 1, target 2 that of c
--     sent                      new                       told
--     1 and 2: c/a {n: 1}       2: c/a {n: 0}             c/a is {n: 0} for 2, and left 1
--     2: c/a {n: 0}             none, and no c/a          c/a is deleted, and left 2
--     1 and 2: c/b {n: 1}       1 and 2: c/b {n: 1}       nothing
-- (v1 reference, `DocumentChange`, `DocumentDelete`, `DocumentRemove`.)
use Rattle.std.specs.Prelude.{ℕ, ℤ, Bool, true, false, not, ◌&&◌, List, [], ◌∷◌, ◌++◌, Option, Some, None, map, if◌then◌else◌, is_some}
use Rattle.std.specs.FinMap.{get, entries, keys, from_entries}
use Rattle.std.specs.List.{filter, list_any, flat_map}
use Rattle.fs_path.specs.NameOrder.{name_cmp}
use Rattle.fs_path.specs.declared.name.DocName.{DocName}
use Rattle.fs_value.specs.Same.{same_document}
use Rattle.fs_value.specs.declared.document.Document.{Document}
use Rattle.fs_write.specs.Batch.{Docs}
use Rattle.fs_query.specs.declared.listen.ListenMessage.{ListenMessage}
use Rattle.fs_query.specs.declared.listen.ListenMessage.TheVariants as message

-- the views of a target: the one that was sent, and the one at the time of the raise
pub record Views : Type 0 where
  pub id : ℕ
  pub sent : Docs
  pub new : Docs

-- ---- at a name

-- the targets whose new view has it
abbrev pub having : DocName → List Views → List ℕ
having name vs = map (λ (v : Views). v.id) (filter (λ (v : Views). is_some (get v.new name)) vs)

-- those whose sent view has it, and whose new view lacks it
abbrev pub leaving : DocName → List Views → List ℕ
leaving name vs = map (λ (v : Views). v.id) (filter (λ (v : Views). is_some (get v.sent name) && not (is_some (get v.new name))) vs)

-- whether what is there is the same
abbrev pub same_there : Option Document → Option Document → Bool
same_there None None = true
same_there (Some a) (Some b) = same_document a b
same_there a b = false

-- whether the two views of one of them differ in it
abbrev pub is_differing : DocName → List Views → Bool
is_differing name vs = list_any (λ (v : Views). not (same_there (get v.sent name) (get v.new name))) vs

-- its document in the new views, where one has it
abbrev pub shown_in : DocName → List Views → Option Document
shown_in name [] = None
shown_in name (v ∷ vs) = if is_some (get v.new name) then get v.new name else shown_in name vs

-- the message, if there is one: a document changed, or views have it no longer, be it that it stands still or that it is gone
abbrev pub gone_from : Bool → ℤ → DocName → List ℕ → List ListenMessage
gone_from stands time name [] = []
gone_from stands time name (id ∷ ids) =
    (if stands then message.Removed name time (id ∷ ids) else message.Deleted name time (id ∷ ids)) ∷ []

abbrev pub told_of : Bool → ℤ → DocName → Option Document → List Views → List ListenMessage
told_of stands time name (Some d) vs = if is_differing name vs then message.Changed d (having name vs) (leaving name vs) ∷ [] else []
told_of stands time name None vs = gone_from stands time name (leaving name vs)

-- ---- of all names

-- the names of sent and new views, in their order
abbrev pub names_of : List Views → List DocName
names_of vs = keys {R = name_cmp} (from_entries (flat_map (λ (v : Views). entries v.sent) vs ++ flat_map (λ (v : Views). entries v.new) vs))

-- what is told at a time, by whether a document of a name stands then
abbrev pub told : (DocName → Bool) → ℤ → List Views → List ListenMessage
told stands time vs = flat_map (λ name. told_of (stands name) time name (shown_in name vs) vs) (names_of vs)
