-- What whoever reads the messages of a session has of a target at a name, one message after another. It begins, as the target is added,
-- with what its token resumes. No view at a later time is looked at.
--
--     target 1 was resumed where c/a was {n: 1}
--     ADD 1                            {n: 1}
--     RESET 1                          none
--     c/a is {n: 2} for 1 and 2        {n: 2}
--     c/a is {n: 3} for 2, left 1      none
use Rattle.std.specs.Prelude.{ℕ, ℤ, ◌≤ℤ◌, ⊤, Bool, List, [], ◌∷◌, Option, Some, None, if◌then◌else◌, ◌==◌, ◌&&◌}
use Rattle.std.specs.List.{list_any, AllByRecursion}
use Rattle.fs_path.specs.NameOrder.{name_eq}
use Rattle.fs_path.specs.declared.name.DocName.{DocName}
use Rattle.fs_value.specs.declared.document.Document.{Document}
use Rattle.fs_query.specs.declared.listen.ListenMessage.{ListenMessage}
use Rattle.fs_query.specs.declared.listen.ListenMessage.TheVariants as message

abbrev pub is_in : ℕ → List ℕ → Bool
is_in id ids = list_any (λ k. id == k) ids

-- of a target, at a name, where it began with `start` and had `had`
abbrev pub heard : ℕ → DocName → Option Document → ListenMessage → Option Document → Option Document
heard id name start (message.Add ids) had = if is_in id ids then start else had
heard id name start (message.Remove ids cause) had = if is_in id ids then None else had
heard id name start (message.Reset ids) had = if is_in id ids then None else had
heard id name start (message.Current ids time token) had = had
heard id name start (message.NoChange time token) had = had
heard id name start (message.Changed d ids left) had =
    if name_eq name d.name then (if is_in id ids then Some d else (if is_in id left then None else had)) else had
heard id name start (message.Deleted other time left) had = if name_eq name other && is_in id left then None else had
heard id name start (message.Removed other time left) had = if name_eq name other && is_in id left then None else had

abbrev pub gathered : ℕ → DocName → Option Document → List ListenMessage → Option Document → Option Document
gathered id name start [] had = had
gathered id name start (m ∷ ms) had = gathered id name start ms (heard id name start m had)

-- ---- the times of raises

-- the time of a NO_CHANGE
abbrev pub raise_in : ListenMessage → Option ℤ
raise_in (message.NoChange time token) = Some time
raise_in (message.Add ids) = None
raise_in (message.Remove ids cause) = None
raise_in (message.Reset ids) = None
raise_in (message.Current ids time token) = None
raise_in (message.Changed d ids left) = None
raise_in (message.Deleted name time left) = None
raise_in (message.Removed name time left) = None

-- the time of the NO_CHANGE that messages end with, if they do
abbrev pub ended_at : List ListenMessage → Option ℤ
ended_at [] = None
ended_at (m ∷ []) = raise_in m
ended_at (m ∷ n ∷ ms) = ended_at (n ∷ ms)

-- none of their times is below one before it
abbrev pub NeverFalls : List ℤ → Type 0
NeverFalls [] = ⊤
NeverFalls (t ∷ ts) = AllByRecursion (λ u. t ≤ℤ u) ts × NeverFalls ts
