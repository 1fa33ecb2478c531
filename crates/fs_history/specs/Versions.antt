-- The versions of a document: what each batch that changed it left. A batch that leaves a name's existence and fields as
-- they were makes no version of it.
--
--     9   c/a to {n: 3}                     c/a has the versions  {n: 3} at 9, none at 7, {n: 1} at 5
--     7   c/a deleted, c/b to {n: 2}        c/b has the version   {n: 2} at 7
--     5   c/a to {n: 1}
--
-- A chain is what is kept of them once no time before a floor is read any more: the versions above the floor, by rising
-- time, and in front of them the one that shows at the floor, if it is a document.
--
--     the chain of c/a from 4 or 5     {n: 1} at 5, none at 7, {n: 3} at 9
--                      from 6          {n: 1} at 5, none at 7, {n: 3} at 9
--                      from 7 or 8     {n: 3} at 9
use Rattle.std.specs.Prelude.{ℤ, int_le, List, [], ◌∷◌, reverse, Option, Some, None, is_none, if◌then◌else◌}
use Rattle.std.specs.FinMap.{get}
use Rattle.fs_path.specs.declared.name.DocName.{DocName}
use Rattle.fs_value.specs.declared.document.Document.{Document}
use Rattle.fs_write.specs.Batch.{change_of}
use Rattle.fs_write.specs.declared.change.Change.{Change}
use Rattle.fs_history.specs.History.{whole}
use Rattle.fs_history.specs.declared.batch.Batch.{Batch}
use Rattle.fs_history.specs.declared.version.Version.{Version}

-- what a batch that comes behind a history does to a name
abbrev pub change_in : Batch → List Batch → DocName → Option Change
change_in b h name = change_of name (get (whole h) name) (get (whole (b ∷ h)) name)

-- the versions after a change at a time, if there is one
abbrev pub with_change : ℤ → Option Change → List Version → List Version
with_change time None vs = vs
with_change time (Some c) vs = record { time = time; after = c.after } ∷ vs

-- the versions of a name, the newest in front
abbrev pub versions : List Batch → DocName → List Version
versions [] name = []
versions (b ∷ h) name = with_change b.time (change_in b h name) (versions h name)

-- ---- what is shown

-- the document of the newest version, of versions with the newest in front
abbrev pub newest : List Version → Option Document
newest [] = None
newest (v ∷ vs) = v.after

-- that of the newest at or before a time
abbrev pub shown : ℤ → List Version → Option Document
shown t [] = None
shown t (v ∷ vs) = if int_le v.time t then v.after else shown t vs

-- ---- chains

-- the version that shows at the floor is kept if it is a document
abbrev pub base : Version → List Version
base v = if is_none v.after then [] else v ∷ []

-- what is kept of versions with the newest in front
abbrev pub kept : ℤ → List Version → List Version
kept floor [] = []
kept floor (v ∷ vs) = if int_le v.time floor then base v else v ∷ kept floor vs

-- the chain of a name from a floor, by rising time
abbrev pub chain : List Batch → ℤ → DocName → List Version
chain h floor name = reverse (kept floor (versions h name))
