-- Only private clauses cite this: a name as its text has it.
use Rattle.std.specs.Option.{option_copied}
use Rattle.fs_path.specs.declared.name.DocName.{DocName}
use Rattle.fs_path.specs.declared.head.Head.{Head}
use Rattle.fs_path.specs.Cursor.{rest_segments}

-- the name that it is the head of
abbrev pub head_name : Head → DocName
head_name h = record { project = h.project.now; database = h.database.now; ids = rest_segments (option_copied h.ids) }
