-- The name of the document that a write writes, and whether some write of a commit has a name.
use Rattle.std.specs.Prelude.{Bool, false, ◌||◌, List, [], ◌∷◌}
use Rattle.std.specs.Ordering.{eq_by_cmp}
use Rattle.fs_path.specs.NameOrder.{name_cmp}
use Rattle.fs_path.specs.declared.name.DocName.{DocName}
use Rattle.fs_write.specs.declared.write.Act.{Act}
use Rattle.fs_write.specs.declared.write.Act.TheVariants.{Set, Merge, Delete}
use Rattle.fs_write.specs.declared.write.Write.{Write}

abbrev pub act_name : Act → DocName
act_name (Set name fields) = name
act_name (Merge name fields mask) = name
act_name (Delete name) = name

abbrev pub written_name : Write → DocName
written_name write = act_name write.act

abbrev pub is_written : DocName → List Write → Bool
is_written name [] = false
is_written name (write ∷ writes) = eq_by_cmp name_cmp (written_name write) name || is_written name writes
