-- Only private clauses cite this: what is seen of a document, a value or its name.
use Rattle.fs_value.specs.Data.{Data, reference}
use Rattle.fs_value.specs.View.{view}
use Rattle.fs_query.specs.declared.field.Seen.{Seen}
use Rattle.fs_query.specs.declared.field.Seen.TheVariants.{Name, Value}

abbrev pub seen : Seen → Data
seen (Name n) = reference n.now
seen (Value v) = view v.now
