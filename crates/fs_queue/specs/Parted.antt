-- Documents whose names rise, about a name: so many are below it, and so many aren't above it. (Only private clauses cite this.)
--
--     c/a, c/b, c/d      about c/b      1 is below it, 2 aren't above it
--     c/a, c/b, c/d      about c/c      2, 2
use Rattle.std.specs.Prelude.{◌≡◌, ℕ, List, ◌++◌, take, drop, Option}
use Rattle.std.specs.List.{AllByRecursion}
use Rattle.std.specs.Option.{option_to_list}
use Rattle.std.specs.declared.cmp.Ordering.TheVariants.{Less}
use Rattle.fs_path.specs.NameOrder.{name_cmp}
use Rattle.fs_path.specs.declared.name.DocName.{DocName}
use Rattle.fs_value.specs.declared.document.Document.{Document}
use Rattle.fs_write.specs.Batch.{Bears}

abbrev pub AreBelow : DocName → List Document → Type 0
AreBelow name ds = AllByRecursion (λ (d : Document). name_cmp d.name name ≡ Less) ds

abbrev pub AreAbove : DocName → List Document → Type 0
AreAbove name ds = AllByRecursion (λ (d : Document). name_cmp name d.name ≡ Less) ds

pub record IsParted (name : DocName) (docs : List Document) (below passed : ℕ) : Type 0 where
  -- the document that bears the name
  pub there : Option Document
  pub bears : Bears there name
  pub whole : docs ≡ take below docs ++ (option_to_list there ++ drop passed docs)
  pub are_below : AreBelow name (take below docs)
  pub are_above : AreAbove name (drop passed docs)
