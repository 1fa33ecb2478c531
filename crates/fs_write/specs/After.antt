-- The documents after a commit, which a later one begins with. A refused commit changes none. Of another, a name whose
-- document ends with the existence and the fields of before has the document of before, whatever came between.
use Rattle.std.specs.Prelude.{ℤ, List, [], ◌∷◌, Option, Result, Ok, Err, if◌then◌else◌}
use Rattle.std.specs.FinMap.{get}
use Rattle.fs_status.specs.declared.refusal.Refusal.{Refusal}
use Rattle.fs_value.specs.declared.document.Document.{Document}
use Rattle.fs_write.specs.Batch.{Docs, batch, is_unchanged, with_document}
use Rattle.fs_write.specs.WrittenName.{written_name}
use Rattle.fs_write.specs.declared.write.Write.{Write}
use Rattle.fs_write.specs.declared.write_result.WriteResult.{WriteResult}

-- what a commit leaves of a name, from the document of before and the one that its writes leave
abbrev pub left_of : Option Document → Option Document → Option Document
left_of before after = if is_unchanged before after then before else after

-- that of each name which is written
abbrev pub documents_left : Docs → Docs → List Write → Docs
documents_left before after [] = after
documents_left before after (write ∷ writes) =
    with_document (documents_left before after writes) (written_name write) (left_of (get before (written_name write)) (get after (written_name write)))

abbrev pub left_after : Docs → List Write → Result (Docs × List WriteResult) Refusal → Docs
left_after docs writes (Err refusal) = docs
left_after docs writes (Ok done) = documents_left docs done.0 writes

-- the documents after the writes of a commit at a time
abbrev pub after_batch : Docs → List Write → ℤ → Docs
after_batch docs writes time = left_after docs writes (batch docs writes time)
