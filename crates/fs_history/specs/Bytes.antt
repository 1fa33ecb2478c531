-- What batches count in the limit of the journal, in bytes: 64 each, the sizes of the documents that its updates send, and
-- those of the documents that its reads showed. The batch that sets c/a to {n: 1} and deletes c/b counts 126, as the
-- document `c/a {n: 1}` counts 62. (This project's own.)
use Rattle.std.specs.Prelude.{ℕ, ◌+◌, List, Some, None, sum_by}
use Rattle.fs_value.specs.Size.{named_size, document_size}
use Rattle.fs_write.specs.declared.write.Act.{Act}
use Rattle.fs_write.specs.declared.write.Act.TheVariants.{Set, Merge, Delete}
use Rattle.fs_write.specs.declared.write.Write.{Write}
use Rattle.fs_history.specs.declared.batch.Batch.{Batch}
use Rattle.fs_history.specs.declared.read.Read.{Read}
use Rattle.fs_history.specs.declared.read.Read.TheVariants as read

-- each batch
abbrev pub batch_extra : ℕ
batch_extra = 64

-- the document that a write sends: its name and the fields that it gives, whatever its mask
abbrev pub act_size : Act → ℕ
act_size (Set name fields) = named_size name fields
act_size (Merge name fields mask) = named_size name fields
act_size (Delete name) = 0

abbrev pub sent_size : Write → ℕ
sent_size w = act_size w.act

-- the documents that a read showed
abbrev pub shown_size : Read → ℕ
shown_size (read.Name name None) = 0
shown_size (read.Name name (Some d)) = document_size d
shown_size (read.Query query shown) = sum_by document_size shown

-- what a batch of these writes counts, whose transaction had made these reads
abbrev pub commit_size : List Write → List Read → ℕ
commit_size writes reads = batch_extra + sum_by sent_size writes + sum_by shown_size reads

abbrev pub batch_size : Batch → ℕ
batch_size b = commit_size b.writes b.reads

abbrev pub history_size : List Batch → ℕ
history_size h = sum_by batch_size h
