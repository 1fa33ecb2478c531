-- The source over a reader and the sink over a writer. What remains in a reader, and what a writer holds, is known
-- where it tells: bytes in memory tell, a file or a terminal does not.
use Rattle.std.specs.Prelude.{ℕ, List, Option, take}
use Rattle.std.specs.Io.KnownBytes.{Consumes, Appends, Keeps, IsAtEnd}
use Rattle.fs_edge.specs.declared.real.RealSource.{RealSource}
use Rattle.fs_edge.specs.declared.real.RealSink.{RealSink}
use Rattle.fs_edge.specs.declared.source.Took.{Took}
use Rattle.fs_edge.specs.declared.source.Took.TheVariants as took
use Rattle.fs_edge.specs.declared.sink.Gave.{Gave}
use Rattle.fs_edge.specs.declared.sink.Gave.TheVariants as gave

-- the reader that a source reads
abbrev pub reader_of : {R : Type 0} → RealSource R → R
reader_of source = source.reader

-- how many of its reads failed
abbrev pub read_faults_of : {R : Type 0} → RealSource R → ℕ
read_faults_of source = source.faults

-- how many of its reads told the end
abbrev pub ends_of : {R : Type 0} → RealSource R → ℕ
ends_of source = source.ends

-- the writer that a sink writes to
abbrev pub writer_of : {W : Type 0} → RealSink W → W
writer_of sink = sink.writer

-- how many of its writes failed
abbrev pub write_faults_of : {W : Type 0} → RealSink W → ℕ
write_faults_of sink = sink.faults

-- The bytes that a read gave, which stand at the front of the buffer now, were the next ones in the reader, and it has
-- them no more. At the end nothing remained in it. A failed read took nothing from it.
abbrev pub TakesFromReader : Took → List ℕ → Option (List ℕ) → Option (List ℕ) → Type 0
TakesFromReader (took.Bytes n) buffer before after = Consumes before after (take n buffer)
TakesFromReader took.End buffer before after = IsAtEnd before × IsAtEnd after
TakesFromReader took.Failed buffer before after = Keeps before after

-- The bytes that the sink took of a piece now stand in the writer, after those that it held. A failed write gave it none.
abbrev pub GivesToWriter : Gave → List ℕ → Option (List ℕ) → Option (List ℕ) → Type 0
GivesToWriter (gave.Bytes n) piece before after = Appends before after (take n piece)
GivesToWriter gave.Failed piece before after = Keeps before after
