use Rattle.std.proofs.Common.{Some, ap, ◌∙◌, sym}
use Rattle.fs_edge.proofs.memory.source.MemorySourceSource.read.Goals as goal

pub returns-clause-reads : goal.returns-clause-reads
returns-clause-reads c = ap Some (ap (λ f. f.left) (sym c.self.view_is) ∙ c.copy_part.ensures)
