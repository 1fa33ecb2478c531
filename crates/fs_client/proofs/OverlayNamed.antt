-- What the batches of a client make of its documents: each document bears the name at which it stands then, and where no batch writes it is
-- the one of before.
use Rattle.std.proofs.Common.{◌≡◌, ℤ, List, [], ◌∷◌, ap, ◌∙◌}
use Rattle.std.specs.FinMap.{get, values}
use Rattle.fs_path.specs.declared.name.DocName.{DocName}
use Rattle.fs_value.specs.declared.document.Document.{Document}
use Rattle.fs_write.specs.Batch.{AreNamed, Docs, docs_of, with_document}
use Rattle.fs_write.specs.Local.{written_locally}
use Rattle.fs_write.specs.WrittenName.{written_name}
use Rattle.fs_write.specs.declared.write.Write.{Write}
use Rattle.fs_write.proofs.Names.{with_named}
use Rattle.fs_history.proofs.NamesListed.{listed}
use Rattle.fs_queue.specs.Overlay.{IsOverlay, Left, laid, overlay, with_writes}
use Rattle.fs_queue.specs.declared.batch.LocalBatch.{LocalBatch}
use Rattle.fs_queue.proofs.Named.{locally_bears}

writes_named : (ws : List Write) (docs : Docs) (moment : ℤ) → AreNamed docs → AreNamed (with_writes docs ws moment)
writes_named [] docs moment named = named
writes_named (w ∷ ws) docs moment named =
    let name = written_name w in
    let after = written_locally (get docs name) w moment in
    writes_named ws (with_document docs name after) moment (with_named docs name after named (locally_bears (get docs name) w moment (named name)))

pub overlay_named : (bs : List LocalBatch) (docs : Docs) → AreNamed docs → AreNamed (overlay docs bs)
overlay_named [] docs named = named
overlay_named (b ∷ bs) docs named = overlay_named bs (with_writes docs b.writes b.moment) (writes_named b.writes docs b.moment named)

-- laid over the documents in a list
pub laid_over : (docs : Docs) (bs : List LocalBatch) (left : Left) (lent : List Document) → AreNamed docs → lent ≡ values docs → IsOverlay docs bs left
    → (q : DocName) → laid (get left q) (get (docs_of lent) q) ≡ get (overlay docs bs) q
laid_over docs bs left lent named are is q = ap (λ all. laid (get left q) (get all q)) (ap docs_of are ∙ (listed docs named).1) ∙ is.shown q
