-- What the batches of a client make of its documents, before a server has answered: the writes of one batch after another, each at the
-- moment of its batch, on what those before it left. Update times aren't tested, and a write that would be refused has no effect.
--
--     c/a {n: 1}                                         the overlay is c/a {n: 2}, and no c/b
--     a batch that increments n of c/a
--     a batch that sets c/b, if there is one
-- (Cloud Firestore documentation, "Access data offline".)
use Rattle.std.specs.Prelude.{◌≡◌, ℤ, List, [], ◌∷◌, Option, Some, None, is_some}
use Rattle.std.specs.Coded.{Coded, coded_option}
use Rattle.std.specs.FinMap.{FinMap, code, get}
use Rattle.fs_path.specs.NameOrder.{name_cmp}
use Rattle.fs_path.specs.contracts.name.DocName as name
use Rattle.fs_path.specs.declared.name.DocName.{DocName}
use Rattle.fs_value.specs.contracts.document.Document as document
use Rattle.fs_value.specs.declared.document.Document.{Document}
use Rattle.fs_write.specs.Batch.{Bears, Docs, with_document}
use Rattle.fs_write.specs.Local.{written_locally}
use Rattle.fs_write.specs.WrittenName.{written_name}
use Rattle.fs_write.specs.declared.write.Write.{Write}
use Rattle.fs_queue.specs.Queue.{is_named}
use Rattle.fs_queue.specs.declared.batch.LocalBatch.{LocalBatch}

abbrev pub with_write : Docs → Write → ℤ → Docs
with_write docs w moment = with_document docs (written_name w) (written_locally (get docs (written_name w)) w moment)

abbrev pub with_writes : Docs → List Write → ℤ → Docs
with_writes docs [] moment = docs
with_writes docs (w ∷ ws) moment = with_writes (with_write docs w moment) ws moment

abbrev pub overlay : Docs → List LocalBatch → Docs
overlay docs [] = docs
overlay docs (b ∷ bs) = overlay (with_writes docs b.writes b.moment) bs

-- ---- the same, by what it leaves at the names that are written

abbrev pub Left : Type 0
Left = FinMap name_cmp (Option Document)

abbrev pub left_code : Coded Left
left_code = code name.the_row.coded (coded_option document.the_row.coded)

-- what is left at a name, else what stands there
abbrev pub laid : Option (Option Document) → Option Document → Option Document
laid None there = there
laid (Some left) there = left

-- each document bears the name at which it is left
abbrev pub AreBorne : Left → Type 0
AreBorne left = (q : DocName) → Bears (laid (get left q) None) q

-- over these documents it is that of these batches, and it has no other names than they write
pub record IsOverlay (docs : Docs) (bs : List LocalBatch) (left : Left) : Type 0 where
  pub shown : (q : DocName) → laid (get left q) (get docs q) ≡ get (overlay docs bs) q
  pub named : (q : DocName) → is_some (get left q) ≡ is_named q bs
