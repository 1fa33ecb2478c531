-- A serial history: what each batch's transaction had read still held when the batch was carried out, so the batches had
-- the same effect as if their transactions had run one after another.
-- (Cloud Firestore documentation, "Transaction serializability and isolation".)
use Rattle.std.specs.Prelude.{◌≡◌, ⊤, List, [], ◌∷◌}
use Rattle.std.specs.FinMap.{get, values}
use Rattle.std.specs.List.{AllByRecursion, Contains}
use Rattle.fs_query.specs.Answer.{IsAnswer}
use Rattle.fs_write.specs.Batch.{Docs}
use Rattle.fs_history.specs.History.{before, whole}
use Rattle.fs_history.specs.declared.batch.Batch.{Batch}
use Rattle.fs_history.specs.declared.read.Read.{Read}
use Rattle.fs_history.specs.declared.read.Read.TheVariants as read

-- what a read showed is what these documents give
abbrev pub IsShown : Docs → Read → Type 0
IsShown docs (read.Name name shown) = shown ≡ get docs name
IsShown docs (read.Query query shown) = IsAnswer query (values docs) shown

-- each read of each batch showed what the documents just before it give
abbrev pub IsSerial : List Batch → Type 0
IsSerial h = (b : Batch) → Contains h b → (r : Read) → Contains b.reads r → IsShown (before h b.time) r

-- ---- batch by batch

-- each of some reads shows what these documents give
abbrev pub AreShown : Docs → List Read → Type 0
AreShown docs rs = AllByRecursion (IsShown docs) rs

-- each batch read what the batches before it leave
abbrev pub AreSerial : List Batch → Type 0
AreSerial [] = ⊤
AreSerial (b ∷ h) = AreShown (whole h) b.reads × AreSerial h
