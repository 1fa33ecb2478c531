-- Which writes a read depends on: those of the name that was read, and those in the scope of the query that was read, also
-- of documents that weren't there or didn't fit.
-- (Cloud Firestore documentation, "Transaction serializability and isolation".)
use Rattle.std.specs.Prelude.{◌≡◌, Bool, List}
use Rattle.std.specs.List.{Any, list_any}
use Rattle.fs_path.specs.NameOrder.{name_eq}
use Rattle.fs_path.specs.Scope.{covers, Covers}
use Rattle.fs_path.specs.declared.name.DocName.{DocName}
use Rattle.fs_write.specs.WrittenName.{written_name}
use Rattle.fs_write.specs.declared.write.Write.{Write}
use Rattle.fs_history.specs.declared.read.Read.{Read}
use Rattle.fs_history.specs.declared.read.Read.TheVariants as read

-- a write of this name touches a read
abbrev pub TouchesName : DocName → Read → Type 0
TouchesName name (read.Name read_name shown) = name ≡ read_name
TouchesName name (read.Query query shown) = Covers query.scope name

-- some of these writes does
abbrev pub Touches : List Write → Read → Type 0
Touches writes read = Any (λ w. TouchesName (written_name w) read) writes

-- ---- the test

abbrev pub touches : DocName → Read → Bool
touches name (read.Name read_name shown) = name_eq name read_name
touches name (read.Query query shown) = covers query.scope name

-- whether one of some writes touches a read
abbrev pub touched : List Write → Read → Bool
touched writes r = list_any (λ w. touches (written_name w) r) writes

-- and whether one of some reads is touched
abbrev pub some_touched : List Write → List Read → Bool
some_touched writes rs = list_any (touched writes) rs
