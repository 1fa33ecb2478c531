-- What a client makes of a write that no server has answered yet, on the document that it has. Whether the document was last updated
-- when the write wants it isn't known there, so it isn't tested; and a write that would be refused has no effect.
--
--     {n: 1}     set to {n: 2}, if updated at 5       {n: 2}
--     none       set to {n: 2}, if there is one       none
use Rattle.std.specs.Prelude.{ℤ, Option, Result, Ok, Err}
use Rattle.fs_value.specs.declared.document.Document.{Document}
use Rattle.fs_write.specs.OneWrite.{Fault, one_write}
use Rattle.fs_write.specs.declared.write.Precondition.{Precondition}
use Rattle.fs_write.specs.declared.write.Precondition.TheVariants as condition
use Rattle.fs_write.specs.declared.write.Write.{Write}
use Rattle.fs_write.specs.declared.write_result.WriteResult.{WriteResult}

abbrev pub untimed : Precondition → Precondition
untimed condition.None = condition.None
untimed (condition.Exists there) = condition.Exists there
untimed (condition.UpdateTime time) = condition.None

abbrev pub left_or : Option Document → Result (Option Document × WriteResult) Fault → Option Document
left_or before (Ok done) = done.0
left_or before (Err fault) = before

abbrev pub written_locally : Option Document → Write → ℤ → Option Document
written_locally before write moment = left_or before (one_write before (record write { condition = untimed write.condition }) moment)
