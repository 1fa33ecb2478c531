-- The time and the transaction of a read, of which at most one is given.
use Rattle.std.specs.Prelude.{ℕ, ℤ, Option, Some, None}
use Rattle.fs_request.specs.declared.when.When.{When}
use Rattle.fs_request.specs.declared.when.When.TheVariants.{Released, At, In}

abbrev pub time_of : When → Option ℤ
time_of Released = None
time_of (At time) = Some time
time_of (In n) = None

abbrev pub transaction_of : When → Option ℕ
transaction_of Released = None
transaction_of (At time) = None
transaction_of (In n) = Some n
