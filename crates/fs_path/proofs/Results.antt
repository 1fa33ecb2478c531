-- What stands in any case stands at an error. Versions, scripts and the program cite it.
use Rattle.std.proofs.Common.{Result, Ok, Err}
use Rattle.std.specs.Result.{OnErr}

pub at_err : {A E P : Type 0} (r : Result A E) → P → OnErr r P
at_err (Ok x) p = tt
at_err (Err e) p = p
