-- What follows of a result, however it went.
use Rattle.std.proofs.Common.{Result, Ok, Err}
use Rattle.std.specs.Prelude.{OnErr, OnOk}

pub by_result : {A E P Q X : Type 0} (r : Result A E) → OnOk r P → OnErr r Q → (P → X) → (Q → X) → X
by_result (Ok a) ok err went failed = went ok
by_result (Err e) ok err went failed = failed err

-- of two clauses each
pub by_both : {A E P Q S T X : Type 0} (r : Result A E) → OnOk r P → OnOk r Q → OnErr r S → OnErr r T → (P → Q → X) → (S → T → X) → X
by_both (Ok a) first second same alike went failed = went first second
by_both (Err e) first second same alike went failed = failed same alike

pub of_both : {A E P Q X : Type 0} (r : Result A E) → OnOk r P → OnOk r Q → (P → Q → X) → OnOk r X
of_both (Ok a) first second went = went first second
of_both (Err e) first second went = tt
