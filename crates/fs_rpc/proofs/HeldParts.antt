-- What holds of the parts of a message holds of it where it is written.
use Rattle.std.proofs.Common.{◌≡◌, ℕ, ℤ, List, Result, Ok, Err, OnOk}
use Rattle.std.specs.List.{AllByRecursion}
use Rattle.fs_json.specs.Time.{IsTimeHeld}
use Rattle.fs_status.specs.declared.code.Code.{Code}
use Rattle.fs_write.specs.declared.write_result.WriteResult.{WriteResult}
use Rattle.fs_writejson.specs.Results.{IsResultHeld}
use Rattle.fs_request.specs.declared.message.StreamAnswer.TheVariants.{Stands, Committed, Refused}
use Rattle.fs_rpc.specs.MessageSteps.{IsStreamHeld}

pub both_held : {T E : Type 0} (P Q : Type 0) (r : Result T E) → OnOk r P → OnOk r Q → OnOk r (P × Q)
both_held P Q (Ok x) p q = (p, q)
both_held P Q (Err e) p q = record {}

pub committed_held : {T E : Type 0} (r : Result T E) (stream token : ℕ) (time : ℤ) (rs : List WriteResult) → IsStreamHeld stream token Stands → IsTimeHeld time
    → OnOk r (AllByRecursion IsResultHeld rs) → OnOk r (IsStreamHeld stream token (Committed time rs))
committed_held (Ok x) stream token time rs held at results = record { stream = held.stream; token = held.token; answer = (at, results) }
committed_held (Err e) stream token time rs held at results = record {}

pub refused_held : {T E : Type 0} (r : Result T E) (stream token : ℕ) (code : Code) (message : List ℕ) → OnOk r (IsStreamHeld stream token Stands)
    → OnOk r (IsStreamHeld stream token (Refused code message))
refused_held (Ok x) stream token code message held = record { stream = held.stream; token = held.token; answer = tt }
refused_held (Err e) stream token code message held = record {}
