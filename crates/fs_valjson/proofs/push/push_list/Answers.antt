use Rattle.std.proofs.Common.{Result, Ok, Err, List, OnOk}
use Rattle.fs_value.specs.Data.{Data, items_of}
use Rattle.fs_valjson.specs.Held.{ItemsAreHeld}
use Rattle.fs_valjson.specs.Valid.{IsListHeld}
use Rattle.fs_valjson.proofs.Again.{list_again}
use Rattle.fs_valjson.proofs.Printed.{values_from_tokens}
use Rattle.fs_valjson.proofs.push.push_list.Goals as goal

held : {T E : Type 0} (r : Result T E) (ds : List Data) → OnOk r (ItemsAreHeld (items_of ds)) → OnOk r (IsListHeld ds)
held (Ok x) ds are = record { again = λ place names. list_again ds place are names; from_tokens = values_from_tokens ds are }
held (Err e) ds are = record {}

pub returns-clause-held : goal.returns-clause-held
returns-clause-held c = held c.push_items.result c.args.values.now c.push_items.ensures.held
