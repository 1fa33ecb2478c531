use Rattle.std.proofs.Common.{◌≡◌, Bool, true, false, List, [], ◌∷◌, refl, arith}
use Rattle.std.specs.Prelude.{◌↔◌, IsTrue, String, length}
use Rattle.std.specs.declared.alloc.Global.{Global}
use Rattle.serde_json.specs.View.{members_view}
use Rattle.serde_json.specs.declared.value.Value.{Value}
use Rattle.fs_rpc.specs.ReadMessage.{has_none}
use Rattle.fs_rpc.proofs.message_read.is_empty.Goals as goal

pub returns : goal.returns
returns c = told c.args.members.now.entries c.is_empty.result c.is_empty.ensures
  where
    told : (es : List (String Global × Value)) (b : Bool) → IsTrue b ↔ (length es ≡ 0) → b ≡ has_none (members_view es)
    told [] b tied = tied.1 refl
    told (e ∷ es) true tied = absurd (let none : length (e ∷ es) ≡ 0 = tied.0 refl in omega (arith, none))
    told (e ∷ es) false tied = refl
