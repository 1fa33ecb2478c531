use Rattle.std.proofs.Common.{◌≡◌, ◌==◌, OnOk, length, false, sym, ap, subst, ◌∙◌}
use Rattle.serde_json.specs.View.{members_view}
use Rattle.fs_rpc.proofs.Put.{filled_put}
use Rattle.fs_rpc.proofs.list.put_list.Goals as goal

pub returns : goal.returns
returns c =
    let some : (length c.args.items.items == 0) ≡ false = ap (λ n. n == 0) (sym c.args.items.ok.0) ∙ sym c.is_empty.ensures ∙ c.if-is_empty.false in
    subst (λ ms. OnOk c.put.result (members_view c.put.new.map.entries ≡ ms)) (filled_put c.args.name.now c.args.items (members_view c.args.members.now.entries) some) c.put.ensures.ok
