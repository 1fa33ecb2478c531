use Rattle.std.proofs.Common.{◌≡◌, OnOk, length, sym, subst, true≢false, ◌∙◌}
use Rattle.serde_json.specs.View.{members_view}
use Rattle.fs_valjson.proofs.Written.{filled_put}
use Rattle.fs_valjson.proofs.document.put_fields.Goals as goal

pub returns : goal.returns
returns c =
    let some : length c.args.fields.entries ≡ 0 → ⊥ = λ none. true≢false (sym (c.is_empty.ensures.1 none) ∙ c.if-is_empty.false) in
    subst (λ ms. OnOk c.put.result (members_view c.put.new.map.entries ≡ ms)) (filled_put c.args.fields (members_view c.args.members.now.entries) some) c.put.ensures.ok
