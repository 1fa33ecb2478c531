use Rattle.std.proofs.Common.{◌≡◌, IfOk, length, sym, subst, true≢false, ◌∙◌}
use Rattle.serde_json.specs.View.{view as json}
use Rattle.fs_valjson.proofs.Written.{filled_map}
use Rattle.fs_valjson.proofs.write.fields_content.Goals as goal

pub returns : goal.returns
returns c =
    let some : length c.args.members.entries ≡ 0 → ⊥ = λ none. true≢false (sym (c.is_empty.ensures.1 none) ∙ c.if-is_empty.false) in
    subst (λ d. IfOk c.with_one.result (λ j. json j ≡ d)) (filled_map c.args.members some) c.with_one.ensures
