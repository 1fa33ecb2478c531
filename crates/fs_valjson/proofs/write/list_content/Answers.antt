use Rattle.std.proofs.Common.{◌≡◌, IfOk, length, sym, subst, ◌∙◌, eq-eqb, true≢false}
use Rattle.serde_json.specs.View.{view as json}
use Rattle.fs_valjson.proofs.Written.{filled_list}
use Rattle.fs_valjson.proofs.write.list_content.Goals as goal

pub returns : goal.returns
returns c =
    let some : length c.args.items.items ≡ 0 → ⊥ = λ none. true≢false (sym (eq-eqb _ _ (c.args.items.ok.0 ∙ none)) ∙ sym c.is_empty.ensures ∙ c.if-is_empty.false) in
    subst (λ d. IfOk c.with_one.result (λ j. json j ≡ d)) (filled_list c.args.items some) c.with_one.ensures
