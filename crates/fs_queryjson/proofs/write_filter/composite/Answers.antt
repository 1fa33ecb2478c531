use Rattle.std.proofs.Common.{◌≡◌, IfOk, length, sym, subst, ◌∙◌, eq-eqb, true≢false, rules}
use Rattle.serde_json.specs.Data.{string}
use Rattle.serde_json.specs.View.{view as json}
use Rattle.fs_queryjson.specs.Op.{join_name}
use Rattle.fs_queryjson.proofs.Put.{filled}
use Rattle.fs_queryjson.proofs.write_filter.composite.Goals as goal

pub returns : goal.returns
returns c =
    let some : length c.args.filters.items ≡ 0 → ⊥ = λ none. true≢false (sym (eq-eqb _ _ (c.args.filters.ok.0 ∙ none)) ∙ sym c.is_empty.ensures ∙ c.if-is_empty.false) in
    let op : json c.in_ok-op.op ≡ string (join_name c.args.all) = search rules in
    subst (λ d. IfOk c.with_filters.result (λ j. json j ≡ d)) (filled c.args.all c.args.filters (json c.in_ok-op.op) op some) c.with_filters.ensures
