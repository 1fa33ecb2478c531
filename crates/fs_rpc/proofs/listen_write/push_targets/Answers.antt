use Rattle.std.proofs.Common.{◌≡◌, ◌∷◌, ◌++◌, [], map, OnOk, ap, ◌∙◌, subst, rules, refl}
use Rattle.json.specs.Token.{key}
use Rattle.serde_json.specs.Data.{array}
use Rattle.serde_json.specs.View.{items_of}
use Rattle.fs_rpc.specs.ListenJson.{number_json}
use Rattle.fs_valjson.proofs.Tokens.{behind_both}
use Rattle.fs_valjson.specs.Tokens.{tokens_of}
use Rattle.fs_rpc.proofs.Listened.{some_targets}
use Rattle.fs_rpc.proofs.listen_write.push_targets.Goals as goal

pub returns-clause-tokens : goal.returns-clause-tokens
returns-clause-tokens c =
    let old = c.args.line.now.tokens in
    let name = c.args.name.now in
    let ns = c.args.targets.now in
    let all = tokens_of (array (items_of (map number_json ns))) in
    let given : ns ≡ [] → ⊥ = λ none. search rules in
    subst (λ ts. OnOk c.push_numbers.result (c.push_numbers.new.line.tokens ≡ ts))
    (ap (λ xs. c.key.new.self.tokens ++ tokens_of (array (items_of (map number_json xs)))) c.as_slice.ensures
    ∙ behind_both old c.key.new.self.tokens _ (key name ∷ []) all c.in_ok-key.ensures.ok refl ∙ ap (λ ts. old ++ ts) (some_targets name ns given))
    c.push_numbers.ensures.tokens
