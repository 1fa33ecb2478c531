use Rattle.std.proofs.Common.{◌≡◌, ◌∷◌, ◌++◌, [], codes, map, OnOk, ap, ◌∙◌, subst, rules}
use Rattle.json.specs.Token.{key}
use Rattle.serde_json.specs.Data.{array}
use Rattle.serde_json.specs.View.{items_of}
use Rattle.fs_writejson.specs.Results.{result_json}
use Rattle.fs_valjson.proofs.Tokens.{behind_both}
use Rattle.fs_valjson.specs.Tokens.{tokens_of}
use Rattle.fs_rpc.proofs.Tokens.{some_results}
use Rattle.fs_rpc.proofs.commit_write.push_results.Goals as goal
use Rattle.std.proofs.Common.{refl}

pub returns-clause-tokens : goal.returns-clause-tokens
returns-clause-tokens c =
    let old = c.args.line.now.tokens in
    let rs = c.args.results.now in
    let all = tokens_of (array (items_of (map result_json rs))) in
    let some : rs ≡ [] → ⊥ = λ none. search rules in
    subst (λ ts. OnOk c.push_each.result (c.push_each.new.line.tokens ≡ ts))
    (behind_both old c.key.new.self.tokens _ (key (codes "writeResults") ∷ []) all c.in_ok-key.ensures.ok refl ∙ ap (λ ts. old ++ ts) (some_results rs some))
    c.push_each.ensures.tokens
