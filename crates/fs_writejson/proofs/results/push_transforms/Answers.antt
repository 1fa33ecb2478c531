use Rattle.std.proofs.Common.{◌≡◌, ◌∷◌, ◌++◌, [], codes, OnOk, sym, ap, ◌∙◌, subst, rules, refl}
use Rattle.json.specs.Token.{key}
use Rattle.fs_valjson.proofs.Tokens.{behind_both}
use Rattle.fs_valjson.specs.Tokens.{tokens_of}
use Rattle.fs_valjson.specs.Valid.{IsListHeld}
use Rattle.fs_valjson.specs.Writing.{list_json}
use Rattle.fs_writejson.proofs.Pushed.{some_transforms}
use Rattle.fs_writejson.proofs.results.push_transforms.Goals as goal

pub returns-clause-tokens : goal.returns-clause-tokens
returns-clause-tokens c =
    let old = c.args.line.now.tokens in
    let ds = c.args.values.now in
    let some : ds ≡ [] → ⊥ = λ none. search rules in
    subst (λ ts. OnOk c.push_list.result (c.push_list.new.line.tokens ≡ ts))
    (behind_both old c.key.new.self.tokens _ (key (codes "transformResults") ∷ []) (tokens_of (list_json ds)) c.in_ok-key.ensures.ok refl ∙ ap (λ ts. old ++ ts) (some_transforms ds some))
    c.push_list.ensures.tokens

-- an empty list is read back
none_held : IsListHeld []
none_held = record { again = λ place names. refl; from_tokens = refl }

pub returns-then-is_empty-clause-held : goal.returns-then-is_empty-clause-held
returns-then-is_empty-clause-held c =
    let none : c.args.values.now ≡ [] = search rules in
    subst IsListHeld (sym none) none_held
