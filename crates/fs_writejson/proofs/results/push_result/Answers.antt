use Rattle.std.proofs.Common.{◌≡◌, ◌∷◌, ◌++◌, [], OnOk, ap, ◌∙◌, subst}
use Rattle.json.specs.Token.{begin_object, end_object}
use Rattle.serde_json.specs.Data.{no_members}
use Rattle.fs_json.proofs.Writings.{on_ok_always}
use Rattle.fs_writejson.specs.Results.{result_json, updated_member, with_results}
use Rattle.fs_valjson.proofs.Tokens.{around, behind_both, object_tokens}
use Rattle.fs_valjson.specs.Tokens.{member_tokens}
use Rattle.fs_writejson.proofs.Pushed.{transforms_first}
use Rattle.fs_writejson.proofs.results.push_result.Goals as goal

pub returns-clause-tokens : goal.returns-clause-tokens
unfolding result_json
returns-clause-tokens c =
    let r = c.args.answer.now in
    let transforms = member_tokens (with_results r.transforms no_members) in
    let updated = member_tokens (updated_member r.updated) in
    let both = behind_both c.begin_object.new.self.tokens _ _ transforms updated c.in_ok-push_transforms.ensures.tokens c.in_ok-push_updated.ensures.tokens in
    subst (λ ts. OnOk c.end_object.result (c.end_object.new.self.tokens ≡ ts))
    (around c.args.line.now.tokens _ _ begin_object end_object (transforms ++ updated) _ c.in_ok-begin_object.ensures.ok both
    (ap (λ ts. begin_object ∷ (ts ++ end_object ∷ [])) (transforms_first r.transforms (updated_member r.updated)) ∙ object_tokens (with_results r.transforms (updated_member r.updated))))
    c.end_object.ensures.ok

pub returns-clause-held : goal.returns-clause-held
returns-clause-held c =
    on_ok_always c.end_object.result (record { updated = c.in_ok-push_updated.ensures.held; transforms = c.in_ok-push_transforms.ensures.held })
