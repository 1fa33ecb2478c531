use Rattle.std.proofs.Common.{◌≡◌, ◌∷◌, ◌++◌, [], codes, OnOk, ap, ◌∙◌, subst, refl}
use Rattle.json.specs.Token.{key}
use Rattle.serde_json.specs.Data.{no_members}
use Rattle.fs_rpc.specs.ListenJson.{with_targets}
use Rattle.fs_valjson.proofs.Tokens.{behind_both}
use Rattle.fs_valjson.specs.Document.{document_json}
use Rattle.fs_valjson.specs.Tokens.{member_tokens, tokens_of}
use Rattle.fs_rpc.proofs.Listened.{targets_first}
use Rattle.fs_json.proofs.Writings.{on_ok_always}
use Rattle.fs_rpc.proofs.listen_write.push_changed.Goals as goal

pub returns-clause-tokens : goal.returns-clause-tokens
returns-clause-tokens c =
    let old = c.args.line.now.tokens in
    let document = tokens_of (document_json c.args.document.now) in
    let left = member_tokens (with_targets (codes "removedTargetIds") c.args.left.now no_members) in
    let last = with_targets (codes "targetIds") c.args.targets.now no_members in
    let ids = behind_both c.push_document.new.line.tokens _ _ left (member_tokens last) c.in_ok-push_targets.ensures.tokens refl
    ∙ ap (λ ts. c.push_document.new.line.tokens ++ ts) (targets_first (codes "removedTargetIds") c.args.left.now last) in
    let behind = behind_both c.key.new.self.tokens _ _ document _ c.in_ok-push_document.ensures.tokens ids in
    subst (λ ts. OnOk c.push_targets-2.result (c.push_targets-2.new.line.tokens ≡ ts))
    (behind_both old _ _ (key (codes "document") ∷ []) _ c.in_ok-key.ensures.ok behind) c.push_targets-2.ensures.tokens

pub returns-clause-held : goal.returns-clause-held
returns-clause-held c = on_ok_always c.push_targets-2.result c.in_ok-push_document.ensures.held
