use Rattle.std.proofs.Common.{◌≡◌, ◌++◌, codes, OnOk, ap, ◌∙◌, subst, refl}
use Rattle.serde_json.specs.Data.{no_members}
use Rattle.fs_path.specs.Document.{document_text}
use Rattle.fs_rpc.specs.ListenJson.{with_targets}
use Rattle.fs_time.specs.Rfc3339.{time_text}
use Rattle.fs_valjson.proofs.Tokens.{behind_both}
use Rattle.fs_valjson.specs.Tokens.{member_tokens, text_member}
use Rattle.fs_json.proofs.Writings.{on_ok_always}
use Rattle.fs_valjson.proofs.Printed.{time_held}
use Rattle.fs_rpc.proofs.listen_write.push_gone.Goals as goal

pub returns-clause-tokens : goal.returns-clause-tokens
returns-clause-tokens c =
    let old = c.args.line.now.tokens in
    let name = text_member (codes "document") (document_text c.args.name.now) in
    let time = text_member (codes "readTime") (time_text c.args.time) in
    let left = member_tokens (with_targets (codes "removedTargetIds") c.args.left.now no_members) in
    let first = c.in_ok-push_text.ensures.tokens ∙ ap (λ t. old ++ text_member (codes "document") t) (c.as_str-2.ensures.value ∙ c.in_ok-print_document.ensures.text) in
    let second = c.in_ok-push_text-2.ensures.tokens ∙ ap (λ t. c.push_text.new.line.tokens ++ text_member (codes "readTime") t) (c.deref.ensures ∙ c.in_ok-print.ensures.text) in
    let both = behind_both old _ _ name time first second in
    subst (λ ts. OnOk c.push_targets.result (c.push_targets.new.line.tokens ≡ ts))
    (behind_both old c.push_text-2.new.line.tokens _ (name ++ time) left both refl) c.push_targets.ensures.tokens

pub returns-clause-held : goal.returns-clause-held
returns-clause-held c = on_ok_always c.push_targets.result (time_held c.args.time _ c.in_ok-print.ensures.text c.in_ok-print.ensures.again)
