use Rattle.std.proofs.Common.{◌≡◌, ◌++◌, codes, OnOk, ap, ◌∙◌, subst, refl}
use Rattle.json.specs.Token.{begin_object, end_object}
use Rattle.fs_path.specs.Document.{document_text}
use Rattle.fs_time.specs.Rfc3339.{time_text}
use Rattle.fs_valjson.proofs.Tokens.{around, behind_both}
use Rattle.fs_valjson.specs.Tokens.{text_member}
use Rattle.fs_json.proofs.Writings.{on_ok_always}
use Rattle.fs_rpc.proofs.reads_write.push_missing.Goals as goal

pub returns-clause-tokens : goal.returns-clause-tokens
returns-clause-tokens c =
    let name = text_member (codes "missing") (document_text c.args.name.now) in
    let time = text_member (codes "readTime") (time_text c.args.time) in
    let begun = c.begin_object.new.self.tokens in
    let first = c.in_ok-push_text.ensures.tokens ∙ ap (λ t. begun ++ text_member (codes "missing") t) (c.as_str-2.ensures.value ∙ c.in_ok-print_document.ensures.text) in
    let both = behind_both begun _ _ name time first c.in_ok-push_time.ensures.tokens in
    subst (λ ts. OnOk c.end_object.result (c.end_object.new.self.tokens ≡ ts))
    (around c.args.line.now.tokens _ _ begin_object end_object (name ++ time) _ c.in_ok-begin_object.ensures.ok both refl) c.end_object.ensures.ok

pub returns-clause-held : goal.returns-clause-held
returns-clause-held c = on_ok_always c.end_object.result c.in_ok-push_time.ensures.held
