use Rattle.std.proofs.Common.{◌≡◌, ◌∷◌, ◌++◌, [], codes, OnOk, subst}
use Rattle.json.specs.Token.{begin_object, end_object, key}
use Rattle.serde_json.specs.Data.{member}
use Rattle.fs_rpc.specs.MessageJson.{read_at}
use Rattle.fs_time.specs.Rfc3339.{time_text}
use Rattle.fs_valjson.specs.Document.{document_json}
use Rattle.fs_valjson.proofs.Tokens.{around, behind_both, object_tokens}
use Rattle.fs_valjson.specs.Tokens.{text_member, tokens_of}
use Rattle.fs_json.proofs.Writings.{on_ok_always}
use Rattle.fs_rpc.proofs.reads_write.push_read.Goals as goal

pub returns-clause-tokens : goal.returns-clause-tokens
returns-clause-tokens c =
    let name = key c.args.name.now ∷ [] in
    let document = tokens_of (document_json c.args.document.now) in
    let time = text_member (codes "readTime") (time_text c.args.time) in
    let begun = c.begin_object.new.self.tokens in
    let two = behind_both c.key.new.self.tokens _ _ document time c.in_ok-push_document.ensures.tokens c.in_ok-push_time.ensures.tokens in
    let all = behind_both begun _ _ name (document ++ time) c.in_ok-key.ensures.ok two in
    subst (λ ts. OnOk c.end_object.result (c.end_object.new.self.tokens ≡ ts))
    (around c.args.line.now.tokens _ _ begin_object end_object (name ++ (document ++ time)) _ c.in_ok-begin_object.ensures.ok all
    (object_tokens (member c.args.name.now (document_json c.args.document.now) (read_at c.args.time)))) c.end_object.ensures.ok

pub returns-clause-held : goal.returns-clause-held
returns-clause-held c = on_ok_always c.end_object.result (c.in_ok-push_document.ensures.held, c.in_ok-push_time.ensures.held)
