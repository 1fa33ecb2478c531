use Rattle.std.proofs.Common.{◌≡◌, ◌++◌, OnOk, ap, ◌∙◌, subst, append_assoc}
use Rattle.fs_valjson.proofs.Tokens.{behind_both}
use Rattle.fs_valjson.specs.Tokens.{member_tokens}
use Rattle.fs_rpc.specs.ListenJson.{told_members, told_name}
use Rattle.fs_rpc.specs.Tokens.{told_end, told_head}
use Rattle.fs_rpc.proofs.Listened.{told_whole}
use Rattle.fs_json.proofs.Writings.{on_ok_always}
use Rattle.fs_rpc.proofs.listen_write.push_told.Goals as goal

pub returns-clause-tokens : goal.returns-clause-tokens
returns-clause-tokens c =
    let told = c.args.told.now in
    let old = c.args.line.now.tokens in
    let head = told_head (told_name told) in
    let members = member_tokens (told_members told) in
    let first = c.in_ok-push_head.ensures.tokens ∙ ap (λ name. old ++ told_head name) c.name_of.ensures in
    let both = behind_both old _ _ head members first c.in_ok-push_content.ensures.tokens in
    subst (λ ts. OnOk c.push_end.result (c.push_end.new.line.tokens ≡ ts))
    (ap (λ ts. ts ++ told_end) both ∙ append_assoc old (head ++ members) told_end ∙ ap (λ ts. old ++ ts) (told_whole told)) c.push_end.ensures.tokens

pub returns-clause-held : goal.returns-clause-held
returns-clause-held c = on_ok_always c.push_end.result c.in_ok-push_content.ensures.held
