use Rattle.std.proofs.Common.{◌≡◌, OnOk, subst}
use Rattle.fs_rpc.proofs.Tokens.{headed}
use Rattle.fs_json.proofs.Writings.{on_ok_always}
use Rattle.fs_rpc.proofs.message_write.push_begun.Goals as goal

pub returns-clause-tokens : goal.returns-clause-tokens
returns-clause-tokens c =
    subst (λ ts. OnOk c.push_transaction.result (c.push_transaction.new.line.tokens ≡ ts))
    (headed c.args.line.now.tokens _ c.args.id.now _ c.in_ok-push_head.ensures.tokens) c.push_transaction.ensures.tokens

pub returns-clause-held : goal.returns-clause-held
returns-clause-held c = on_ok_always c.push_transaction.result c.in_ok-text.ensures.held
