use Rattle.std.proofs.Common.{◌≡◌, OnOk, subst}
use Rattle.fs_rpc.proofs.Tokens.{headed}
use Rattle.fs_rpc.proofs.message_write.push_rolled_back.Goals as goal

pub returns-clause-tokens : goal.returns-clause-tokens
returns-clause-tokens c =
    subst (λ ts. OnOk c.push_nothing.result (c.push_nothing.new.line.tokens ≡ ts))
    (headed c.args.line.now.tokens _ c.args.id.now _ c.in_ok-push_head.ensures.tokens) c.push_nothing.ensures.tokens
