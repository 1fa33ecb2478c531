use Rattle.std.proofs.Common.{◌≡◌, OnOk, subst}
use Rattle.fs_rpc.proofs.Tokens.{headed}
use Rattle.std.specs.List.{AllByRecursion}
use Rattle.fs_json.specs.Time.{IsTimeHeld}
use Rattle.fs_writejson.specs.Results.{IsResultHeld}
use Rattle.fs_rpc.proofs.HeldParts.{both_held}
use Rattle.fs_rpc.proofs.message_write.push_committed.Goals as goal

pub returns-clause-tokens : goal.returns-clause-tokens
returns-clause-tokens c =
    subst (λ ts. OnOk c.push_commit.result (c.push_commit.new.line.tokens ≡ ts))
    (headed c.args.line.now.tokens _ c.args.id.now _ c.in_ok-push_head.ensures.tokens) c.push_commit.ensures.tokens

pub returns-clause-held : goal.returns-clause-held
returns-clause-held c = both_held (IsTimeHeld c.args.time) (AllByRecursion IsResultHeld c.args.results.now) c.push_commit.result c.push_commit.ensures.dated c.push_commit.ensures.held
