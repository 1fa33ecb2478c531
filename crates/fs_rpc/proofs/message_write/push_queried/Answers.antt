use Rattle.std.proofs.Common.{◌≡◌, OnOk, subst}
use Rattle.fs_rpc.proofs.Tokens.{headed}
use Rattle.std.specs.List.{AllByRecursion}
use Rattle.fs_json.specs.Time.{IsTimeHeld}
use Rattle.fs_valjson.specs.Valid.{IsDocumentHeld}
use Rattle.fs_rpc.proofs.HeldParts.{both_held}
use Rattle.fs_rpc.proofs.message_write.push_queried.Goals as goal

pub returns-clause-tokens : goal.returns-clause-tokens
returns-clause-tokens c =
    subst (λ ts. OnOk c.push_query_answers.result (c.push_query_answers.new.line.tokens ≡ ts))
    (headed c.args.line.now.tokens _ c.args.id.now _ c.in_ok-push_head.ensures.tokens) c.push_query_answers.ensures.tokens

pub returns-clause-held : goal.returns-clause-held
returns-clause-held c = both_held (AllByRecursion IsDocumentHeld c.args.documents.now) (IsTimeHeld c.args.time) c.push_query_answers.result c.push_query_answers.ensures.held c.push_query_answers.ensures.dated
