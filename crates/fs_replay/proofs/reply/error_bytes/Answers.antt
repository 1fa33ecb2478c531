use Rattle.std.proofs.Common.{◌++◌, ◌∙◌, ap}
use Rattle.fs_rpc.specs.MessageJson.{error_json}
use Rattle.fs_valjson.proofs.Tokens.{text_of_tokens}
use Rattle.fs_valjson.specs.Tokens.{tokens_of}
use Rattle.fs_replay.specs.Reply.{line_error}
use Rattle.fs_replay.proofs.reply.error_bytes.Goals as goal

pub returns : goal.returns
returns c =
    let d = line_error (error_json c.args.code c.args.text.now) c.args.number in
    let none = c.in_ok-push_error.ensures.before ∙ c.new-line.ensures.before ∙ c.in_ok-with_capacity.ensures.items in
    let pushed = c.in_ok-push_error.ensures.tokens ∙ ap (λ ts. ts ++ tokens_of d) c.new-line.ensures.tokens in
    text_of_tokens _ _ _ d none pushed c.into_inner.ensures.items
