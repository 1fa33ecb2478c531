use Rattle.std.proofs.Common.{◌++◌, ◌∙◌, ap}
use Rattle.fs_rpc.specs.MessageJson.{message_json_on}
use Rattle.fs_valjson.proofs.Tokens.{text_of_tokens}
use Rattle.fs_valjson.specs.Tokens.{tokens_of}
use Rattle.fs_rpc.proofs.message_write.write_message_on.Goals as goal

pub returns : goal.returns
returns c =
    let d = message_json_on c.args.session.now c.args.message.now in
    let none = c.in_ok-push_message_on.ensures.before ∙ c.new-line.ensures.before ∙ c.in_ok-with_capacity.ensures.items in
    let pushed = c.in_ok-push_message_on.ensures.tokens ∙ ap (λ ts. ts ++ tokens_of d) c.new-line.ensures.tokens in
    text_of_tokens _ _ _ d none pushed c.into_inner.ensures.items
