use Rattle.std.proofs.Common.{◌++◌, ◌∙◌, ap}
use Rattle.fs_valjson.proofs.Tokens.{text_of_tokens}
use Rattle.fs_valjson.specs.Tokens.{tokens_of}
use Rattle.fs_replay.specs.Held.{held_json}
use Rattle.fs_replay.proofs.held.held_bytes.Goals as goal

pub returns : goal.returns
returns c =
    let d = held_json (c.args.member.now, c.args.asker.now) c.args.parked.now in
    let none = c.in_ok-push_held.ensures.before ∙ c.new-line.ensures.before ∙ c.in_ok-with_capacity.ensures.items in
    let pushed = c.in_ok-push_held.ensures.tokens ∙ ap (λ ts. ts ++ tokens_of d) c.new-line.ensures.tokens in
    text_of_tokens _ _ _ d none pushed c.into_inner.ensures.items
