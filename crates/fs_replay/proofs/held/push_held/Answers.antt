use Rattle.std.proofs.Common.{◌≡◌, ◌++◌, OnOk, subst}
use Rattle.json.specs.Token.{begin_object, end_object}
use Rattle.serde_json.specs.Data.{no_members}
use Rattle.fs_rpc.specs.MessageJson.{with_id}
use Rattle.fs_valjson.proofs.Tokens.{around, behind_both}
use Rattle.fs_valjson.specs.Tokens.{member_tokens, text_member}
use Rattle.fs_replay.specs.Held.{with_held}
use Rattle.fs_replay.proofs.HeldTokens.{held_tokens}
use Rattle.fs_replay.proofs.held.push_held.Goals as goal

pub returns-clause-tokens : goal.returns-clause-tokens
returns-clause-tokens c =
    let p = c.args.parked.now in
    let holder = member_tokens (with_held p.held no_members) in
    let id = member_tokens (with_id p.id no_members) in
    let asker = text_member c.args.member.now c.args.asker.now in
    let begun = c.begin_object.new.self.tokens in
    let both = behind_both begun _ _ holder id c.in_ok-push_holder.ensures.tokens c.in_ok-push_id.ensures.tokens in
    let all = behind_both begun _ _ (holder ++ id) asker both c.in_ok-push_text.ensures.tokens in
    subst (λ ts. OnOk c.end_object.result (c.end_object.new.self.tokens ≡ ts))
    (around c.args.line.now.tokens _ _ begin_object end_object ((holder ++ id) ++ asker) _ c.in_ok-begin_object.ensures.ok all (held_tokens p (c.args.member.now, c.args.asker.now))) c.end_object.ensures.ok
