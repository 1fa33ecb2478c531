use Rattle.std.proofs.Common.{◌≡◌, [], ◌∷◌, ◌++◌, codes, decimal, OnOk, subst, refl}
use Rattle.json.specs.Token.{begin_object, end_object, key, number}
use Rattle.fs_rpc.specs.MessageJson.{error_json}
use Rattle.fs_valjson.proofs.Tokens.{around, behind_both}
use Rattle.fs_valjson.specs.Tokens.{tokens_of}
use Rattle.fs_replay.proofs.reply.push_error.Goals as goal

pub returns-clause-tokens : goal.returns-clause-tokens
returns-clause-tokens c =
    let error = tokens_of (error_json c.args.code c.args.text.now) in
    let last = key (codes "line") ∷ number (decimal c.args.number) ∷ [] in
    let begun = c.begin_object.new.self.tokens in
    let named = behind_both begun _ _ (key (codes "error") ∷ []) error c.in_ok-key.ensures.ok c.in_ok-push_status.ensures.tokens in
    let all = behind_both begun _ _ (key (codes "error") ∷ error) last named c.in_ok-push_number.ensures.tokens in
    subst (λ ts. OnOk c.end_object.result (c.end_object.new.self.tokens ≡ ts))
    (around c.args.line.now.tokens _ _ begin_object end_object ((key (codes "error") ∷ error) ++ last) _ c.in_ok-begin_object.ensures.ok all refl) c.end_object.ensures.ok
