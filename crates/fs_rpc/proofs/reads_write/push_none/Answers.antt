use Rattle.std.proofs.Common.{◌≡◌, ◌∷◌, ◌++◌, [], codes, OnOk, ap, ◌∙◌, subst, refl}
use Rattle.json.specs.Token.{begin_array, begin_object, end_array, end_object}
use Rattle.fs_time.specs.Rfc3339.{time_text}
use Rattle.fs_valjson.proofs.Tokens.{around}
use Rattle.fs_valjson.specs.Tokens.{text_member}
use Rattle.fs_rpc.proofs.reads_write.push_none.Goals as goal

pub returns-clause-tokens : goal.returns-clause-tokens
returns-clause-tokens c =
    let time = text_member (codes "readTime") (time_text c.args.time) in
    let begun = c.begin_array.new.self.tokens in
    let inside = c.in_ok-push_text.ensures.tokens ∙ ap (λ t. c.begin_object.new.self.tokens ++ text_member (codes "readTime") t) c.requires in
    let object = around begun _ _ begin_object end_object time (begin_object ∷ (time ++ end_object ∷ [])) c.in_ok-begin_object.ensures.ok inside refl in
    let ended = c.in_ok-end_object.ensures.ok ∙ object in
    subst (λ ts. OnOk c.end_array.result (c.end_array.new.self.tokens ≡ ts))
    (around c.args.line.now.tokens _ _ begin_array end_array (begin_object ∷ (time ++ end_object ∷ [])) _ c.in_ok-begin_array.ensures.ok ended refl) c.end_array.ensures.ok
