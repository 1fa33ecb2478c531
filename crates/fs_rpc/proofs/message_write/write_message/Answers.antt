use Rattle.std.proofs.Common.{◌≡◌, ◌++◌, [], Some, sym, ap, subst, ◌∙◌}
use Rattle.std.specs.Prelude.{IsUtf8}
use Rattle.json.specs.Lex.{tokens}
use Rattle.json.specs.Print.{print}
use Rattle.serde_json.specs.Read.{read}
use Rattle.fs_json.specs.Answer.{or_fault, ◌>>=◌}
use Rattle.fs_path.specs.declared.place.Rule.TheVariants.{G}
use Rattle.fs_valjson.proofs.Printed.{read_of_tokens}
use Rattle.fs_valjson.proofs.Tokens.{text_of_tokens}
use Rattle.fs_valjson.specs.Tokens.{tokens_of}
use Rattle.fs_rpc.specs.MessageJson.{message_json}
use Rattle.fs_rpc.specs.ReadMessage.{message_at}
use Rattle.fs_rpc.proofs.Again.{message_again}
use Rattle.fs_rpc.proofs.MessageTokens.{message_from_tokens}
use Rattle.fs_rpc.proofs.message_write.write_message.Goals as goal

pub returns-clause-value : goal.returns-clause-value
returns-clause-value c =
    let d = message_json c.args.m.now in
    let none = c.in_ok-push_message.ensures.before ∙ c.new-line.ensures.before ∙ c.in_ok-with_capacity.ensures.items in
    let pushed = c.in_ok-push_message.ensures.tokens ∙ ap (λ ts. ts ++ tokens_of d) c.new-line.ensures.tokens in
    text_of_tokens _ _ _ d none pushed c.into_inner.ensures.items

pub returns-clause-utf8 : goal.returns-clause-utf8
returns-clause-utf8 c =
    let none = c.in_ok-push_message.ensures.before ∙ c.new-line.ensures.before ∙ c.in_ok-with_capacity.ensures.items in
    let written = c.push_message.new.line.tokens in
    subst IsUtf8 (sym (c.into_inner.ensures.items ∙ ap (λ b. b ++ print written) none)) c.into_inner.ensures.utf8

pub returns-clause-reads_back : goal.returns-clause-reads_back
returns-clause-reads_back c = λ root valid shallow.
    let m = c.args.m.now in
    let d = message_json m in
    let held = c.in_ok-push_message.ensures.held in
    let written = c.push_message.new.line.tokens in
    let none = c.in_ok-push_message.ensures.before ∙ c.new-line.ensures.before ∙ c.in_ok-with_capacity.ensures.items in
    let pushed = c.in_ok-push_message.ensures.tokens ∙ ap (λ ts. ts ++ tokens_of d) c.new-line.ensures.tokens in
    let text : c.into_inner.result.items ≡ print written = c.into_inner.ensures.items ∙ ap (λ b. b ++ print written) none in
    let same : tokens c.into_inner.result.items ≡ tokens_of d = ap tokens text ∙ c.into_inner.ensures.reads_back ∙ pushed in
    let again : read c.into_inner.result.items ≡ Some d = read_of_tokens d c.into_inner.result.items same (message_from_tokens root m held valid) shallow in
    ap (λ o. or_fault G [] o >>= message_at root) again ∙ message_again root m held valid
