use Rattle.std.proofs.Common.{◌≡◌, ◌++◌, codes, OnOk, sym, ap, subst, ◌∙◌}
use Rattle.serde_json.specs.Data.{string}
use Rattle.fs_valjson.specs.Tokens.{tokens_of}
use Rattle.fs_json.specs.Members.{with_one}
use Rattle.fs_path.specs.Document.{reference_of}
use Rattle.fs_json.proofs.Writings.{on_ok_always}
use Rattle.fs_valjson.proofs.push.push_reference.Goals as goal

pub returns-clause-tokens : goal.returns-clause-tokens
returns-clause-tokens c =
    subst (λ text. OnOk c.push_one.result (c.push_one.new.line.tokens ≡ c.args.line.now.tokens ++ tokens_of (with_one (codes "referenceValue") (string text))))
    (c.as_str-2.ensures.value ∙ c.in_ok-print_document.ensures.text) c.push_one.ensures.tokens

pub returns-clause-held : goal.returns-clause-held
returns-clause-held c =
    let printed = c.in_ok-print_document.ensures in
    on_ok_always c.push_one.result (λ is. ap reference_of (sym printed.text) ∙ printed.again is)
