use Rattle.std.proofs.Common.{◌≡◌, string_bytes, ap, ◌∙◌, rules}
use Rattle.serde_json.specs.Data.{string}
use Rattle.serde_json.specs.View.{view as json}
use Rattle.serde_json.specs.declared.value.Value.{String, the_lemmas}
use Rattle.fs_path.specs.Document.{document_text}
use Rattle.fs_json.proofs.Writings.{written_next}
use Rattle.fs_rpc.specs.RequestJson.{name_json}
use Rattle.fs_rpc.proofs.request_write.write_names.Goals as goal

pub loop-name-preserved : goal.loop-name-preserved
loop-name-preserved c =
    let xs = c.args.names.now in
    let l = c.loop-name in
    let x = c.name-item.result in
    let text = c.into_string-text.result in
    let is : string_bytes text ≡ document_text x = search rules in
    let seen : json (String text) ≡ string (string_bytes text) = search (rules, the_lemmas) in
    rw c.in_ok-push.ensures.items (written_next name_json l.items.items (String text) xs l.name-index x c.loop-name-test.true c.name-item.is l.invariant (seen ∙ ap string is))
