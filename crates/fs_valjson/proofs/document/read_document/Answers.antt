use Rattle.std.proofs.Common.{◌≡◌, Ok, rules}
use Rattle.std.proofs.lemmas.Result.{IfOk-at_ok}
use Rattle.serde_json.specs.View.{view as json}
use Rattle.fs_path.specs.Way.{place_of}
use Rattle.fs_value.specs.declared.document.Document.{Document}
use Rattle.fs_valjson.specs.Document.{document_at}
use Rattle.fs_valjson.specs.Valid.{IsValid}
use Rattle.fs_valjson.proofs.Valid.{document_valid}
use Rattle.fs_valjson.proofs.document.read_document.Goals as goal

pub returns-in-Ok-clause-valid : goal.returns-in-Ok-clause-valid
unfolding document_at
returns-in-Ok-clause-valid c =
    let content = c.in-Ok.content in
    let d : Document = record { name = c.in_ok-name-2.name; fields = content.fields; created = content.created; updated = content.updated } in
    let read : document_at c.args.root.now (json c.args.v.now) (place_of c.args.way.now) ≡ Ok d = search rules in
    IfOk-at_ok (IsValid c.args.root.now) read (document_valid c.args.root.now (json c.args.v.now) (place_of c.args.way.now))
