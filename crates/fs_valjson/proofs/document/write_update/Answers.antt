use Rattle.std.proofs.Common.{◌≡◌, Ok, string_bytes, ap, sym, ◌∙◌, rules}
use Rattle.serde_json.specs.Data.{no_members, object, string}
use Rattle.serde_json.specs.View.{view as json, members_view}
use Rattle.serde_json.specs.Written.{has_float}
use Rattle.serde_json.specs.declared.value.Value.{String, the_lemmas}
use Rattle.serde_json.proofs.Views.{view-Object}
use Rattle.fs_path.specs.Document.{document_of, document_text}
use Rattle.fs_value.specs.Data.{members_of}
use Rattle.fs_valjson.specs.Document.{document_at, update_json}
use Rattle.fs_valjson.specs.Writing.{members_json}
use Rattle.fs_valjson.proofs.Again.{update_again}
use Rattle.fs_valjson.proofs.Floats.{update_float}
use Rattle.fs_valjson.proofs.Written.{update_put}
use Rattle.fs_valjson.proofs.document.write_update.Goals as goal

pub returns-clause-value : goal.returns-clause-value
unfolding update_json
returns-clause-value c =
    let name = c.args.name.now in
    let none : members_view c.new-members.result.entries ≡ no_members = ap members_view c.new-members.ensures.empty in
    let seen : json (String c.into_string-name.result) ≡ string (string_bytes c.into_string-name.result) = search (rules, the_lemmas) in
    let text : string_bytes c.into_string-name.result ≡ document_text name = search rules in
    view-Object c.put.new.map ∙ rw (c.in_ok-put.ensures.ok, c.in_ok-put_fields.ensures, none, c.in_ok-written.ensures.value, seen, text)
    (ap object (update_put (document_text name) (members_json (members_of c.args.fields.now))))

pub returns-clause-no_float : goal.returns-clause-no_float
returns-clause-no_float c = ap has_float (returns-clause-value c) ∙ update_float c.args.name.now c.args.fields.now

pub returns-clause-reads_back : goal.returns-clause-reads_back
returns-clause-reads_back c = λ root place is names.
    let name = c.args.name.now in
    let fields = c.args.fields.now in
    let printed = c.in_ok-print_document.ensures in
    let named : document_of root (document_text name) ≡ Ok name = ap (document_of root) (sym printed.text) ∙ printed.in_root root is in
    ap (λ x. document_at root x place) (returns-clause-value c) ∙ update_again root name fields place named names c.in_ok-written.ensures.held
