use Rattle.std.proofs.Common.{◌≡◌, ◌++◌, [], ◌∷◌, Ok, codes, OnOk, refl, sym, subst, ap, ◌∙◌}
use Rattle.json.specs.Token.{begin_object, end_object}
use Rattle.serde_json.specs.Data as json
use Rattle.fs_json.specs.Time.{time_json}
use Rattle.fs_path.specs.Document.{document_text}
use Rattle.fs_time.specs.Rfc3339.{time_text}
use Rattle.fs_value.specs.Data.{members_of}
use Rattle.fs_valjson.specs.Document.{document_json, with_fields}
use Rattle.fs_valjson.proofs.Tokens.{around, behind_both, object_tokens}
use Rattle.fs_valjson.specs.Tokens.{member_tokens, text_member}
use Rattle.fs_valjson.specs.Writing.{members_json}
use Rattle.fs_valjson.proofs.Pushed.{fields_first}
use Rattle.fs_path.specs.Document.{document_of}
use Rattle.fs_json.proofs.Writings.{on_ok_always}
use Rattle.fs_valjson.specs.Held.{MembersAreHeld}
use Rattle.fs_valjson.proofs.Again.{document_again}
use Rattle.fs_valjson.proofs.Printed.{document_from_tokens}
use Rattle.fs_valjson.proofs.push.push_dated.Goals as goal

pub returns-clause-tokens : goal.returns-clause-tokens
unfolding document_json
returns-clause-tokens c =
    let d = c.args.d.now in
    let ms = members_json (members_of d.fields) in
    let made = text_member (codes "createTime") (time_text d.created) in
    let fields = member_tokens (with_fields ms json.no_members) in
    let name = text_member (codes "name") (document_text d.name) in
    let changed = text_member (codes "updateTime") (time_text d.updated) in
    let rest = json.member (codes "name") (json.string (document_text d.name)) (json.member (codes "updateTime") (time_json d.updated) json.no_members) in
    let begun = c.begin_object.new.self.tokens in
    let one = c.in_ok-push_text.ensures.tokens ∙ ap (λ t. begun ++ text_member (codes "createTime") t) c.requires in
    let two = subst (λ fs. c.push_fields.new.line.tokens ≡ c.push_text.new.line.tokens ++ member_tokens (with_fields (members_json (members_of fs)) json.no_members)) c.as_fields.ensures c.in_ok-push_fields.ensures.tokens in
    let three = c.in_ok-push_text-2.ensures.tokens ∙ ap (λ t. c.push_fields.new.line.tokens ++ text_member (codes "name") t) (c.as_str-2.ensures.value ∙ c.in_ok-print_document.ensures.text) in
    let four = c.in_ok-push_time.ensures.tokens in
    let last = behind_both c.push_fields.new.line.tokens _ _ name changed three four in
    let ends = behind_both c.push_text.new.line.tokens _ _ fields (name ++ changed) two last in
    let all = behind_both begun _ _ made (fields ++ (name ++ changed)) one ends in
    subst (λ ts. OnOk c.end_object.result (c.end_object.new.self.tokens ≡ ts))
    (around c.args.line.now.tokens begun c.push_time.new.line.tokens begin_object end_object (made ++ (fields ++ (name ++ changed))) _ c.in_ok-begin_object.ensures.ok all
    (ap (λ ts. begin_object ∷ ((made ++ ts) ++ end_object ∷ [])) (fields_first ms rest) ∙ object_tokens (json.member (codes "createTime") (time_json d.created) (with_fields ms rest))))
    c.end_object.ensures.ok

pub returns-clause-held : goal.returns-clause-held
returns-clause-held c =
    let d = c.args.d.now in
    let printed = c.in_ok-print_document.ensures in
    let held = subst (λ fs. MembersAreHeld (members_of fs)) c.as_fields.ensures c.in_ok-push_fields.ensures.held in
    on_ok_always c.end_object.result (record {
      again = λ root place valid.
          let named : document_of root (document_text d.name) ≡ Ok d.name = ap (document_of root) (sym printed.text) ∙ printed.in_root root valid.named in
          document_again root d.name d.fields d.created d.updated place named valid.names held c.times_are_held.ensures c.in_ok-push_time.ensures.held;
      from_tokens = document_from_tokens d d.fields refl held;
    })
