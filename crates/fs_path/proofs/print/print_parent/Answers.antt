use Rattle.std.proofs.Common.{◌≡◌, ◌++◌, codes, string_bytes, append_assoc, ap, ◌∙◌, rules}
use Rattle.std.specs.List.{flat_map}
use Rattle.fs_path.specs.Database.{database_text}
use Rattle.fs_path.specs.Document.{document_text, under}
use Rattle.fs_path.specs.Spelling.{slashed}
use Rattle.fs_path.proofs.print.print_parent.Goals as goal

pub returns : goal.returns
returns c =
    let r = c.args.root.now in
    let ids = flat_map slashed c.args.ids.now in
    let printed : string_bytes c.into_string-text.result ≡ database_text r = c.into_string-text.ensures ∙ c.in_ok-print_database.ensures in
    let bytes : string_bytes c.push_str.new.self ≡ string_bytes c.into_string-text.result ++ codes "/documents" = search rules in
    let pushed : string_bytes c.push_ids.new.text ≡ string_bytes c.push_str.new.self ++ ids = search rules in
    let grouped : (database_text r ++ codes "/documents") ++ ids ≡ document_text (under r c.args.ids.now) =
    append_assoc (database_text r) (codes "/documents") ids
    ∙ ap (λ t. codes "projects/" ++ t) (append_assoc r.project (codes "/databases/" ++ r.database) (codes "/documents" ++ ids)) in
    c.of.ensures ∙ pushed ∙ ap (λ x. x ++ ids) (bytes ∙ ap (λ x. x ++ codes "/documents") printed) ∙ grouped
