use Rattle.std.proofs.Common.{◌≡◌, ◌++◌, codes, string_bytes, ap, ◌∙◌}
use Rattle.std.specs.Option.{option_copied}
use Rattle.fs_path.specs.Cursor.{after_slash}
use Rattle.fs_path.specs.Document.{document_text}
use Rattle.fs_path.proofs.NameTexts.{slashed_rest, name_pieces}
use Rattle.fs_path.proofs.print.name_text.Goals as goal

pub returns : goal.returns
returns c =
    let p = c.head-head.result.project.now in
    let d = c.head-head.result.database.now in
    let o = option_copied c.head-head.result.ids in
    let text : string_bytes c.push_ids.new.text ≡ ((((codes "projects/" ++ p) ++ codes "/databases/") ++ d) ++ codes "/documents") ++ after_slash o =
    c.in_ok-push_ids.ensures
    ∙ ap (λ x. x ++ after_slash o) (c.in_ok-push_str-5.ensures.bytes
    ∙ ap (λ x. x ++ codes "/documents") (c.in_ok-push_str-4.ensures.bytes
    ∙ ap (λ x. x ++ d) (c.in_ok-push_str-3.ensures.bytes
    ∙ ap (λ x. x ++ codes "/databases/") (c.in_ok-push_str-2.ensures.bytes
    ∙ ap (λ x. x ++ p) (c.in_ok-push_str.ensures.bytes
    ∙ ap (λ x. x ++ codes "projects/") c.in_ok-text.ensures.bytes))))) in
    c.of.ensures
    ∙ (text
    ∙ (name_pieces (codes "projects/") p (codes "/databases/") d (codes "/documents") (after_slash o)
    ∙ (ap (λ t. codes "projects/" ++ (p ++ (codes "/databases/" ++ (d ++ (codes "/documents" ++ t))))) (slashed_rest o)
    ∙ ap document_text c.head-head.ensures)))
