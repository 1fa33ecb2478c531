use Rattle.std.proofs.Common.{◌≡◌, ◌∷◌, ◌++◌, [], string_bytes, ap, ◌∙◌}
use Rattle.std.specs.Option.{option_copied}
use Rattle.fs_path.specs.Cursor.{rest_segments, after_slash}
use Rattle.fs_path.specs.Name.{named}
use Rattle.fs_path.specs.Segment.{segments}
use Rattle.fs_path.proofs.NameTexts.{head_parts, path_pieces, some_path}
use Rattle.fs_path.proofs.name.DocName.of_head.Goals as goal

pub invariant_of-result : goal.invariant_of-result
invariant_of-result c =
    let p = c.args.head.project.now in
    let d = c.args.head.database.now in
    let o = option_copied c.args.head.ids in
    let is : string_bytes c.push_ids.new.text ≡ p ++ 47 ∷ (d ++ after_slash o) =
    c.in_ok-push_ids.ensures
    ∙ (ap (λ x. x ++ after_slash o) (c.in_ok-push_str-3.ensures.bytes ∙ ap (λ x. x ++ d) (c.in_ok-push_str-2.ensures.bytes ∙ ap (λ x. x ++ 47 ∷ []) (c.in_ok-push_str.ensures.bytes ∙ ap (λ x. x ++ p) c.in_ok-path.ensures.bytes)))
    ∙ path_pieces p d (after_slash o)) in
    some_path (string_bytes c.push_ids.new.text) p d (rest_segments o) (ap segments is ∙ head_parts p d o c.args.head.whole_project c.args.head.whole_database)

pub returns : goal.returns
returns c =
    let p = c.args.head.project.now in
    let d = c.args.head.database.now in
    let o = option_copied c.args.head.ids in
    let is : string_bytes c.push_ids.new.text ≡ p ++ 47 ∷ (d ++ after_slash o) =
    c.in_ok-push_ids.ensures
    ∙ (ap (λ x. x ++ after_slash o) (c.in_ok-push_str-3.ensures.bytes ∙ ap (λ x. x ++ d) (c.in_ok-push_str-2.ensures.bytes ∙ ap (λ x. x ++ 47 ∷ []) (c.in_ok-push_str.ensures.bytes ∙ ap (λ x. x ++ p) c.in_ok-path.ensures.bytes)))
    ∙ path_pieces p d (after_slash o)) in
    ap named (ap segments is ∙ head_parts p d o c.args.head.whole_project c.args.head.whole_database)
