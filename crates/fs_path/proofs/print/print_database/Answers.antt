use Rattle.std.proofs.Common.{◌≡◌, ◌++◌, codes, string_bytes, append_assoc, ap, ◌∙◌}
use Rattle.fs_path.specs.Database.{database_text}
use Rattle.fs_path.proofs.print.print_database.Goals as goal

pub returns : goal.returns
returns c =
    let p = c.as_str.result.now in
    let d = c.as_str-2.result.now in
    let pushed : string_bytes c.push_str-3.new.self ≡ ((codes "projects/" ++ p) ++ codes "/databases/") ++ d =
    c.in_ok-push_str-3.ensures.bytes
    ∙ ap (λ x. x ++ d) (c.in_ok-push_str-2.ensures.bytes
    ∙ ap (λ x. x ++ codes "/databases/") (c.in_ok-push_str.ensures.bytes
    ∙ ap (λ x. x ++ p) c.in_ok-text.ensures.ok)) in
    let grouped : ((codes "projects/" ++ p) ++ codes "/databases/") ++ d ≡ codes "projects/" ++ (p ++ (codes "/databases/" ++ d)) =
    append_assoc (codes "projects/" ++ p) (codes "/databases/") d ∙ append_assoc (codes "projects/") p (codes "/databases/" ++ d) in
    let named : codes "projects/" ++ (p ++ (codes "/databases/" ++ d)) ≡ database_text c.args.root.now =
    ap (λ x. codes "projects/" ++ (x ++ (codes "/databases/" ++ d))) c.as_str.ensures.value
    ∙ ap (λ x. codes "projects/" ++ (c.args.root.now.project ++ (codes "/databases/" ++ x))) c.as_str-2.ensures.value in
    c.of.ensures ∙ pushed ∙ grouped ∙ named
