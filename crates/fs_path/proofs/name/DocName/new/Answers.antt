use Rattle.std.proofs.Common.{◌≡◌, ◌∷◌, ◌++◌, string_bytes, ap, sym, ◌∙◌}
use Rattle.std.proofs.lemmas.List.{append-nil, drop_all}
use Rattle.std.specs.List.{flat_map}
use Rattle.fs_path.specs.Spelling.{slashed}
use Rattle.fs_path.specs.Name.{named}
use Rattle.fs_path.specs.Segment.{segments}
use Rattle.fs_path.proofs.NameTexts.{path_parts, some_path}
use Rattle.fs_path.proofs.name.DocName.new.Goals as goal

pub invariant_of-result : goal.invariant_of-result
invariant_of-result c =
    let r = c.args.root.now in
    let path = string_bytes c.loop-id.path in
    let is : path ≡ r.project ++ 47 ∷ (r.database ++ flat_map slashed c.args.ids.now) =
    sym (append-nil path) ∙ (ap (λ ids. path ++ flat_map slashed ids) (sym (drop_all c.loop-id.id-index c.as_slice-id-items.result.now c.loop-id-test.false)) ∙ c.loop-id.invariant) in
    some_path path r.project r.database c.args.ids.now (ap segments is ∙ path_parts r.project r.database c.args.ids.now c.requires.project c.requires.database c.requires.ids)

pub returns : goal.returns
returns c =
    let r = c.args.root.now in
    let path = string_bytes c.loop-id.path in
    let is : path ≡ r.project ++ 47 ∷ (r.database ++ flat_map slashed c.args.ids.now) =
    sym (append-nil path) ∙ (ap (λ ids. path ++ flat_map slashed ids) (sym (drop_all c.loop-id.id-index c.as_slice-id-items.result.now c.loop-id-test.false)) ∙ c.loop-id.invariant) in
    ap named (ap segments is ∙ path_parts r.project r.database c.args.ids.now c.requires.project c.requires.database c.requires.ids)
