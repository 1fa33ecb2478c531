use Rattle.std.proofs.Common.{◌≡◌, ◌∷◌, [], not, ap, sym, ◌∙◌}
use Rattle.std.specs.Option.{option_copied, option_map}
use Rattle.fs_path.specs.declared.error.PathError.TheVariants.{WrongDatabase}
use Rattle.fs_path.specs.Cursor.{rest_segments}
use Rattle.fs_path.specs.Head.{head_name}
use Rattle.fs_path.specs.Segment.{segments}
use Rattle.fs_path.specs.Spelling.{if_spelled, is_of}
use Rattle.fs_path.proofs.PathOrder.{parts}
use Rattle.fs_path.proofs.Spellings.{not_nothing}
use Rattle.fs_path.proofs.database.check_named.Goals as goal

pub returns-in-Some-ids : goal.returns-in-Some-ids
returns-in-Some-ids c =
    let p = parts c.in-Some-ids.field-0.now in
    let n = head_name c.in-Some.head in
    let said = sym c.of_database.ensures ∙ ap (option_map head_name) c.in-Some.is in
    let ids : n.ids ≡ p.first ∷ p.rest = ap (λ o. rest_segments (option_copied o)) c.in-Some-ids.is ∙ p.are in
    sym (ap (if_spelled (λ m. (not (is_of c.args.root.now m), WrongDatabase) ∷ []) (λ m. tt)) (not_nothing (segments c.args.text.now) n p.first p.rest said ids))
