use Rattle.std.proofs.Common.{◌≡◌, [], refl, sym, subst}
use Rattle.std.specs.Option.{option_map}
use Rattle.fs_target.specs.Seen.{loaded_in}
use Rattle.fs_target.specs.Staged.{behind}
use Rattle.fs_target.specs.Still.{WillBeWith, in_all}
use Rattle.fs_target.specs.declared.entry.Loaded as entry
use Rattle.fs_target.proofs.InOrder.{not_true}
use Rattle.fs_target.proofs.still.will_be.Goals as goal

pub returns-then-agree : goal.returns-then-agree
returns-then-agree c = λ none.
    let l = c.in-Some.loaded in
    let time = c.args.time in
    let ps = c.args.positions.now in
    let agrees : in_all l.positions.items ps ≡ l.positions.items = subst (λ own. in_all own ps ≡ own) c.as_slice.ensures.value (c.if-agree.ensures refl) in
    let behind_none : behind time l.kept.kept.staged ≡ [] = c.are_behind.ensures (not_true c.are_behind.result none) in
    subst (λ o. WillBeWith time ps (option_map loaded_in o) (option_map (λ (m : entry.Loaded). m.kept.kept) o)) (sym c.in-Some.is) (agrees, behind_none)
