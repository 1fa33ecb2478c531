use Rattle.std.proofs.Common.{rules, ◌≡◌, ◌++◌, ◌∷◌, [], sym, ap, ◌∙◌, subst}
use Rattle.std.specs.Prelude.{unwrap_or}
use Rattle.fs_history.specs.declared.version.Version.{Version}
use Rattle.std.specs.Prelude.{List}
use Rattle.fs_path.proofs.Results.{at_err}
use Rattle.fs_path.specs.declared.name.DocName.{DocName}
use Rattle.fs_versions.specs.Chained.{Chained}
use Rattle.fs_versions.specs.Rising.{AreBefore}
use Rattle.fs_versions.specs.Sound.{Puts, chain_in, found}
use Rattle.fs_versions.proofs.TreeLaws.{chain_or, one_changed, same_chains}
use Rattle.fs_versions.proofs.install.install_one.Goals as goal

pub returns-in_err-reserve-clause-err : goal.returns-in_err-reserve-clause-err
returns-in_err-reserve-clause-err c =
    let name = c.args.change.now.name in
    let old = c.args.chains.now.entries in
    let chain = c.reserve.new.self in
    let there : c.or_insert-chain.result.now ≡ unwrap_or (found name old) c.new.result =
    c.or_insert-chain.ensures.value ∙ ap (λ o. unwrap_or o c.new.result) c.in_ok-chains.ensures.value
    ∙ ap (λ (n : DocName). unwrap_or (found n old) c.new.result) c.in_ok-copy.ensures in
    let put : Puts old _ name chain = search rules in
    at_err c.from_residual-in_err-reserve.result (same_chains old _ name chain put (c.reserve.ensures.same ∙ ap (λ (x : Chained). x.versions) there ∙ chain_or (found name old) c.new.result c.new.ensures))

pub push-requires-clause-later : goal.push-requires-clause-later
push-requires-clause-later c =
    let name = c.args.change.now.name in
    let old = c.args.chains.now.entries in
    let there : c.or_insert-chain.result.now ≡ unwrap_or (found name old) c.new.result =
    c.or_insert-chain.ensures.value ∙ ap (λ o. unwrap_or o c.new.result) c.in_ok-chains.ensures.value
    ∙ ap (λ (n : DocName). unwrap_or (found n old) c.new.result) c.in_ok-copy.ensures in
    let same = c.reserve.ensures.same ∙ ap (λ (x : Chained). x.versions) there ∙ chain_or (found name old) c.new.result c.new.ensures in
    subst (λ (vs : List Version). AreBefore vs c.args.time) (sym same) c.requires

pub returns-clause-ok : goal.returns-clause-ok
returns-clause-ok c =
    let name = c.args.change.now.name in
    let old = c.args.chains.now.entries in
    let chain = c.push.new.self in
    let there : c.or_insert-chain.result.now ≡ unwrap_or (found name old) c.new.result =
    c.or_insert-chain.ensures.value ∙ ap (λ o. unwrap_or o c.new.result) c.in_ok-chains.ensures.value
    ∙ ap (λ (n : DocName). unwrap_or (found n old) c.new.result) c.in_ok-copy.ensures in
    let same = c.reserve.ensures.same ∙ ap (λ (x : Chained). x.versions) there ∙ chain_or (found name old) c.new.result c.new.ensures in
    let put : Puts old _ name chain = search rules in
    let made = ap (λ (x : Chained). x.versions) c.push.ensures in
    one_changed old _ c.args.change.now c.args.time chain put
    (made ∙ ap (λ vs. vs ++ record { time = c.args.time; after = c.in_ok-after.after } ∷ []) same
    ∙ ap (λ a. chain_in name old ++ record { time = c.args.time; after = a } ∷ []) c.in_ok-after.ensures)
