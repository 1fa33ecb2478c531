use Rattle.std.proofs.Common.{rules, ◌≡◌, ◌≤◌, Option, Some, None, sym, ap, ◌∙◌, subst, arith}
use Rattle.std.specs.Prelude.{unwrap_or}
use Rattle.fs_path.specs.declared.name.DocName.{DocName}
use Rattle.fs_versions.specs.Chained.{Chained}
use Rattle.fs_versions.specs.Sound.{Puts, chained, found, room_in}
use Rattle.fs_versions.proofs.TreeLaws.{chain_or, no_less, same_chains}
use Rattle.fs_versions.proofs.install.reserve.Goals as goal

room_or : (o : Option Chained) (d : Chained) → (chained o).room ≤ (unwrap_or o d).room
room_or None d = omega arith
room_or (Some c) d = omega arith

pub returns-clause-same : goal.returns-clause-same
returns-clause-same c =
    let name = c.args.name.now in
    let old = c.args.chains.now.entries in
    let chain = c.reserve.new.self in
    let there : c.or_insert-chain.result.now ≡ unwrap_or (found name old) c.new.result =
    c.or_insert-chain.ensures.value ∙ ap (λ o. unwrap_or o c.new.result) c.in_ok-chains.ensures.value
    ∙ ap (λ (n : DocName). unwrap_or (found n old) c.new.result) c.in_ok-copy.ensures in
    let put : Puts old _ name chain = search rules in
    same_chains old _ name chain put (c.reserve.ensures.same ∙ ap (λ (x : Chained). x.versions) there ∙ chain_or (found name old) c.new.result c.new.ensures)

pub returns-clause-kept : goal.returns-clause-kept
returns-clause-kept c =
    let name = c.args.name.now in
    let old = c.args.chains.now.entries in
    let chain = c.reserve.new.self in
    let there : c.or_insert-chain.result.now ≡ unwrap_or (found name old) c.new.result =
    c.or_insert-chain.ensures.value ∙ ap (λ o. unwrap_or o c.new.result) c.in_ok-chains.ensures.value
    ∙ ap (λ (n : DocName). unwrap_or (found n old) c.new.result) c.in_ok-copy.ensures in
    let put : Puts old _ name chain = search rules in
    let more : room_in name old ≤ c.or_insert-chain.result.now.room = subst (λ (x : Chained). room_in name old ≤ x.room) (sym there) (room_or (found name old) c.new.result) in
    no_less old _ name chain put (omega arith)
