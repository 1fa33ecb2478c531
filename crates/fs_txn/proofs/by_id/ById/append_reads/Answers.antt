use Rattle.std.proofs.Common.{rules, ◌≡◌, true, Some, sym, ap, ◌∙◌, subst, refl, List, ◌++◌}
use Rattle.std.specs.Prelude.{is_some}
use Rattle.std.specs.BTreeMap.{is_at}
use Rattle.std.specs.Map.{lookup, set_value}
use Rattle.std.specs.Option.{option_copied_mut}
use Rattle.std.specs.Ordering.{nat_cmp}
use Rattle.std.proofs.lemmas.Result.{on_err_weaker, on_ok_weaker}
use Rattle.fs_history.specs.declared.read.Read.{Read}
use Rattle.fs_txn.specs.Kept.{txns, AreById}
use Rattle.fs_txn.specs.Transactions.{changed_at, txn_of}
use Rattle.fs_txn.specs.declared.txn.Txn.{Txn}
use Rattle.fs_txn.proofs.Entries.{found, changed, by_id_changed, unchanged, is_lent}
use Rattle.fs_txn.proofs.by_id.ById.append_reads.Goals as goal

pub unwrap-requires : goal.unwrap-requires
unwrap-requires c =
    is_lent c.get_mut.result
    (subst (λ o. is_some o ≡ true) (sym (c.get_mut.ensures.value ∙ found c.self.inside.txns.entries c.args.id c.self.invariant.keys ∙ ap (txn_of c.args.id) c.self.view_is)) c.requires)

pub invariant_of-self : goal.invariant_of-self
invariant_of-self c =
    let es = c.self.inside.txns.entries in
    let id = c.args.id in
    let o = c.unwrap.result.now in
    let w : Txn = record o { reads = c.append.new.reads } in
    let at : lookup (is_at (nat_cmp id)) es ≡ Some o = sym c.get_mut.ensures.value ∙ ap option_copied_mut c.unwrap.ensures in
    let set : (c.get_mut.follows.lender w).entries ≡ set_value (is_at (nat_cmp id)) es w = search rules in
    subst AreById (sym set) (by_id_changed es id o w (λ (t : Txn). record t { reads = c.append.new.reads }) (λ t. refl) c.self.invariant at refl)

pub returns-clause-ok : goal.returns-clause-ok
returns-clause-ok c =
    let es = c.self.inside.txns.entries in
    let id = c.args.id in
    let o = c.unwrap.result.now in
    let w : Txn = record o { reads = c.append.new.reads } in
    let at : lookup (is_at (nat_cmp id)) es ≡ Some o = sym c.get_mut.ensures.value ∙ ap option_copied_mut c.unwrap.ensures in
    let set : (c.get_mut.follows.lender w).entries ≡ set_value (is_at (nat_cmp id)) es w = search rules in
    let F : Txn → Txn = λ t. record t { reads = t.reads ++ c.args.reads } in
    on_ok_weaker {P = c.append.new.reads ≡ o.reads ++ c.args.reads} {Q = txns (c.get_mut.follows.lender w).entries ≡ changed_at id F c.args.self.now} c.append.result
    (λ is. ap txns set ∙ changed es id o w F c.self.invariant.keys at (ap (λ (rs : List Read). record o { reads = rs }) is) ∙ ap (changed_at id F) c.self.view_is)
    c.append.ensures.ok

pub returns-clause-err : goal.returns-clause-err
returns-clause-err c =
    let es = c.self.inside.txns.entries in
    let id = c.args.id in
    let o = c.unwrap.result.now in
    let w : Txn = record o { reads = c.append.new.reads } in
    let at : lookup (is_at (nat_cmp id)) es ≡ Some o = sym c.get_mut.ensures.value ∙ ap option_copied_mut c.unwrap.ensures in
    let set : (c.get_mut.follows.lender w).entries ≡ set_value (is_at (nat_cmp id)) es w = search rules in
    on_err_weaker {P = c.append.new.reads ≡ o.reads} {Q = txns (c.get_mut.follows.lender w).entries ≡ c.args.self.now} c.append.result
    (λ is. ap txns set ∙ changed es id o w (λ t. t) c.self.invariant.keys at (ap (λ (rs : List Read). record o { reads = rs }) is) ∙ unchanged (txns es) id ∙ c.self.view_is)
    c.append.ensures.err
