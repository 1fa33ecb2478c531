use Rattle.std.proofs.Common.{rules, ◌≡◌, true, Some, sym, ap, ◌∙◌, subst, refl}
use Rattle.std.specs.Prelude.{is_some}
use Rattle.std.specs.BTreeMap.{is_at}
use Rattle.std.specs.Map.{lookup, set_value}
use Rattle.std.specs.Option.{option_copied_mut}
use Rattle.std.specs.Ordering.{nat_cmp}
use Rattle.fs_txn.specs.Kept.{txns, AreById}
use Rattle.fs_txn.specs.Transactions.{changed_at, txn_of}
use Rattle.fs_txn.specs.declared.txn.Txn.{Txn}
use Rattle.fs_txn.proofs.Entries.{found, changed, by_id_changed, is_lent}
use Rattle.fs_txn.proofs.by_id.ById.use_at.Goals as goal

pub unwrap-requires : goal.unwrap-requires
unwrap-requires c =
    is_lent c.get_mut.result
    (subst (λ o. is_some o ≡ true) (sym (c.get_mut.ensures.value ∙ found c.self.inside.txns.entries c.args.id c.self.invariant.keys ∙ ap (txn_of c.args.id) c.self.view_is)) c.requires)

pub invariant_of-self : goal.invariant_of-self
invariant_of-self c =
    let es = c.self.inside.txns.entries in
    let id = c.args.id in
    let o = c.unwrap.result.now in
    let w : Txn = record o { used = c.args.now } in
    let at : lookup (is_at (nat_cmp id)) es ≡ Some o = sym c.get_mut.ensures.value ∙ ap option_copied_mut c.unwrap.ensures in
    let set : (c.get_mut.follows.lender w).entries ≡ set_value (is_at (nat_cmp id)) es w = search rules in
    subst AreById (sym set) (by_id_changed es id o w (λ (t : Txn). record t { used = c.args.now }) (λ t. refl) c.self.invariant at refl)

pub returns : goal.returns
returns c =
    let es = c.self.inside.txns.entries in
    let id = c.args.id in
    let o = c.unwrap.result.now in
    let w : Txn = record o { used = c.args.now } in
    let at : lookup (is_at (nat_cmp id)) es ≡ Some o = sym c.get_mut.ensures.value ∙ ap option_copied_mut c.unwrap.ensures in
    let set : (c.get_mut.follows.lender w).entries ≡ set_value (is_at (nat_cmp id)) es w = search rules in
    ap txns set ∙ changed es id o w (λ (t : Txn). record t { used = c.args.now }) c.self.invariant.keys at refl ∙ ap (changed_at id (λ (t : Txn). record t { used = c.args.now })) c.self.view_is
