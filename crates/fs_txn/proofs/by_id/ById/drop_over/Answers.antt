use Rattle.std.proofs.Common.{rules, ◌≡◌, ℕ, ap, ◌∙◌, subst, sym}
use Rattle.std.specs.Prelude.{not}
use Rattle.std.specs.List.{filter}
use Rattle.std.proofs.lemmas.Map.Made.{filter_same_pairs}
use Rattle.fs_txn.specs.Expiry.{is_over}
use Rattle.fs_txn.specs.Kept.{txns, AreById}
use Rattle.fs_txn.specs.declared.txn.Txn.{Txn}
use Rattle.fs_txn.proofs.Entries.{txns_kept, by_id_kept}
use Rattle.fs_txn.proofs.by_id.ById.drop_over.Goals as goal

pub invariant_of-self : goal.invariant_of-self
invariant_of-self c =
    let es = c.self.inside.txns.entries in
    let kept : c.retain.new.self.entries ≡ filter (λ (e : ℕ × Txn). not (is_over c.args.now e.1)) es =
    filter_same_pairs _ (λ (e : ℕ × Txn). not (is_over c.args.now e.1)) _ (λ k v b w f' t. search rules) es c.retain.new.self.entries c.retain.ensures.filtered in
    subst AreById (sym kept) (by_id_kept (λ t. not (is_over c.args.now t)) es c.self.invariant)

pub returns-clause-rest : goal.returns-clause-rest
returns-clause-rest c =
    let es = c.self.inside.txns.entries in
    let kept : c.retain.new.self.entries ≡ filter (λ (e : ℕ × Txn). not (is_over c.args.now e.1)) es =
    filter_same_pairs _ (λ (e : ℕ × Txn). not (is_over c.args.now e.1)) _ (λ k v b w f' t. search rules) es c.retain.new.self.entries c.retain.ensures.filtered in
    ap txns kept ∙ txns_kept (λ t. not (is_over c.args.now t)) es ∙ ap (filter (λ (t : Txn). not (is_over c.args.now t))) c.self.view_is
