use Rattle.std.proofs.Common.{rules, refl, sym, ap, ◌∙◌}
use Rattle.std.specs.FinMap.{FinMap}
use Rattle.std.specs.Prelude.{List}
use Rattle.fs_history.specs.declared.version.Version.{Version}
use Rattle.fs_path.specs.NameOrder.{name_cmp}
use Rattle.fs_value.proofs.Rising.{rising_entries}
use Rattle.fs_versions.specs.Chain.{cut}
use Rattle.fs_versions.specs.Chains.{chain_of, compacted}
use Rattle.fs_versions.specs.Room.{Versioned}
use Rattle.fs_versions.proofs.Compacting.{chain_kept, compacted_view, ends_cut, shows_cut}
use Rattle.fs_versions.proofs.Views.{chain_get}
use Rattle.fs_versions.proofs.versions.Versions.compact.Goals as goal

pub invariant_of-self : goal.invariant_of-self
invariant_of-self c =
    let old = c.self.inside.chains.entries in
    let new = c.retain.new.self.entries in
    ends_cut old new c.args.floor c.self.inside.last c.self.invariant
    (λ q. chain_kept c.args.floor q _ _ (λ k v b w g' t. search rules) old new c.retain.ensures.filtered (rising_entries name_cmp old c.retain.ensures.was_ordered))

pub returns-clause-value : goal.returns-clause-value
returns-clause-value c =
    let f = c.args.floor in
    let old = c.self.inside.chains.entries in
    let new = c.retain.new.self.entries in
    ap (λ (m : FinMap name_cmp (List Version)). record { by_name = m; floor = f; last = c.self.inside.last })
    (compacted_view f old new (λ q. chain_kept f q _ _ (λ k v b w g' t. search rules) old new c.retain.ensures.filtered (rising_entries name_cmp old c.retain.ensures.was_ordered)))
    ∙ ap (λ (v : Versioned). compacted v.chains f) c.self.view_is

pub returns-clause-cut : goal.returns-clause-cut
returns-clause-cut c =
    let old = c.self.inside.chains.entries in
    let new = c.retain.new.self.entries in
    record {
      to = refl;
      last = ap (λ (v : Versioned). v.chains.last) c.self.view_is;
      chains = λ q.
          chain_get new q
          ∙ chain_kept c.args.floor q _ _ (λ k v b w g' t. search rules) old new c.retain.ensures.filtered (rising_entries name_cmp old c.retain.ensures.was_ordered)
          ∙ ap (cut c.args.floor) (sym (chain_get old q) ∙ ap (λ (v : Versioned). chain_of v.chains q) c.self.view_is);
    }

pub returns-clause-shows : goal.returns-clause-shows
returns-clause-shows c = λ h shows. shows_cut c.args.self.now.chains _ c.args.floor (returns-clause-cut c) c.requires h shows
