use Rattle.std.proofs.Common.{◌≡◌, rules, [], ◌∷◌}
use Rattle.std.specs.List.{filter_map}
use Rattle.fs_path.specs.NameOrder.{name_cmp}
use Rattle.fs_value.proofs.Rising.{rising_entries}
use Rattle.fs_cache.specs.Cached.{left_by}
use Rattle.fs_cache.proofs.Forgetting.{all_stay, laid_forgotten}
use Rattle.fs_cache.proofs.Kept.{changed, keep, retained}
use Rattle.fs_cache.proofs.changes.forget_changes.Goals as goal

kept : (c : goal.After-retain) → c.retain.new.self.entries ≡ filter_map (keep (changed (left_by (c.args.target ∷ [])) all_stay)) c.args.changes.now.entries
kept c = retained _ (left_by (c.args.target ∷ [])) all_stay _ (λ k v b w g t. search rules) _ _ c.retain.ensures.filtered

pub returns-clause-staged : goal.returns-clause-staged
returns-clause-staged c =
    let changes = c.args.changes.now.entries in
    laid_forgotten (c.args.target ∷ []) changes c.retain.new.self.entries (rising_entries name_cmp changes c.retain.ensures.was_ordered) (kept c)
