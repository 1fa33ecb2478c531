use Rattle.std.proofs.Common.{◌≡◌, rules, [], ◌∷◌}
use Rattle.std.specs.List.{filter_map}
use Rattle.fs_path.specs.NameOrder.{name_cmp}
use Rattle.fs_value.proofs.Rising.{rising_entries}
use Rattle.fs_cache.specs.Cached.{left_by}
use Rattle.fs_cache.proofs.Forgetting.{kept_have_places, standing_forgotten, stays}
use Rattle.fs_cache.proofs.Kept.{changed, keep, retained}
use Rattle.fs_cache.proofs.changes.forget_standing.Goals as goal

kept : (c : goal.After-retain) → c.retain.new.self.entries ≡ filter_map (keep (changed (left_by (c.args.target ∷ [])) (stays c.args.changes.now.entries))) c.args.places.now.entries
kept c = retained _ (left_by (c.args.target ∷ [])) (stays c.args.changes.now.entries) _ (λ k v b w g t. search rules) _ _ c.retain.ensures.filtered

pub returns-clause-standing : goal.returns-clause-standing
returns-clause-standing c =
    let places = c.args.places.now.entries in
    standing_forgotten (c.args.target ∷ []) places c.retain.new.self.entries c.args.changes.now.entries (rising_entries name_cmp places c.retain.ensures.was_ordered) (kept c)

pub returns-clause-placed : goal.returns-clause-placed
returns-clause-placed c =
    let places = c.args.places.now.entries in
    kept_have_places (c.args.target ∷ []) places c.retain.new.self.entries c.args.changes.now.entries (rising_entries name_cmp places c.retain.ensures.was_ordered) (kept c)
