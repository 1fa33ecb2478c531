-- What is shown of a target doesn't depend on the link, but for whether it is from the cache.
use Rattle.std.proofs.Common.{◌≡◌, Option, Some, None, refl, ap, ◌∙◌}
use Rattle.std.specs.FinMap.{get}
use Rattle.std.specs.Option.{option_map}
use Rattle.fs_local.specs.Connect.{connected, lost, not_current}
use Rattle.fs_local.specs.Laws.{ConnectedShowsTheSame, LostShowsTheSame, from_cache}
use Rattle.fs_local.specs.Shown.{view_of_target}
use Rattle.fs_local.specs.declared.listened.Listened.{Listened}
use Rattle.fs_local.proofs.TargetsAt.{get_each}

pub lost_shows_the_same : LostShowsTheSame
lost_shows_the_same id c = ap (option_map (view_of_target (lost c))) (get_each not_current c.targets id) ∙ same (get c.targets.listened id) where
  same : (o : Option Listened) → option_map (view_of_target (lost c)) (option_map not_current o) ≡ option_map from_cache (option_map (view_of_target c) o)
  same None = refl
  same (Some l) = refl

pub connected_shows_the_same : ConnectedShowsTheSame
connected_shows_the_same id c = ap (option_map (view_of_target (connected c))) (get_each not_current c.targets id) ∙ same (get c.targets.listened id) where
  same : (o : Option Listened) → option_map (view_of_target (connected c)) (option_map not_current o) ≡ option_map from_cache (option_map (view_of_target c) o)
  same None = refl
  same (Some l) = refl
