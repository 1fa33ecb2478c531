use Rattle.std.proofs.Common.{ap, ◌∙◌}
use Rattle.std.specs.FinMap.{FinMap}
use Rattle.std.specs.Prelude.{List}
use Rattle.fs_history.specs.declared.version.Version.{Version}
use Rattle.fs_path.specs.NameOrder.{name_cmp}
use Rattle.fs_versions.specs.Sound.{chains_of}
use Rattle.fs_versions.proofs.Views.{no_chains, shows_none}
use Rattle.fs_versions.proofs.versions.Versions.new.Goals as goal

pub returns-clause-value : goal.returns-clause-value
returns-clause-value c =
    ap (λ (m : FinMap name_cmp (List Version)). record { by_name = m; floor = c.args.floor; last = c.args.floor }) (ap chains_of c.new.ensures.empty ∙ no_chains)

pub returns-clause-shows : goal.returns-clause-shows
returns-clause-shows c = shows_none _ (ap chains_of c.new.ensures.empty ∙ no_chains)
