use Rattle.std.proofs.Common.{◌≡◌, map, subst}
use Rattle.std.specs.FinMap.{entries}
use Rattle.std.specs.List.{filter}
use Rattle.std.specs.Prelude.{IfOk}
use Rattle.fs_path.specs.Scope.{covers}
use Rattle.fs_versions.specs.Listed.{all_shown}
use Rattle.fs_versions.specs.Room.{Versioned}
use Rattle.fs_versions.proofs.Listing.{shown_values}
use Rattle.fs_versions.proofs.versions.Versions.documents_in.Goals as goal

pub returns-clause-value : goal.returns-clause-value
returns-clause-value c =
    let t = c.args.time in
    let scope = c.args.scope.now in
    subst (λ (v : Versioned). IfOk c.documents_in.result (λ r. map (λ d. d.now) r.items ≡ all_shown t (filter (λ e. covers scope e.0) (entries v.chains.by_name)))) c.self.view_is c.documents_in.ensures

pub returns-clause-shows : goal.returns-clause-shows
returns-clause-shows c = λ h shows. shown_values c.args.self.now.chains.by_name _ c.args.time (λ q. shows.documents c.args.time q c.requires)
