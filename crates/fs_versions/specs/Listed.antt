-- The documents at a time, in the order of names: of all names, and of those in the scope of a query.
use Rattle.std.specs.Prelude.{ℤ, List, [], ◌∷◌, ◌++◌}
use Rattle.std.specs.List.{filter}
use Rattle.std.specs.Option.{option_to_list}
use Rattle.std.specs.FinMap.{entries}
use Rattle.fs_path.specs.Scope.{covers}
use Rattle.fs_path.specs.declared.name.DocName.{DocName}
use Rattle.fs_path.specs.declared.scope.Scope.{Scope}
use Rattle.fs_value.specs.declared.document.Document.{Document}
use Rattle.fs_history.specs.declared.version.Version.{Version}
use Rattle.fs_versions.specs.Chain.{shown_at}
use Rattle.fs_versions.specs.Chains.{Chains}

-- those that chains show
abbrev pub all_shown : ℤ → List (DocName × List Version) → List Document
all_shown time [] = []
all_shown time (e ∷ es) = option_to_list (shown_at time e.1) ++ all_shown time es

abbrev pub documents_at : Chains → ℤ → List Document
documents_at v time = all_shown time (entries v.by_name)

abbrev pub documents_in : Scope → Chains → ℤ → List Document
documents_in scope v time = all_shown time (filter (λ e. covers scope e.0) (entries v.by_name))
