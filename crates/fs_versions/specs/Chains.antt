-- What contracts see of the versions of all documents: by name the chains, of which none is empty; the floor; and the last
-- time at which a batch was installed, or the first floor where none was.
use Rattle.std.specs.Prelude.{◌≡◌, ◌≢◌, ℤ, ◌≤ℤ◌, List, [], ◌∷◌, map, Some, unwrap_or, refl}
use Rattle.std.specs.Coded.{Coded, code_by, coded×, coded_ℤ, coded_list}
use Rattle.std.specs.FinMap.{FinMap, code, entries, find, from_entries, get, insert}
use Rattle.std.specs.List.{All}
use Rattle.fs_path.specs.NameOrder.{name_cmp}
use Rattle.fs_path.specs.contracts.name.DocName as name
use Rattle.fs_path.specs.declared.name.DocName.{DocName}
use Rattle.fs_write.specs.Batch.{changes_by_name}
use Rattle.fs_write.specs.declared.change.Change.{Change}
use Rattle.fs_history.specs.contracts.version.Version as version
use Rattle.fs_history.specs.declared.version.Version.{Version}
use Rattle.fs_versions.specs.Chain.{extended, cut}

pub record Chains : Type 0 where
  pub by_name : FinMap name_cmp (List Version)
  pub floor : ℤ
  pub last : ℤ

-- it is stored as the tuple of its parts
abbrev pub chains_code : Coded Chains
chains_code =
    code_by (FinMap name_cmp (List Version) × (ℤ × ℤ))
    (coded× (code name.the_row.coded (coded_list version.the_row.coded)) (coded× coded_ℤ coded_ℤ))
    (λ v. (v.by_name, (v.floor, v.last)))
    (λ p. record { by_name = p.0; floor = p.1.0; last = p.1.1 })
    (λ _. refl)

-- the chain of a name, which may be empty
abbrev pub chain_of : Chains → DocName → List Version
chain_of v name = unwrap_or (get v.by_name name) []

-- no name stands there with a chain that is empty
abbrev pub HasNoEmptyChain : Chains → Type 0
HasNoEmptyChain v = (name : DocName) → get v.by_name name ≢ Some []

-- no version is later than the last batch
abbrev pub EndsByLast : Chains → Type 0
EndsByLast v = (name : DocName) → All (λ w. w.time ≤ℤ v.last) (chain_of v name)

-- ---- what becomes of them: after changes at a time

-- each change puts the version that it leaves behind its name's chain
abbrev pub with_changes : FinMap name_cmp (List Version) → List Change → ℤ → FinMap name_cmp (List Version)
with_changes chains [] time = chains
with_changes chains (c ∷ cs) time = with_changes (insert chains c.name (extended time (Some c) (unwrap_or (get chains c.name) []))) cs time

abbrev pub installed : Chains → List Change → ℤ → Chains
installed v changes time = record { by_name = with_changes v.by_name changes time; floor = v.floor; last = time }

-- ---- from a floor on

-- an entry, if its chain is not empty
abbrev pub with_chain : DocName → List Version → List (DocName × List Version) → List (DocName × List Version)
with_chain name [] es = es
with_chain name (v ∷ vs) es = (name, v ∷ vs) ∷ es

-- those whose chains are not empty
abbrev pub all_full : List (DocName × List Version) → List (DocName × List Version)
all_full [] = []
all_full (e ∷ es) = with_chain e.0 e.1 (all_full es)

-- each name's chain from a floor on, and no name whose chain is empty then
abbrev pub compacted : Chains → ℤ → Chains
compacted v floor = record { by_name = from_entries (all_full (map (λ e. (e.0, cut floor e.1)) (entries v.by_name))); floor = floor; last = v.last }

-- ---- the same, name by name

-- after changes at a time
pub record Installs (old new : Chains) (changes : List Change) (time : ℤ) : Type 0 where
  pub floor : new.floor ≡ old.floor
  pub last : new.last ≡ time
  pub chains : (name : DocName) → chain_of new name ≡ extended time (find name_cmp name (changes_by_name changes)) (chain_of old name)

-- from a floor on
pub record Compacts (old new : Chains) (floor : ℤ) : Type 0 where
  pub to : new.floor ≡ floor
  pub last : new.last ≡ old.last
  pub chains : (name : DocName) → chain_of new name ≡ cut floor (chain_of old name)
