-- Only the model of a chain and private clauses cite this: a chain's versions, by rising time, and for how many more it has room.
use Rattle.std.specs.Prelude.{ℕ, List, refl}
use Rattle.std.specs.Coded.{Coded, code_by, coded×, coded_ℕ, coded_list}
use Rattle.fs_history.specs.contracts.version.Version as version
use Rattle.fs_history.specs.declared.version.Version.{Version}

pub record Chained : Type 0 where
  pub versions : List Version
  pub room : ℕ

-- it is stored as the pair of its parts
abbrev pub chained_code : Coded Chained
chained_code =
    code_by (List Version × ℕ) (coded× (coded_list version.the_row.coded) coded_ℕ)
    (λ c. (c.versions, c.room)) (λ p. record { versions = p.0; room = p.1 }) (λ _. refl)
