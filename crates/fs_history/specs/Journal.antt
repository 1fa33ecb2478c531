-- What contracts see of a journal: its history, the newest batch in front, and for how many more it has room.
use Rattle.std.specs.Prelude.{ℕ, List, refl}
use Rattle.std.specs.Coded.{Coded, code_by, coded×, coded_ℕ, coded_list}
use Rattle.fs_history.specs.contracts.batch.Batch as batch
use Rattle.fs_history.specs.declared.batch.Batch.{Batch}

pub record Recorded : Type 0 where
  pub history : List Batch
  pub room : ℕ

-- it is stored as the pair of its parts
abbrev pub recorded_code : Coded Recorded
recorded_code =
    code_by (List Batch × ℕ) (coded× (coded_list batch.the_row.coded) coded_ℕ)
    (λ r. (r.history, r.room)) (λ p. record { history = p.0; room = p.1 }) (λ _. refl)
