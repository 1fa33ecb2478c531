-- What is held: names that commits write, exclusively, and what transactions have read, shared.
use Rattle.std.specs.Prelude.{List, refl}
use Rattle.std.specs.Coded.{Coded, code_by, coded×, coded_list}
use Rattle.fs_locks.specs.Holds.{Hold, hold_code}
use Rattle.fs_locks.specs.Shares.{Shares, shares_code}

pub record Locked : Type 0 where
  pub exclusive : List Hold
  pub shared : Shares

-- it is stored as the tuple of its parts
abbrev pub locked_code : Coded Locked
locked_code =
    code_by (List Hold × Shares)
    (coded× (coded_list hold_code) shares_code)
    (λ l. (l.exclusive, l.shared))
    (λ p. record { exclusive = p.0; shared = p.1 })
    (λ _. refl)
