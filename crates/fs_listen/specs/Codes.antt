-- The targets of a session, as they are stored: as the tuples of their parts.
use Rattle.std.specs.Prelude.{ℤ, Bool, List, Option, refl}
use Rattle.std.specs.Coded.{Coded, code_by, coded×, coded_bool, coded_ℕ, coded_ℤ, coded_list, coded_option}
use Rattle.std.specs.Ordering.{nat_cmp}
use Rattle.std.specs.FinMap.{FinMap, code}
use Rattle.fs_query.specs.contracts.target.Target as target
use Rattle.fs_query.specs.declared.target.Target.{Target}
use Rattle.fs_listen.specs.Listening.{Loaded, Listened, Listening}

abbrev pub loaded_code : Coded Loaded
loaded_code =
    code_by (ℤ × (Bool × (List (Option ℤ) × Bool))) (coded× coded_ℤ (coded× coded_bool (coded× (coded_list (coded_option coded_ℤ)) coded_bool)))
    (λ l. (l.time, (l.reset, (l.positions, l.current)))) (λ p. record { time = p.0; reset = p.1.0; positions = p.1.1.0; current = p.1.1.1 }) (λ _. refl)

abbrev pub listened_code : Coded Listened
listened_code =
    code_by (Target × (Option ℤ × Option Loaded)) (coded× target.the_row.coded (coded× (coded_option coded_ℤ) (coded_option loaded_code)))
    (λ l. (l.target, (l.token, l.loaded))) (λ p. record { target = p.0; token = p.1.0; loaded = p.1.1 }) (λ _. refl)

abbrev pub listening_code : Coded Listening
listening_code =
    code_by (FinMap nat_cmp Listened × Option ℤ) (coded× (code coded_ℕ listened_code) (coded_option coded_ℤ))
    (λ s. (s.targets, s.raised)) (λ p. record { targets = p.0; raised = p.1 }) (λ _. refl)
