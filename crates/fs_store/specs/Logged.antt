-- The log of a shard: what was changed in it, by commit time, and for how many changes more it has room.
use Rattle.std.specs.Prelude.{◌≡◌, ℕ, ◌≤◌, ℤ, ◌≤ℤ◌, int_le, int_lt, true, false, ◌&&◌, List, length, refl}
use Rattle.std.specs.Coded.{Coded, code_by, coded×, coded_ℕ, coded_list}
use Rattle.std.specs.List.{All, AllPairs, AllWithin, filter}
use Rattle.fs_store.specs.contracts.noted.Noted as noted
use Rattle.fs_store.specs.declared.noted.Noted.{Noted}

pub record Logged : Type 0 where
  pub entries : List Noted
  pub room : ℕ

-- it is stored as the pair of its parts
abbrev pub logged_code : Coded Logged
logged_code =
    code_by (List Noted × ℕ) (coded× (coded_list noted.the_row.coded) coded_ℕ)
    (λ l. (l.entries, l.room)) (λ p. record { entries = p.0; room = p.1 }) (λ _. refl)

-- ---- times

-- none is before an earlier one
abbrev pub AreInOrder : List Noted → Type 0
AreInOrder ns = AllPairs (λ m n. m.time ≤ℤ n.time) ns

-- none is behind a time
abbrev pub AreBy : List Noted → ℤ → Type 0
AreBy ns time = All (λ n. n.time ≤ℤ time) ns

-- those behind a time
abbrev pub noted_after : ℤ → List Noted → List Noted
noted_after from ns = filter (λ n. int_lt from n.time) ns

-- those behind a time, up to another
abbrev pub noted_between : ℤ → ℤ → List Noted → List Noted
noted_between from to ns = filter (λ n. int_lt from n.time && int_le n.time to) ns

-- the first of them, so many, are at or before a time, and the others are later
pub record IsSplit (ns : List Noted) (time : ℤ) (count : ℕ) : Type 0 where
  pub within : count ≤ length ns
  pub first : AllWithin (λ n. int_le n.time time ≡ true) ns 0 count
  pub others : AllWithin (λ n. int_le n.time time ≡ false) ns count (length ns)
