-- What a load is answered, and, for private clauses, which target may be loaded.
use Rattle.std.specs.Prelude.{◌≡◌, ℕ, ℤ, ◌≤ℤ◌, ⊤, IfSome, Option, Some, None, Result, Ok, Err}
use Rattle.std.specs.FinMap.{get}
use Rattle.fs_listen.specs.Listening.{Listened}
use Rattle.fs_status.specs.declared.refusal.Refusal.{Refusal}
use Rattle.fs_machine.specs.Listen.{listening_of}
use Rattle.fs_machine.specs.State.{Machine}

abbrev pub answer_of : Option Refusal → Result ⊤ Refusal
answer_of None = Ok tt
answer_of (Some refusal) = Err refusal

-- a target that isn't loaded, and a time that can be read and isn't before what its token shows
abbrev pub IsFreeAt : ℤ → ℤ → ℤ → Option Listened → Type 0
IsFreeAt floor released time None = ⊥
IsFreeAt floor released time (Some l) = (l.loaded ≡ None) × (floor ≤ℤ time) × (time ≤ℤ released) × IfSome l.token (λ k. k ≤ℤ released)

abbrev pub IsFree : Machine → ℕ → ℕ → ℤ → Type 0
IsFree m session target time = IsFreeAt m.past.floor m.past.released time (get (listening_of m session).targets target)
