-- Only private clauses cite this: the parts of a settling.
use Rattle.std.specs.Prelude.{◌≡◌, ℕ, ℤ, Bool, true, false, int_lt, Some, if◌then◌else◌}
use Rattle.fs_machine.specs.declared.answer.Outcome.{Outcome}
use Rattle.fs_machine.specs.declared.answer.Outcome.TheVariants as outcome
use Rattle.fs_machine.specs.declared.answer.Settled.{Settled}
use Rattle.fs_machine.specs.declared.answer.Settled.TheVariants.{Released, Waiting, Dropped}
use Rattle.fs_machine.specs.declared.unreleased.Unreleased.{Unreleased}
use Rattle.fs_machine.specs.Past.{Past}
use Rattle.fs_machine.specs.Settle.{accepted_in, dropped_from, pending_of, refused_to}
use Rattle.fs_machine.specs.Stream.{Desk}

-- the pending commit of a number is accepted, or dropped and whoever asked is told why, by what its writes come to
abbrev pub Decides : Past → Desk → ℕ → Outcome → Past → Desk → Type 0
Decides p d id (outcome.Effects changes results) q e = (q ≡ record p { unreleased = accepted_in id results p.unreleased }) × (e ≡ d)
Decides p d id (outcome.Refused refusal) q e =
    (q ≡ record p { unreleased = dropped_from id p.unreleased })
    × ((u : Unreleased) → pending_of p id ≡ Some u → e ≡ refused_to u.asker refusal d)

abbrev pub is_refused : Outcome → Bool
is_refused (outcome.Effects changes results) = false
is_refused (outcome.Refused refusal) = true

-- what has become of a commit that was dropped or not, of this time, where so much is released
abbrev pub settled_so : Bool → ℤ → ℤ → Settled
settled_so true time released = Dropped
settled_so false time released = if int_lt released time then Waiting time else Released time
