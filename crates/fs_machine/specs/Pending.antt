-- The commit that is to be settled next: the earliest that is pending.
use Rattle.std.specs.Prelude.{ℕ, List, [], ◌∷◌, Option, Some, None, if◌then◌else◌}
use Rattle.fs_machine.specs.Past.{Past, is_pending}
use Rattle.fs_machine.specs.declared.unreleased.Unreleased.{Unreleased}

abbrev pub next_in : List Unreleased → Option ℕ
next_in [] = None
next_in (u ∷ us) = if is_pending u then Some u.batch.id else next_in us

abbrev pub next_pending : Past → Option ℕ
next_pending p = next_in p.unreleased
