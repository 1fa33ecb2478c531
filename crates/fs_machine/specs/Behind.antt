-- What a commit waits behind: the commits that aren't released yet and write a name that it writes too. What it comes to hangs on
-- them, so it isn't prepared before they are released or dropped. Of several the least number is told.
--
--     unreleased    2 writes c/a, 3 writes c/b        a commit of c/b and c/a waits behind 2, one of c/b behind 3, one of c/d behind none
use Rattle.std.specs.Prelude.{ℕ, Bool, List, [], ◌∷◌, Option, Some, None, map, nat_le, if◌then◌else◌}
use Rattle.std.specs.List.{filter, list_any}
use Rattle.fs_write.specs.WrittenName.{is_written, written_name}
use Rattle.fs_write.specs.declared.write.Write.{Write}
use Rattle.fs_machine.specs.Past.{Past}
use Rattle.fs_machine.specs.declared.unreleased.Unreleased.{Unreleased}

-- whether some write names what some other one names
abbrev pub write_same : List Write → List Write → Bool
write_same ws vs = list_any (λ w. is_written (written_name w) vs) ws

-- the numbers of the commits that write a name that these writes write
abbrev pub writing_same : List Unreleased → List Write → List ℕ
writing_same us ws = map (λ u. u.batch.id) (filter (λ u. write_same ws u.batch.writes) us)

abbrev pub lesser : ℕ → Option ℕ → ℕ
lesser n None = n
lesser n (Some other) = if nat_le n other then n else other

-- the least of some numbers
abbrev pub least : List ℕ → Option ℕ
least [] = None
least (n ∷ ns) = Some (lesser n (least ns))

abbrev pub behind : Past → List Write → Option ℕ
behind p ws = least (writing_same p.unreleased ws)
