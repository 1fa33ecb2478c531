-- What a read may do.
use Rattle.std.specs.Prelude.{◌≡◌, ℕ, ◌<◌, ◌≤◌, List, [], ◌++◌, length, take, Option, option_map, IfSome}
use Rattle.fs_edge.specs.declared.source.Took.{Took}
use Rattle.fs_edge.specs.declared.source.Took.TheVariants.{Bytes, End, Failed}

-- It gives at least one byte, and no more than the buffer holds. Only into an empty buffer does it give none.
abbrev pub Fills : Took → List ℕ → Type 0
Fills (Bytes n) buffer = (n ≤ length buffer) × (0 < length buffer → 0 < n)
Fills End buffer = Unit {0}
Fills Failed buffer = Unit {0}

-- What was left is the bytes that it took, which stand at the front of the buffer now, and then what is left. The end
-- is told only where nothing is left. A failed read takes nothing.
abbrev pub ReadGives : Took → List ℕ → Option (List ℕ) → Option (List ℕ) → Type 0
ReadGives (Bytes n) buffer before after = before ≡ option_map (λ rest. take n buffer ++ rest) after
ReadGives End buffer before after = (after ≡ before) × IfSome before (λ bytes. bytes ≡ [])
ReadGives Failed buffer before after = after ≡ before
