-- What a write may do.
use Rattle.std.specs.Prelude.{◌≡◌, ℕ, ◌<◌, ◌≤◌, List, ◌++◌, length, take, Option, option_map}
use Rattle.fs_edge.specs.declared.sink.Gave.{Gave}
use Rattle.fs_edge.specs.declared.sink.Gave.TheVariants.{Bytes, Failed}

-- The sink takes at least one byte of a piece that has one, from its front.
abbrev pub Takes : Gave → List ℕ → Type 0
Takes (Bytes n) piece = (n ≤ length piece) × (0 < length piece → 0 < n)
Takes Failed piece = Unit {0}

-- What it holds has grown by the bytes that it took. A failed write leaves it as it was.
abbrev pub WriteAdds : Gave → List ℕ → Option (List ℕ) → Option (List ℕ) → Type 0
WriteAdds (Bytes n) piece before after = after ≡ option_map (λ bytes. bytes ++ take n piece) before
WriteAdds Failed piece before after = after ≡ before
