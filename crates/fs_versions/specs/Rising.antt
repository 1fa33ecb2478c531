-- The versions of a chain come in the order of their times.
use Rattle.std.specs.Prelude.{ℤ, ◌<ℤ◌, List}
use Rattle.std.specs.List.{All, AllPairs}
use Rattle.fs_history.specs.declared.version.Version.{Version}

-- each is before all later ones
abbrev pub TimesRise : List Version → Type 0
TimesRise chain = AllPairs (λ v w. v.time <ℤ w.time) chain

-- all are before a time
abbrev pub AreBefore : List Version → ℤ → Type 0
AreBefore chain time = All (λ v. v.time <ℤ time) chain
