-- What is told of the changes that were noted: for each what the versions show just before its time and at it, with the others of its commit.
--
--     noted    5 c/a    7 c/a    7 c/b            versions of c/a: {n: 1} at 5, none at 7      of c/b: {n: 2} at 7
--     told     at 5 c/a from none to {n: 1};  at 7 c/a from {n: 1} to none and c/b from none to {n: 2}
use Rattle.std.specs.Prelude.{◌-ℤ◌, pos, List, [], ◌∷◌, ◌++◌, if◌then◌else◌}
use Rattle.std.specs.Ordering.{is_eq, int_cmp}
use Rattle.fs_write.specs.declared.change.Change.{Change}
use Rattle.fs_write.specs.declared.timed_change.TimedChange.{TimedChange}
use Rattle.fs_versions.specs.Chain.{shown_at}
use Rattle.fs_versions.specs.Chains.{Chains, chain_of}
use Rattle.fs_store.specs.declared.noted.Noted.{Noted}

abbrev pub change_told : Chains → Noted → Change
change_told v n = record { name = n.name; before = shown_at (n.time -ℤ pos 1) (chain_of v n.name); after = shown_at n.time (chain_of v n.name) }

-- ---- the changes of a commit together

abbrev pub begun : Noted → Change → TimedChange
begun n change = record { time = n.time; id = n.id; changes = change ∷ [] }

-- with one change more: behind the last commit, or as the first of another
abbrev pub with_change : List TimedChange → Noted → Change → List TimedChange
with_change [] n change = begun n change ∷ []
with_change (c ∷ []) n change = if is_eq (int_cmp c.time n.time) then record c { changes = c.changes ++ change ∷ [] } ∷ [] else c ∷ begun n change ∷ []
with_change (c ∷ d ∷ cs) n change = c ∷ with_change (d ∷ cs) n change

abbrev pub told_behind : Chains → List TimedChange → List Noted → List TimedChange
told_behind v cs [] = cs
told_behind v cs (n ∷ ns) = told_behind v (with_change cs n (change_told v n)) ns

abbrev pub told : Chains → List Noted → List TimedChange
told v ns = told_behind v [] ns
