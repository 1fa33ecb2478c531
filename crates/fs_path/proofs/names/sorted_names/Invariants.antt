use Rattle.std.proofs.Common.{◌≡◌, ◌||◌, drop}
use Rattle.std.specs.List.Sorted.{IsStrictlySortedBy}
use Rattle.fs_path.specs.declared.name.DocName.{DocName}
use Rattle.fs_path.proofs.NamesOnce.{is_named, lent_cmp, names_at}
use Rattle.fs_path.proofs.names.sorted_names.Given as goal

-- in order are the names so far, and with those that are left they are all
abbrev pub invariant-loop-name : goal.invariant-loop-name
invariant-loop-name l = record {
  rise : IsStrictlySortedBy lent_cmp l.sorted.keys;
  same : (q : DocName) → (is_named q (names_at l.sorted.keys) || is_named q (drop l.name-index l.name-items)) ≡ is_named q l.name-items;
}
