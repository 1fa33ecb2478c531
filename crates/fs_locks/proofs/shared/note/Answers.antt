use Rattle.std.proofs.Common.{rules, Some}
use Rattle.std.specs.Prelude.{◌≡◌}
use Rattle.std.specs.BTreeMap.{is_at}
use Rattle.std.specs.Map.{lookup}
use Rattle.std.specs.Ordering.{nat_cmp}
use Rattle.fs_locks.proofs.Entries.{noted_same}
use Rattle.fs_locks.proofs.shared.note.Goals as goal

pub returns-in-Occupied-clause-err : goal.returns-in-Occupied-clause-err
returns-in-Occupied-clause-err c =
    let had : lookup (is_at (nat_cmp c.args.id)) c.args.by_id.now.entries ≡ Some c.into_mut.result.now = search rules in
    noted_same c.push.result c.args.id c.into_mut.result.now c.push.new.self c.args.by_id.now.entries _ c.entry.ensures.ordered had (search rules) c.push.ensures.err
