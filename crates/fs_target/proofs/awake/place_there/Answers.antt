use Rattle.std.proofs.Common.{map, subst}
use Rattle.fs_target.specs.Entries.{IsAbsentAt, IsThereAt}
use Rattle.fs_target.specs.Seen.{seen}
use Rattle.fs_target.proofs.awake.place_there.Goals as goal

pub unreachable-requires : goal.unreachable-requires
unreachable-requires c =
    c.requires.there c.in-Err.field-0 (subst (λ k. IsAbsentAt k (map seen c.args.entries.now) c.in-Err.field-0) c.from.ensures c.in-Err.ensures)

pub returns : goal.returns
returns c = subst (λ k. IsThereAt k (map seen c.args.entries.now) c.in-Ok.i) c.from.ensures c.in-Ok.ensures
