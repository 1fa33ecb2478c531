use Rattle.fs_versions.proofs.Bounds.{range_lies}
use Rattle.fs_versions.proofs.listed.range_in.Goals as goal

pub returns-in-Some : goal.returns-in-Some
returns-in-Some c = range_lies c.args.scope.now c.in-Some.name.now c.args.chains.now.entries c.range_of.result c.in-Some.ensures c.range_of.ensures
