use Rattle.std.proofs.Common.{[], refl, sym, subst}
use Rattle.fs_path.specs.Scope.{AreShards}
use Rattle.fs_store.proofs.Logging.{are_none}
use Rattle.fs_store.proofs.store.Store.new.Goals as goal

pub returns-clause-shows : goal.returns-clause-shows
returns-clause-shows c = record {
  versions = c.new.ensures.shows;
  ends = tt;
  commits = [];
  brought = refl;
  logs = are_none c.new-2.result.shards c.new.result.chains.floor c.new-2.result.logs (subst AreShards (sym c.new-2.ensures.shards) c.requires) c.new-2.ensures.none;
}
