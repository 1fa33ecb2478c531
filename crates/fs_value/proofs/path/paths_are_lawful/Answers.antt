use Rattle.fs_value.proofs.PathLaws as laws
use Rattle.fs_value.proofs.path.paths_are_lawful.Goals as goal

pub returns : goal.returns
returns c = record {
  set_there = laws.get-set;
  unset_gone = laws.get-unset;
  set_apart = laws.set_apart;
  unset_apart = laws.unset_apart;
  set_way = laws.set_way;
  unset_way = laws.unset_way;
  unset_absent = laws.unset_absent;
  set_keys = laws.set_keys;
  unset_keys = laws.unset_keys;
}
