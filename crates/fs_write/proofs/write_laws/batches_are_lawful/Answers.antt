use Rattle.fs_write.proofs.AfterChanges as changes
use Rattle.fs_write.proofs.AfterLaws as after
use Rattle.fs_write.proofs.BatchLaws as laws
use Rattle.fs_write.proofs.write_laws.batches_are_lawful.Goals as goal

pub returns : goal.returns
returns c = record {
  first_refused = laws.law_first_refused;
  refused = laws.law_refused;
  one_list = laws.law_one_list;
  back = laws.law_back;
  differs = laws.law_differs;
  left = after.law_left;
  as_it_was = after.law_as_it_was;
  unwritten = after.law_unwritten;
  unchanged = changes.law_unchanged;
  changed = changes.law_changed;
  at_own_names = changes.law_at_own_names;
  refused_stays = after.law_refused_stays;
  set_last = after.law_set_last;
  delete_last = after.law_delete_last;
  one_delete = laws.law_one_delete;
  named = laws.law_named;
  named_refused = laws.law_named_refused;
}
