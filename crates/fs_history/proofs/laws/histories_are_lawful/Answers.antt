use Rattle.fs_history.proofs.Brought as brought
use Rattle.fs_history.proofs.HistoryLaws as history
use Rattle.fs_history.proofs.NamesListed as names
use Rattle.fs_history.proofs.ReadsStay as reads
use Rattle.fs_history.proofs.Serial as serial
use Rattle.fs_history.proofs.VersionLaws as version
use Rattle.fs_history.proofs.laws.histories_are_lawful.Goals as goal

pub returns : goal.returns
returns c =
    let law = c.batches_are_lawful.ensures in
    record {
      at_whole = history.at_whole;
      before_whole = history.before_whole;
      later = history.later_unseen;
      until = brought.at_until;
      batches = history.batch_by_batch;
      changes = history.changes_differ law.changed;
      last_changes = λ b h cs rs had. law.changed _ b.writes b.time cs rs had;
      versions = version.versions_show law.unchanged;
      chain = version.chain_shows law.unchanged;
      newest = version.chain_ends law.unchanged;
      chains_tell = version.chains_tell law.unchanged;
      own_names = names.own_names law.at_own_names;
      listed = names.listed_by_name law.at_own_names;
      reads_stay = reads.reads_stay law.at_own_names;
      serial = serial.serial_is;
    }
