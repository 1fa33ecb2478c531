use Rattle.fs_write.proofs.WriteLaws as laws
use Rattle.fs_write.proofs.write_laws.writes_are_lawful.Goals as goal

pub returns : goal.returns
returns c =
    let paths = c.paths_are_lawful.ensures in
    record {
      fields = laws.law_fields;
      set = laws.law_set;
      masked = λ mask input fs p alone at. laws.law_masked paths.set_there paths.unset_gone paths.set_apart paths.unset_apart mask input fs p alone at;
      unmasked = λ mask input fs q apart. laws.law_unmasked paths.set_there paths.unset_gone paths.set_apart paths.unset_apart mask input fs q apart;
      same = laws.law_same;
      other = laws.law_other;
      created = laws.law_created;
      made = laws.law_made;
      fit = laws.law_fit;
      deleted = laws.law_deleted;
      delete_done = laws.law_delete_done;
    }
