use Rattle.std.proofs.Common.{◌≡◌, take}
use Rattle.std.specs.List.{filter_map}
use Rattle.fs_target.specs.Entries.{views_in}
use Rattle.fs_target.specs.Looks.{AreAt, all_views}
use Rattle.fs_target.proofs.raise.looks_of.Given as goal

-- the looks at those of the entries so far that are loaded
abbrev pub invariant-loop-entry : goal.invariant-loop-entry
invariant-loop-entry l =
    record {
      views : all_views l.time l.looks.items ≡ filter_map (views_in l.time) (take l.entry-index l.entries);
      latest : AreAt l.time l.looks.items;
    }
