use Rattle.std.proofs.Common.{refl}
use Rattle.fs_query.specs.Fits.{fits}
use Rattle.fs_match.specs.Event.{is_among}
use Rattle.fs_match.proofs.Changes.{one_change_tells, changes_differ, fitting_by_name}
use Rattle.fs_match.proofs.Following.{follows, maps_follow, others}
use Rattle.fs_match.proofs.laws.matching_is_lawful.Goals as goal

pub returns : goal.returns
returns c =
    let law = c.batches_are_lawful.ensures in
    record {
      differ = changes_differ;
      cuts = λ q start end offset limit before after. refl;
      one = one_change_tells;
      by_name = fitting_by_name;
      queries = λ q. follows law.unchanged (fits q);
      names = λ names. follows law.unchanged (is_among names);
      maps = maps_follow law.unchanged;
      others = others;
    }
